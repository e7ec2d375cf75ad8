-- `sheet_bytes::load` meets its contract: the numbers before i are read. Assumes nothing.
use Prim.Native.Nat.{◌≤◌}
use native.Mathlib.Omega.{arith}
use mathlib.Core.Path.{◌≡◌, sym, ap, ◌∙◌}
use lib.ListN.{length}
use lib.Seq.{take_all}
use Rattle.sheet_bytes.specs.Layout.{numbers_at}
use Rattle.sheet_bytes.proofs.Numbers.{load-on}
use Rattle.sheet_bytes.proofs.load.Goals as goal

pub loop-i-preserved : goal.loop-i-preserved
loop-i-preserved c =
    let l = c.loop-i in
    load-on c.args.bytes.now c.args.k l.i l.numbers l.invariant (omega arith) _ c.number_at.ensures

pub returns : goal.returns
returns c =
    let l = c.loop-i in
    let g = c.args in
    let done : length l.numbers ≤ l.i = omega arith in
    let all : l.i ≡ length g.numbers.now = omega arith in
    sym (take_all l.i l.numbers done) ∙ l.invariant ∙ ap (numbers_at g.bytes.now g.k) all
