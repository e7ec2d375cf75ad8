-- `text::decimal` meets its contract: the digits of rest, and then the bytes from i on, are the digits of n.
use mathlib.Core.Path.{◌≡◌, ◌∙◌}
use mathlib.Core.List.{append-nil}
use native.Mathlib.Omega.{arith}
use lib.ListN.{length-set}
use lib.Seq.{drop-length}
use Rattle.format.specs.Bytes.{decimal}
use Rattle.text.proofs.Laws.{decimal-on}
use Rattle.text.proofs.decimal.Goals as goal

pub loop-i-init : goal.loop-i-init
loop-i-init c = (omega arith, omega arith, rw (drop-length, append-nil))

pub loop-i-preserved : goal.loop-i-preserved
loop-i-preserved c =
    let l = c.loop-i in (
      simp length-set (omega arith),
      simp length-set (omega arith),
      decimal-on l.rest l.i l.out c.loop-i-test.true l.invariant.0 ∙ l.invariant.2,
    )

pub returns : goal.returns
unfolding decimal
returns c = let l = c.loop-i in let e : l.i ≡ 0 = omega arith in rw e at l.invariant.2
