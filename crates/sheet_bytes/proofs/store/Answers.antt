-- `sheet_bytes::store` meets its contract: the numbers before i are put. Assumes nothing.
use mathlib.Core.Path.{refl, ◌∙◌}
use native.Mathlib.Omega.{arith}
use Rattle.sheet_bytes.proofs.Numbers.{store-none, store-on, store-end}
use Rattle.sheet_bytes.proofs.store.Goals as goal

pub loop-i-init : goal.loop-i-init
loop-i-init c = (refl, store-none c.args.k c.args.bytes.now)

pub loop-i-preserved : goal.loop-i-preserved
loop-i-preserved c =
    let l = c.loop-i in
    let g = c.args in (
      c.put_number.auto.bytes ∙ l.invariant.0,
      store-on g.k g.numbers.now g.bytes.now l.bytes l.i l.invariant.1 c.requires (omega arith) _ c.put_number.ensures,
    )

pub returns : goal.returns
returns c =
    let l = c.loop-i in
    let g = c.args in
    store-end g.k g.numbers.now g.bytes.now l.bytes l.i l.invariant.1 (omega arith)
