-- `parties::Largest::with` meets its contract. Assumes nothing.
use native.Mathlib.Omega.{arith}
use borrow.Author.Tests.{eq-eqb, ne_eqb}
use Rattle.parties.proofs.Shares.{most-ignored, most-on, at-most-before, at-most-current}
use Rattle.parties.proofs.Largest.with.Goals as goal

pub returns-then-claim-eq0 : goal.returns-then-claim-eq0
returns-then-claim-eq0 c es most = most-ignored most _ (eq-eqb _ 0 c.if-claim-eq0.true)

pub with-requires : goal.with-requires
with-requires c =
    let (es, most, few) = c.requires in
    (at-most-before most (omega (arith, few)), c.only.ensures.by_index _ (at-most-current most (omega arith)))

pub returns : goal.returns
returns c es most =
    most-on most _ (ne_eqb _ 0 c.if-claim-eq0.false) (omega arith, omega arith, omega arith)
    _ _ _ _ c.only.ensures.value c.only-2.ensures.value c.with.ensures c.larger_of.ensures
