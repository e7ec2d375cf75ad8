-- `parties::Largest::fits` meets its contract. Assumes nothing.
use native.Mathlib.Omega.{arith}
use Rattle.parties.proofs.Shares.{at-most-before, at-most-current, all_fit}
use Rattle.parties.proofs.Largest.fits.Goals as goal

pub with-total-requires : goal.with-total-requires
with-total-requires c =
    let (es, most, few) = c.requires in
    (at-most-before most (omega (arith, few)), at-most-current most (omega arith))

pub returns : goal.returns
returns c es most fits =
    let with = c.with-total in
    all_fit most with.result with.ensures _ (rw (c.at_most.ensures, c.at_most-2.ensures, c.at_most-3.ensures) at fits)
