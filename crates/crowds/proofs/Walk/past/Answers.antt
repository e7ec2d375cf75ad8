-- `crowds::Walk::past` meets its contract: each field is what its call says.
use Rattle.kinds.proofs.Laws.{same-detail}
use Rattle.crowds.specs.Crowded.{passed}
use Rattle.crowds.proofs.Walk.past.Goals as goal

pub returns : goal.returns
unfolding passed
returns c =
    rw (c.pick-2.ensures, c.pick.ensures, c.size.ensures, c.pick-claims.ensures, c.eq-detail.ensures, same-detail, c.is_claim-claim.ensures)
