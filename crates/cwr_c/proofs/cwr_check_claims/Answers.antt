-- `cwr_c::cwr_check_claims` meets its contract: with a last buffer that is too short the call is refused, else the check is made and told.
-- Assumes nothing.
use Rattle.cwr_c.proofs.ClaimsLaws.{short, checked}
use Rattle.cwr_c.proofs.cwr_check_claims.Goals as goal

pub returns-then-over-lt8 : goal.returns-then-over-lt8
returns-then-over-lt8 c = short c.if-over-lt8.true c.refuse.ensures

pub returns : goal.returns
returns c = checked c.if-over-lt8.false c.check-r.ensures c.tell.ensures.number c.tell.ensures.left
