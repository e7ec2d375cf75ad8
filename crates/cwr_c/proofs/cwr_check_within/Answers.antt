-- `cwr_c::cwr_check_within` meets its contract. Assumes nothing.
use Rattle.cwr_c.proofs.Laws.{checked}
use Rattle.cwr_c.proofs.cwr_check_within.Goals as goal

pub returns : goal.returns
returns c = checked c.check.result c.packed.ensures _ _ _ _ _ _ _ c.check.ensures
