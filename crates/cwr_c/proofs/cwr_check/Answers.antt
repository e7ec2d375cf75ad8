-- `cwr_c::cwr_check` meets its contract. Assumes nothing.
use Rattle.cwr_c.proofs.Laws.{checked}
use Rattle.cwr_c.proofs.cwr_check.Goals as goal

pub returns : goal.returns
returns c = checked c.check_short.result c.packed.ensures _ _ _ _ _ _ _ c.check_short.ensures
