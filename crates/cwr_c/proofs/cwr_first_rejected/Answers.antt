-- `cwr_c::cwr_first_rejected` meets its contract. Assumes nothing.
use Rattle.cwr_c.proofs.Laws.{first-rejected}
use Rattle.cwr_c.proofs.cwr_first_rejected.Goals as goal

pub returns : goal.returns
returns c = first-rejected c.first_rejected.result c.packed.ensures _ _ _ c.first_rejected.ensures
