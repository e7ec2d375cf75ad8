-- `cwr_c::cwr_number` meets its contract. Assumes nothing.
use Rattle.cwr_c.proofs.Laws.{numbered}
use Rattle.cwr_c.proofs.cwr_number.Goals as goal

pub returns : goal.returns
returns c = numbered c.number.result c.packed.ensures _ _ _ c.number.ensures
