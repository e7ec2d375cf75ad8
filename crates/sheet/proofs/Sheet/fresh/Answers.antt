-- `sheet::Sheet::fresh` meets its contract. Assumes nothing.
use Rattle.sheet.proofs.OneFile.{of_none}
use Rattle.sheet.proofs.Sheet.fresh.Goals as goal

pub returns : goal.returns
returns c = of_none _ c.none-none.ensures
