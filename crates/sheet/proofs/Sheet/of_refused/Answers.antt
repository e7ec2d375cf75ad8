-- `sheet::Sheet::of_refused` meets its contract. Assumes nothing.
use Rattle.sheet.proofs.OneFile.{of-refused}
use Rattle.sheet.proofs.Sheet.of_refused.Goals as goal

pub returns : goal.returns
returns c x e = of-refused x e _ c.fresh-one.ensures
