-- `sheet::Sheet::of_passed` meets its contract. Assumes nothing.
use Rattle.sheet.proofs.OneFile.{of-passed}
use Rattle.sheet.proofs.Sheet.of_passed.Goals as goal

pub returns : goal.returns
returns c x e h = of-passed x e _ h _ _ _ c.of.ensures c.of-2.ensures c.of-3.ensures
