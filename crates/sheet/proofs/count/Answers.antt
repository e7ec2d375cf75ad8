-- `sheet::count` meets its contract. Assumes nothing.
use mathlib.Core.Path.{refl}
use Rattle.sheet.proofs.count.Goals as goal

pub returns : goal.returns
returns c = c.count_file.ensures.figures_of _ c.index.ensures refl
