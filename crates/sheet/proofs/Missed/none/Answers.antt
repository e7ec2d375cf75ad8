-- `sheet::Missed::none` meets its contract. Assumes nothing.
use mathlib.Core.Path.{refl}
use Rattle.rules.specs.Sheet.{missed_by}
use Rattle.sheet.proofs.Missed.none.Goals as goal

pub returns : goal.returns
unfolding missed_by
returns c = refl
