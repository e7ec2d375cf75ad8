-- `kinds::table` meets its contract: the table and `kinds` compute to the same rows.
-- Assumes nothing.
use mathlib.Core.Path.{refl}
use Rattle.format.specs.Cwr22.{rows22}
use Rattle.format.specs.Stages.{spots, begins, stages}
use Rattle.kinds.specs.Rows.{kinds, sort_of}
use Rattle.kinds.proofs.table.Goals as goal

pub returns : goal.returns
unfolding kinds rows22 spots begins stages sort_of
returns c = refl
