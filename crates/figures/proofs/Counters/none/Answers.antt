-- `figures::Counters::none` meets its contract. Assumes nothing.
use Rattle.std.proofs.Common.{refl}
use Rattle.rules.specs.Sheet.{counts_by_finding}
use Rattle.figures.specs.Counted.{counts_by_level}
use Rattle.figures.proofs.Counters.none.Goals as goal

pub returns : goal.returns
unfolding counts_by_finding counts_by_level
returns c = record { by_finding = refl; by_level = refl }
