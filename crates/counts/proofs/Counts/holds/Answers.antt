-- `counts::Counts::holds` meets its contract: the numbers are those that the format expects, where it has them.
-- Assumes nothing.
use mathlib.Core.Path.{◌∙◌}
use native.Mathlib.Omega.{arith}
use Rattle.format.specs.Fields.{field_of}
use Rattle.counts.proofs.Counts.holds.Goals as goal

pub stand_in-requires : goal.stand_in-requires
stand_in-requires c = let r = c.numbers_for.ensures in omega (arith, r.start, r.wide)

pub returns : goal.returns
unfolding field_of
returns c = let r = c.numbers_for.ensures in c.stand_in.ensures ∙ rw (r.start, r.wide, r.right)
