-- `kinds::is_type` meets its contract.
-- Assumes nothing.
use mathlib.Core.Bool.{and_assoc, and-true}
use Rattle.kinds.proofs.is_type.Goals as goal

pub returns : goal.returns
returns c = simp (and_assoc, and-true)
