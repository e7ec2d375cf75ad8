-- `edits::other::misplaced` meets its contract.
-- Assumes nothing.
use mathlib.Core.Bool.{true}
use mathlib.Core.List.{[], ◌∷◌}
use Rattle.edits.proofs.Own.{own-24}
use Rattle.edits.proofs.other.misplaced.Goals as goal

pub returns : goal.returns
returns c tables before d h = own-24 tables before d h (true ∷ []) _ (rw h) c.gather.ensures.set_value c.gather.ensures.level_value
