use mathlib.Core.Path.{◌≡◌}
use mathlib.Core.List.{[], ◌∷◌}
use lib.ListN.{drop}
use Rattle.kinds.specs.Rows.{first_row}
use Rattle.kinds.proofs.search.Given as goal

abbrev pub invariant-loop-row : goal.invariant-loop-row
invariant-loop-row l = first_row (drop l.row-index l.row-items) (l.a ∷ l.b ∷ l.c ∷ []) ≡ first_row l.row-items (l.a ∷ l.b ∷ l.c ∷ [])
