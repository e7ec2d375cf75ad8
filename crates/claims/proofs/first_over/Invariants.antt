use Prim.Native.Nat.{ℕ, ◌-◌}
use mathlib.Core.Path.{◌≡◌}
use mathlib.Core.List.{List}
use Rattle.rules.specs.Territories.{territories_in}
use Rattle.claims.specs.declared.Claim.{Claim}
use Rattle.claims.specs.Entries.{is_over_at, first_from, over_in}
use Rattle.claims.specs.Work.{Counted}
use Rattle.claims.proofs.first_over.Given as goal

abbrev pub invariant-loop-j : goal.invariant-loop-j
invariant-loop-j l =
    (es : List Claim) (last : ℕ) → Counted l.table es last l.work
    → first_from (is_over_at (territories_in l.table) l.t es) l.j (l.n - l.j) ≡ over_in l.table l.t es
