-- Faults as code has them, and two small laws of what decides them. Assumes nothing.
use Prim.Native.Nat.{ℕ}
use mathlib.Core.Path.{◌≡◌, refl, ap, ◌∙◌}
use mathlib.Core.Bool.{Bool, true, false, ◌||◌}
use mathlib.Core.Option.{Option}
use Rattle.std.specs.Prelude.{Option as CodeOption, None, Some}
use Rattle.std.specs.Option.{option_or}
use Rattle.format.specs.Structure.{unless}
use Rattle.structure.specs.Rest.{or_else}
use Rattle.structure.specs.Walk.{fault_in}

-- the first of two faults, of which the second is the fault x
pub fault_first : {f : CodeOption ℕ} (a b : CodeOption ℕ) {x : Option ℕ} → f ≡ option_or a b → fault_in b ≡ x
    → fault_in f ≡ or_else (fault_in a) x
fault_first None b e h = ap fault_in e ∙ h
fault_first (Some n) b e h = ap fault_in e

-- the same where the second is none exactly where a test passes
pub fault_unless : {f : CodeOption ℕ} (a b : CodeOption ℕ) {ok test : Bool} (place : ℕ) → f ≡ option_or a b
    → fault_in b ≡ unless ok place → ok ≡ test → fault_in f ≡ or_else (fault_in a) (unless test place)
fault_unless a b place e h t = fault_first a b e (h ∙ ap (λ (k : Bool). unless k place) t)

-- an alternative that comes before another, or after it
pub or_swap : (a b c : Bool) → (a || (b || c)) ≡ (b || (a || c))
or_swap true true c = refl
or_swap true false c = refl
or_swap false b c = refl
