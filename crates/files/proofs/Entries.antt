-- The entries of a record without findings, and of parts of records one after the other. Assumes nothing.
use Prim.Native.Nat.{ℕ}
use mathlib.Core.Path.{◌≡◌, refl, ap, ◌∙◌}
use mathlib.Core.Bool.{Bool}
use mathlib.Core.List.{List, [], ◌∷◌, ◌++◌}
use Rattle.format.specs.Bytes.{Bytes}
use Rattle.rules.specs.Findings.{set_of}
use Rattle.rules.specs.Verdicts.{joined}
use Rattle.rules.proofs.Joined.{joined-one, joined-append}
use Rattle.transactions.specs.Walk.{Filled}
use Rattle.transactions.proofs.Entries.{filled-then}

-- the set of a record that has no finding
pub nothing : 0 ≡ set_of []
unfolding set_of
nothing = refl

pub joined-last : {A B : Type 0} (f : A → List B) (xs : List A) (x : A) → joined f (xs ++ x ∷ []) ≡ joined f xs ++ f x
joined-last f xs x = joined-append f xs (x ∷ []) ∙ ap (λ l. joined f xs ++ l) (joined-one f x)

-- one part more
pub filled-part : {A : Type 0} (verdicts_of : A → List ℕ) (sets_of : A → List (List Bool)) (xs : List A) (x : A) {i n n' : ℕ}
    → {v₀ g₀ v g v' g' : Bytes}
    → Filled i n (joined verdicts_of xs) (joined sets_of xs) v₀ g₀ v g → Filled n n' (verdicts_of x) (sets_of x) v g v' g'
    → Filled i n' (joined verdicts_of (xs ++ x ∷ [])) (joined sets_of (xs ++ x ∷ [])) v₀ g₀ v' g'
filled-part verdicts_of sets_of xs x before one = rw (joined-last verdicts_of xs x, joined-last sets_of xs x) (filled-then before one)
