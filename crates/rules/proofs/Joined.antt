-- Lists joined one after the other, and the bytes of sets of findings so joined. Assumes nothing.
use mathlib.Core.Path.{◌≡◌, refl, ◌∙◌}
use mathlib.Core.Bool.{Bool}
use mathlib.Core.List.{List, [], ◌∷◌, ◌++◌, append_assoc, append-nil}
use Prim.Native.Nat.{ℕ, ◌*◌}
use native.Mathlib.Omega.{arith}
use lib.ListN.{length, length-append}
use Rattle.format.specs.Bytes.{All, bytes_of}
use Rattle.format.proofs.Logic.{All-append}
use Rattle.format.proofs.Decimal.{length-bytes}
use Rattle.rules.specs.Findings.{set_of}
use Rattle.rules.specs.Verdicts.{joined, finding_bytes}

module _ {A B : Type 0} (f : A → List B) where
  pub joined-one : (x : A) → joined f (x ∷ []) ≡ f x
  joined-one x = append-nil (f x)

  pub joined-append : (xs ys : List A) → joined f (xs ++ ys) ≡ joined f xs ++ joined f ys
  joined-append [] ys = refl
  joined-append (x ∷ xs) ys = rw (joined-append xs ys, append_assoc)

  -- lists of one length
  pub length-joined : (w : ℕ) → ((x : A) → length (f x) ≡ w) → (xs : List A) → length (joined f xs) ≡ w * length xs
  length-joined w e [] = omega arith
  length-joined w e (x ∷ xs) = length-append (f x) (joined f xs) ∙ omega (arith, e x, length-joined w e xs)

-- what holds of each element of each holds of all
pub joined-all : {A B : Type 0} (P : B → Type 0) (f : A → List B) → ((x : A) → All P (f x)) → (xs : List A) → All P (joined f xs)
joined-all P f h [] = tt
joined-all P f h (x ∷ xs) = All-append P (f x) (joined f xs) (h x) (joined-all P f h xs)

pub findings-one : (set : List Bool) → finding_bytes (set ∷ []) ≡ bytes_of 8 (set_of set)
unfolding finding_bytes
findings-one set = append-nil (bytes_of 8 (set_of set))

pub findings-append : (fs gs : List (List Bool)) → finding_bytes (fs ++ gs) ≡ finding_bytes fs ++ finding_bytes gs
unfolding finding_bytes
findings-append fs gs = joined-append (λ (set : List Bool). bytes_of 8 (set_of set)) fs gs

pub length-findings : (fs : List (List Bool)) → length (finding_bytes fs) ≡ 8 * length fs
unfolding finding_bytes
length-findings fs =
    length-joined (λ (set : List Bool). bytes_of 8 (set_of set)) 8 (λ set. length-bytes 8 (set_of set)) fs
