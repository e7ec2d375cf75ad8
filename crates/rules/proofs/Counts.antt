-- Counts, largest numbers and sums over lists that stand one after the other. Assumes nothing.
use Prim.Native.Nat.{ℕ, zero, suc, ◌+◌, ◌≤◌, max}
use native.Mathlib.Omega.{arith}
use mathlib.Core.Path.{◌≡◌, refl, sym, ap, ◌∙◌}
use mathlib.Core.Bool.{Bool, true, false, cond}
use mathlib.Core.List.{List, [], ◌∷◌, ◌++◌, map, map-append}
use lib.Dec.{leb}
use lib.IntN.{ℤ, ◌+ℤ◌, +ℤ_idl, +ℤ_assoc}
use lib.ListN.{length, length-append}
use borrow.Author.Tests.{leb-true, leb-false}
use Rattle.format.proofs.Tests.{by_cases}
use Rattle.rules.specs.Records.{only}
use Rattle.rules.specs.Findings.{larger}
use Rattle.rules.specs.Sheet.{how_many, largest, sumℤ, each}
use Rattle.rules.specs.Claims.{sum}
use Rattle.rules.proofs.Lists.{only-fewer}

-- ---- those that pass

module _ {A : Type 0} (p : A → Bool) where
  pub only-append : (xs ys : List A) → only p (xs ++ ys) ≡ only p xs ++ only p ys
  only-append [] ys = refl
  only-append (x ∷ xs) ys = rw (only-append xs ys) (choice (p x))
    where
      choice : (b : Bool) → cond b (x ∷ (only p xs ++ only p ys)) (only p xs ++ only p ys) ≡ cond b (x ∷ only p xs) (only p xs) ++ only p ys
      choice true = refl
      choice false = refl

  pub how_many-append : (xs ys : List A) → how_many p (xs ++ ys) ≡ how_many p xs + how_many p ys
  how_many-append xs ys = ap length (only-append xs ys) ∙ length-append (only p xs) (only p ys)

  pub how_many-most : (xs : List A) → how_many p xs ≤ length xs
  how_many-most = only-fewer p

-- ---- the largest

pub larger-max : (a b : ℕ) → larger a b ≡ max a b
larger-max a b =
    by_cases (leb a b)
    (λ e. rw e (let h = leb-true a b e in omega arith))
    (λ e. rw e (let h = leb-false a b e in omega arith))

pub largest-append : (ms ns : List ℕ) → largest (ms ++ ns) ≡ larger (largest ms) (largest ns)
largest-append [] ns = rw (larger-max 0 (largest ns)) (omega arith)
largest-append (m ∷ ms) ns =
    rw (
      largest-append ms ns,
      larger-max (largest ms) (largest ns),
      larger-max m (max (largest ms) (largest ns)),
      larger-max m (largest ms),
      larger-max (max m (largest ms)) (largest ns),
    )
    (omega arith)

pub largest-of : {A : Type 0} (f : A → ℕ) (xs ys : List A) → largest (map f (xs ++ ys)) ≡ larger (largest (map f xs)) (largest (map f ys))
largest-of f xs ys = ap largest (map-append f xs ys) ∙ largest-append (map f xs) (map f ys)

-- ---- sums

pub sum-append : (ms ns : List ℕ) → sum (ms ++ ns) ≡ sum ms + sum ns
sum-append [] ns = omega arith
sum-append (m ∷ ms) ns = omega (arith, sum-append ms ns)

pub sumℤ-append : (ys zs : List ℤ) → sumℤ (ys ++ zs) ≡ sumℤ ys +ℤ sumℤ zs
sumℤ-append [] zs = sym (+ℤ_idl (sumℤ zs))
sumℤ-append (y ∷ ys) zs = rw (sumℤ-append ys zs) (sym (+ℤ_assoc y (sumℤ ys) (sumℤ zs)))

pub sumℤ-of : {A : Type 0} (f : A → ℤ) (xs ys : List A) → sumℤ (map f (xs ++ ys)) ≡ sumℤ (map f xs) +ℤ sumℤ (map f ys)
sumℤ-of f xs ys = ap sumℤ (map-append f xs ys) ∙ sumℤ-append (map f xs) (map f ys)

-- ---- one number for each k

pub each_same : (n : ℕ) (f g : ℕ → ℕ) → ((k : ℕ) → f k ≡ g k) → each n f ≡ each n g
each_same zero f g e = refl
each_same (suc n) f g e = rw (e 0, each_same n (λ k. f (suc k)) (λ k. g (suc k)) (λ k. e (suc k)))
