-- Lists, of records above all, with one element more at their end, as a walk meets them. Assumes nothing.
use Prim.Native.Nat.{ℕ, suc, ◌+◌, ◌*◌, ◌≤◌}
use native.Mathlib.Omega.{arith}
use native.Mathlib.Nat.{mul-suc}
use mathlib.Core.Path.{◌≡◌, refl, sym}
use mathlib.Core.Bool.{Bool, true, false, cond, ◌||◌, or_assoc, or-false}
use mathlib.Core.List.{List, [], ◌∷◌, ◌++◌}
use lib.ListN.{length}
use Rattle.format.specs.Bytes.{Bytes}
use Rattle.rules.specs.Records.{only, any}
use Rattle.rules.specs.Totals.{sum_of}

module _ {A : Type 0} where
  cond-append : (b : Bool) (y : A) (xs : List A) (x : A) → cond b (y ∷ xs) xs ++ x ∷ [] ≡ cond b (y ∷ (xs ++ x ∷ [])) (xs ++ x ∷ [])
  cond-append true y xs x = refl
  cond-append false y xs x = refl

  cond-length : (b : Bool) (y : A) (xs : List A) → length (cond b (y ∷ xs) xs) ≡ cond b 1 0 + length xs
  cond-length true y xs = omega arith
  cond-length false y xs = omega arith

module _ {A : Type 0} (p : A → Bool) where
  pub only_kept : (xs : List A) (x : A) → p x ≡ true → only p (xs ++ x ∷ []) ≡ only p xs ++ x ∷ []
  only_kept [] x e = rw e
  only_kept (y ∷ xs) x e = rw (only_kept xs x e) (sym (cond-append (p y) y (only p xs) x))

  pub only-left : (xs : List A) (x : A) → p x ≡ false → only p (xs ++ x ∷ []) ≡ only p xs
  only-left [] x e = rw e
  only-left (y ∷ xs) x e = rw (only-left xs x e)

  pub any_last : (xs : List A) (x : A) → any p (xs ++ x ∷ []) ≡ (any p xs || p x)
  any_last [] x = or-false (p x)
  any_last (y ∷ xs) x = rw (any_last xs x) (sym (or_assoc (p y) (any p xs) (p x)))

  pub count-last : (xs : List A) (x : A) → length (only p (xs ++ x ∷ [])) ≡ length (only p xs) + cond (p x) 1 0
  count-last [] x = rw (cond-length (p x) x []) (omega arith)
  count-last (y ∷ xs) x = rw (cond-length (p y) y (only p (xs ++ x ∷ [])), cond-length (p y) y (only p xs), count-last xs x) (omega arith)

  pub only-fewer : (xs : List A) → length (only p xs) ≤ length xs
  only-fewer [] = omega arith
  only-fewer (y ∷ xs) = rw (cond-length (p y) y (only p xs)) (fewer (p y) (only-fewer xs))
    where
      fewer : (b : Bool) {m n : ℕ} → m ≤ n → cond b 1 0 + m ≤ suc n
      fewer true h = omega arith
      fewer false h = omega arith

-- ---- sums over records

cond-sum : (f : Bytes → ℕ) (b : Bool) (q : Bytes) (rs : List Bytes) → sum_of f (cond b (q ∷ rs) rs) ≡ cond b (f q) 0 + sum_of f rs
cond-sum f true q rs = refl
cond-sum f false q rs = omega arith

pub sum-last : (f : Bytes → ℕ) (rs : List Bytes) (r : Bytes) → sum_of f (rs ++ r ∷ []) ≡ sum_of f rs + f r
sum-last f [] r = omega arith
sum-last f (q ∷ rs) r = rw (sum-last f rs r) (omega arith)

pub sum-only-last : (p : Bytes → Bool) (f : Bytes → ℕ) (rs : List Bytes) (r : Bytes)
    → sum_of f (only p (rs ++ r ∷ [])) ≡ sum_of f (only p rs) + cond (p r) (f r) 0
sum-only-last p f [] r = rw (cond-sum f (p r) r []) (omega arith)
sum-only-last p f (q ∷ rs) r =
    rw (cond-sum f (p q) q (only p (rs ++ r ∷ [])), cond-sum f (p q) q (only p rs), sum-only-last p f rs r) (omega arith)

pub sum-most : (f : Bytes → ℕ) (m : ℕ) → ((r : Bytes) → f r ≤ m) → (rs : List Bytes) → sum_of f rs ≤ m * length rs
sum-most f m h [] = omega arith
sum-most f m h (q ∷ rs) = rw mul-suc (omega (arith, h q, sum-most f m h rs))
