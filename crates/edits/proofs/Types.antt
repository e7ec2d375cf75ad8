-- The type of a record: one type rules out the others. Assumes nothing.
use mathlib.Core.Path.{◌≡◌, refl, sym, ap, ◌∙◌}
use mathlib.Core.Bool.{Bool, true, false, not, ◌||◌}
use mathlib.Core.List.{[], ◌∷◌}
use Prim.Native.Nat.{ℕ, ◌≤◌}
use native.Mathlib.Omega.{arith}
use lib.Dec.{eqb}
use lib.ListN.{length, get_or, take}
use borrow.Author.Tests.{eqb-true, eq-eqb, ne_eqb}
use Rattle.format.specs.Bytes.{Bytes, same_bytes}
use Rattle.format.proofs.Tests.{by_cases, both, same→eq}
use Rattle.kinds.proofs.Laws.{first_three}

pub clash : true ≡ false → ⊥
clash e = let z : ◌≡◌ {A = ℕ} 0 1 = cc in omega arith

pub same_truth : (x y : Bool) → (x ≡ true → y ≡ true) → (y ≡ true → x ≡ true) → x ≡ y
same_truth true y f g = sym (f refl)
same_truth false true f g = g refl
same_truth false false f g = refl

-- a record of the type t has no type u that differs from t
pub not-other : (t u x : Bytes) → same_bytes t x ≡ true → same_bytes u t ≡ false → same_bytes u x ≡ false
not-other t u x h d = ap (same_bytes u) (sym (same→eq t x h)) ∙ d

or_left : (a b : Bool) → (a || b) ≡ true → a ≡ false → b ≡ true
or_left false b h e = h
or_left true b h e = absurd (clash e)

pub or_right : (a b : Bool) → (a || b) ≡ true → b ≡ false → a ≡ true
or_right true b h e = refl
or_right false b h e = absurd (clash (sym h ∙ e))

-- a record of one of two types
module _ (s t x : Bytes) (h : (same_bytes s x || same_bytes t x) ≡ true) where
  pub not_third : (u : Bytes) → same_bytes u s ≡ false → same_bytes u t ≡ false → same_bytes u x ≡ false
  not_third u d e =
      by_cases (same_bytes s x)
      (λ y. not-other s u x y d)
      (λ n. not-other t u x (or_left (same_bytes s x) (same_bytes t x) h n) e)

-- two types that differ in their first byte alone are told apart by it
module _ (a b p q : ℕ) (differ : a ≡ b → ⊥) (r : Bytes) (long : 3 ≤ length r)
    (h : (same_bytes (a ∷ p ∷ q ∷ []) (take 3 r) || same_bytes (b ∷ p ∷ q ∷ []) (take 3 r)) ≡ true) where
  begins : (c : ℕ) → same_bytes (c ∷ p ∷ q ∷ []) (take 3 r) ≡ true → c ≡ get_or r 0 0
  begins c e =
      eqb-true c (get_or r 0 0)
      (both (eqb c (get_or r 0 0)) (same_bytes (p ∷ q ∷ []) (get_or r 1 0 ∷ get_or r 2 0 ∷ []))
      (ap (same_bytes (c ∷ p ∷ q ∷ [])) (first_three r long) ∙ e)).0

  pub by_first : (eqb a (get_or r 0 0) ≡ same_bytes (a ∷ p ∷ q ∷ []) (take 3 r))
      × (not (eqb a (get_or r 0 0)) ≡ same_bytes (b ∷ p ∷ q ∷ []) (take 3 r))
  by_first =
      by_cases (same_bytes (a ∷ p ∷ q ∷ []) (take 3 r))
      (λ y.
      let e = eq-eqb a (get_or r 0 0) (begins a y) in
      let o : same_bytes (b ∷ p ∷ q ∷ []) (a ∷ p ∷ q ∷ []) ≡ false = rw (ne_eqb b a (λ x. differ (sym x))) in
      (e ∙ sym y, ap not e ∙ sym (not-other (a ∷ p ∷ q ∷ []) (b ∷ p ∷ q ∷ []) (take 3 r) y o)))
      (λ n.
      let y = or_left (same_bytes (a ∷ p ∷ q ∷ []) (take 3 r)) (same_bytes (b ∷ p ∷ q ∷ []) (take 3 r)) h n in
      let e = ne_eqb a (get_or r 0 0) (λ x. differ (x ∙ sym (begins b y))) in
      (e ∙ sym n, ap not e ∙ sym y))
