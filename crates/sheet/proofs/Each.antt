-- Counts that grow one after the other, from the first on. Assumes nothing.
use Prim.Native.Nat.{ℕ, zero, suc, ◌+◌, ◌<◌}
use native.Mathlib.Omega.{arith}
use native.Mathlib.Numerals.{add-one}
use mathlib.Core.Path.{◌≡◌, refl, ap, ◌∙◌}
use mathlib.Core.List.{List, [], ◌∷◌}
use lib.ListN.{length, take, set, get_or}
use Rattle.rules.specs.Sheet.{plus, plus_each}

-- by none
pub each_none : (ms : List ℕ) → plus_each ms [] ≡ ms
each_none [] = refl
each_none (m ∷ ms) = refl

each_step : (ms ns : List ℕ) (i : ℕ) → i < length ms → i < length ns
    → set (plus_each ms (take i ns)) i (plus (get_or (plus_each ms (take i ns)) i 0) (get_or ns i 0)) ≡ plus_each ms (take (suc i) ns)
each_step [] ns i p q = absurd (omega arith)
each_step (m ∷ ms) [] i p q = absurd (omega arith)
each_step (m ∷ ms) (n ∷ ns) zero p q = ap (λ l. plus m n ∷ l) (rw (each_none ms))
each_step (m ∷ ms) (n ∷ ns) (suc i) p q = ap (λ l. plus m n ∷ l) (each_step ms ns i (omega arith) (omega arith))

each-length : (ms ns : List ℕ) → length (plus_each ms ns) ≡ length ms
each-length [] ns = refl
each-length (m ∷ ms) [] = refl
each-length (m ∷ ms) (n ∷ ns) = ap suc (each-length ms ns)

-- none of either is left beyond the first i
each-done : (ms ns : List ℕ) (i : ℕ) → (i < length ms → i < length ns → ⊥) → plus_each ms (take i ns) ≡ plus_each ms ns
each-done [] ns i h = refl
each-done (m ∷ ms) [] zero h = refl
each-done (m ∷ ms) [] (suc i) h = refl
each-done (m ∷ ms) (n ∷ ns) zero h = absurd (h (omega arith) (omega arith))
each-done (m ∷ ms) (n ∷ ns) (suc i) h = ap (λ l. plus m n ∷ l) (each-done ms ns i (λ p q. h (omega arith) (omega arith)))

-- where the first i have grown: one more, and all
module _ (ms ns now : List ℕ) (i : ℕ) (so_far : now ≡ plus_each ms (take i ns)) where
  pub each_on : i < length now → i < length ns → (grown : ℕ) → grown ≡ plus (get_or now i 0) (get_or ns i 0)
      → set now i grown ≡ plus_each ms (take (i + 1) ns)
  each_on p q grown e =
      let l = each-length ms (take i ns) in
      let h : i < length ms = omega (arith, ap length so_far) in
      rw (add-one i, e, so_far) (each_step ms ns i h q)

  pub each_all : (i < length now → i < length ns → ⊥) → now ≡ plus_each ms ns
  each_all end =
      so_far ∙ each-done ms ns i
      (λ p q.
      let l = each-length ms (take i ns) in
      let h : i < length now = omega (arith, ap length so_far) in
      end h q)
