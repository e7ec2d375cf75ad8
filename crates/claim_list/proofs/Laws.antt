-- Laws on lists, of any elements, and on a test: a list that is stored over the front of another one entry at a time, and what is left of a list from an index on.
--     laid           the first i of es, and then what stood behind them in ys: es has n entries, and there is room for them
--     drop_here      where c heads what is left, index i is in the list, c is its entry there, and the rest is left from the next index on
--     drop-none      where nothing is left, the list is no longer than i
use mathlib.Core.Path.{◌≡◌, refl, sym, ap, ◌∙◌}
use mathlib.Core.Bool.{Bool, true, false, not}
use Prim.Native.Nat.{ℕ, suc, ◌+◌, ◌≤◌, ◌<◌}
use native.Mathlib.Omega.{arith}
use native.Mathlib.Nat.{add-zero}
use native.Mathlib.Numerals.{add-one}
use mathlib.Core.List.{List, [], ◌∷◌, ◌++◌}
use lib.Dec.{T}
use lib.ListN.{length, get_or, set, take, drop, length-append, length-drop}
use lib.Seq.{length-take-le, take_all, take-suc, drop-cons, append_snoc, set_at, get_or-drop, drop-drop}

module _ {A : Type 0} (es ys : List A) (n : ℕ) (long : length es ≡ n) (room : n ≤ length ys) where
  abbrev pub laid : ℕ → List A
  laid i = take i es ++ drop i ys

  pub length-laid : (i : ℕ) → i ≤ n → length (laid i) ≡ length ys
  length-laid i l = length-append (take i es) (drop i ys) ∙ omega (arith, l, long, room, length-take-le i es (omega (arith, l, long)), length-drop i ys)

  pub laid_next : (i : ℕ) (d : A) → i < n → set (laid i) i (get_or es i d) ≡ laid (i + 1)
  laid_next i d l =
      ap (λ (r : List A). set (take i es ++ r) i (get_or es i d)) (drop-cons ys i d (omega (arith, l, room)))
      ∙ set_at (take i es) (get_or ys i d) (drop (suc i) ys) (get_or es i d) i (length-take-le i es (omega (arith, l, long)))
      ∙ sym (append_snoc (take i es) (get_or es i d) (drop (suc i) ys))
      ∙ ap (λ (r : List A). r ++ drop (suc i) ys) (sym (take-suc es i d (omega (arith, l, long))))
      ∙ ap laid (sym (add-one i))

  pub laid-all : (i : ℕ) → n ≤ i → laid i ≡ es ++ drop i ys
  laid-all i l = ap (λ (r : List A). r ++ drop i ys) (take_all i es (omega (arith, l, long)))

module _ {A : Type 0} (l : List A) (i : ℕ) where
  pub drop_here : (c : A) (r : List A) → drop i l ≡ c ∷ r → (i < length l) × ((d : A) → get_or l i d ≡ c) × (drop (i + 1) l ≡ r)
  drop_here c r e = (
    omega (arith, ap length e, length-drop i l),
    λ d. ap (λ (k : ℕ). get_or l k d) (sym (add-zero i)) ∙ sym (get_or-drop i l 0 d) ∙ ap (λ (m : List A). get_or m 0 d) e,
    sym (drop-drop 1 i l) ∙ ap (drop 1) e,
  )

  pub drop-none : drop i l ≡ [] → length l ≤ i
  drop-none e = omega (arith, ap length e, length-drop i l)

-- the front with one entry more
pub take_next : {A : Type 0} (l : List A) (i : ℕ) (d : A) → i < length l → take i l ++ get_or l i d ∷ [] ≡ take (i + 1) l
take_next {A} l i d h = sym (take-suc l i d h) ∙ ap (λ (k : ℕ). take k l) (sym (add-one i))

-- what a test says of its value
pub holds : (b : Bool) → T b → b ≡ true
holds true h = refl
holds false h = absurd h

pub fails : (b : Bool) → T (not b) → b ≡ false
fails true h = absurd h
fails false h = refl
