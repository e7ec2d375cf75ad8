-- That slots are an index of some tables is what a walk over a file asks for. Where it is known only as a fact with one proof, as it would
-- stand in a type, the index is read off here: in which slot a key stands is found by looking. For callers; no walk needs it. Assumes nothing.
use Prim.Native.Nat.{ℕ, zero, suc, ◌+◌, ◌≤◌, ◌<◌}
use native.Mathlib.Omega.{arith}
use mathlib.Core.Path.{◌≡◌, sym, ap, ◌∙◌, subst}
use mathlib.Core.Bool.{true, Bool-set}
use mathlib.Core.Logic.{◌⊎◌, inl, inr, ∥∥₁_elim, ∥∥₁_map}
use mathlib.Core.List.{List}
use lib.Dec.{eqb}
use lib.ListN.{get_or}
use borrow.Author.Tests.{eqb-true, eqb-false}
use Rattle.std.proofs.Math.Bridge.{le_prop}
use Rattle.format.specs.Bytes.{Bytes, among}
use Rattle.format.proofs.Tests.{by_cases}
use Rattle.rules.specs.Tables.{Tables, most_entries}
use Rattle.tables.specs.Index.{hint_count, part_size, KeyOfAny, Stands, Part, Indexed}
use Rattle.transactions.specs.Walk.{Prepared}

-- ---- a key is in a range of slots, or not

abbrev In : (slots : List ℕ) (key from n : ℕ) → Type 0
In slots key from n = Stands key from (from + n) slots

one_on : (slots : List ℕ) (key from n : ℕ) → In slots key from n ⊎ (In slots key from n → ⊥) → In slots key from (suc n) ⊎ (In slots key from (suc n) → ⊥)
one_on slots key from n (inl s) = inl (record { slot = s.slot; after = s.after; before = omega (arith, s.before); is = s.is })
one_on slots key from n (inr none) =
    by_cases (eqb (get_or slots (from + n) 0) key)
    (λ e. inl (record { slot = from + n; after = omega arith; before = omega arith; is = eqb-true _ _ e }))
    (λ d. inr (λ s. by_cases (eqb s.slot (from + n))
    (λ e. eqb-false _ _ d (ap (λ p. get_or slots p 0) (sym (eqb-true s.slot (from + n) e)) ∙ s.is))
    (λ e. let other = eqb-false s.slot (from + n) e in none (record { slot = s.slot; after = s.after; before = omega (arith, s.before, other); is = s.is }))))

look : (slots : List ℕ) (key from n : ℕ) → In slots key from n ⊎ (In slots key from n → ⊥)
look slots key from zero = inr (λ s. absurd (omega (arith, s.after, s.before)))
look slots key from (suc n) = one_on slots key from n (look slots key from n)

found : {A : Type 0} → A ⊎ (A → ⊥) → ∥ A ∥₁ → A
found (inl a) p = a
found (inr none) p =
    let low : 1 ≤ 0 = ∥∥₁_elim p le_prop (λ a. absurd (none a)) in
    absurd (omega (arith, low))

-- ---- the index

module _ {size first : ℕ} {es : List Bytes} {slots : List ℕ} (p : ∥ Part size es first slots ∥₁) where
  sound : (q : ℕ) → first ≤ q → q < first + part_size → KeyOfAny size es (get_or slots q 0)
  unfolding KeyOfAny
  sound q a b code c k = ∥∥₁_elim p (Bool-set (among code es) true) (λ x. x.sound q a b code c k)

  listed : (key end : ℕ) → end ≡ (first + hint_count) + most_entries → ∥ Stands key (first + hint_count) end slots ∥₁ → Stands key (first + hint_count) end slots
  listed key end e =
      subst (λ n. ∥ Stands key (first + hint_count) n slots ∥₁ → Stands key (first + hint_count) n slots) (sym e)
      (found (look slots key (first + hint_count) most_entries))

  part : Part size es first slots
  part = record {
    sound = sound;
    hinted = λ code m. ∥∥₁_elim p le_prop (λ x. x.hinted code m);
    listed = λ code m. listed _ _ (omega arith) (∥∥₁_map p (λ x. x.listed code m));
    ascending = λ q a b. ∥∥₁_elim p le_prop (λ x. x.ascending q a b);
  }

-- the slots are an index of these tables
pub indexed : {tables : Tables} {slots : List ℕ} → ∥ Indexed tables slots ∥₁ → Indexed tables slots
indexed p = record {
  of_languages = part (∥∥₁_map p (λ x. x.of_languages));
  of_societies = part (∥∥₁_map p (λ x. x.of_societies));
  of_categories = part (∥∥₁_map p (λ x. x.of_categories));
}

-- and so of some tables, as a walk asks
pub prepared : {tables : Tables} {slots : List ℕ} → ∥ Indexed tables slots ∥₁ → Prepared slots
prepared p = (_, indexed p)
