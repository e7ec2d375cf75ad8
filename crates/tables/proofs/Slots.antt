-- Slots: one written, a key inserted, and a key searched.
use Prim.Native.Nat.{ℕ, zero, suc, ◌+◌, ◌-◌, ◌<◌, ◌≤◌}
use mathlib.Core.Path.{sym, ◌≡◌, refl, ap, ◌∙◌}
use mathlib.Core.Bool.{false≢true, true}
use mathlib.Core.List.{List}
use native.Mathlib.Numerals.{add-one}
use native.Mathlib.Omega.{arith}
use borrow.Author.Tests.{ltb-true, ltb-false, eqb-true, eqb-false}
use lib.Dec.{ltb, eqb}
use lib.ListN.{length, get_or, set, take, drop, length-take, length-drop, replicate, length-set, length-replicate, get_or-replicate}
use lib.Seq.{get_or-take, get_or-drop, get_or-set_same, get_or-set_other}
use Rattle.std.specs.Ordering.{nat_cmp}
use Rattle.std.specs.Prelude.{Result, Ok, Err, is_ok}
use Rattle.std.specs.List.Sorted.{IsBinarySearchResult, IsSearchInRange}
use Rattle.std.proofs.lemmas.List.Sorted.{searched}
use Rattle.std.proofs.lemmas.Map.Lookups.{exact_unsigned}
use Rattle.format.proofs.Tests.{by_cases}
use Rattle.rules.specs.Tables.{most_entries}
use Rattle.tables.specs.Index.{slot_count, Free, Ascending, Stands, Kept, Inserted}

-- ---- one slot before, at or after another

pub by_less : {P : Type 0} (p q : ℕ) → (p < q → P) → (q ≤ p → P) → P
by_less p q less more = by_cases (ltb p q) (λ t. less (ltb-true p q t)) (λ t. more (ltb-false p q t))

by_order : {P : Type 0} (p q : ℕ) → (p < q → P) → (p ≡ q → P) → (q < p → P) → P
by_order p q less same more = by_less p q less (λ h. by_less q p more (λ l. same (omega arith)))

-- ---- a slot is written

module _ (slots : List ℕ) (i v : ℕ) where
  pub kept_set : Kept i (i + 1) slots (set slots i v)
  kept_set = record { long = length-set slots i v; same = λ p n. get_or-set_other slots i p v 0 (λ e. n (omega arith) (omega arith)) }

  -- what holds of the number written and of those that stood there holds of each
  pub after-set : (P : ℕ → Type 0) (p : ℕ) → i < length slots → P v → P (get_or slots p 0) → P (get_or (set slots i v) p 0)
  after-set P p h new old =
      by_cases (eqb p i)
      (λ t. rw (eqb-true p i t, get_or-set_same slots i v 0 h) new)
      (λ t. rw (get_or-set_other slots i p v 0 (eqb-false p i t)) old)

pub kept-all : (from end : ℕ) (slots : List ℕ) → Kept from end slots slots
kept-all from end slots = record { long = refl; same = λ p n. refl }

-- one range after another, both within a third
module _ (from end a b c d : ℕ) (x y z : List ℕ) where
  pub kept_on : (from ≤ a) × (b ≤ end) → (from ≤ c) × (d ≤ end) → Kept a b x y → Kept c d y z → Kept from end x z
  kept_on h l k m =
      record {
        long = m.long ∙ k.long;
        same = λ p n. m.same p (λ q r. n (omega (arith, l)) (omega (arith, l))) ∙ k.same p (λ q r. n (omega (arith, h)) (omega (arith, h)));
      }

-- ---- empty slots, from one on

pub free-start : (slots : List ℕ) → slots ≡ replicate slot_count 0 → Free 0 slots
free-start slots e = (ap length e ∙ length-replicate {A = ℕ} slot_count 0, λ p a b. rw e (get_or-replicate slot_count p 0 0 b))

pub free_on : (from end : ℕ) (old slots : List ℕ) → from ≤ end → Free from old → Kept from end old slots → Free end slots
free_on from end old slots h free kept = (kept.long ∙ free.0, λ p a b. kept.same p (λ c d. omega arith) ∙ free.1 p (omega arith) b)

-- ---- a key is inserted: the lower ones before the i-th slot have moved

pub record Moving (key from i : ℕ) (old slots : List ℕ) : Type 0 where
  pub kept : Kept from i old slots
  pub moved : (p : ℕ) → from ≤ p → p < i → get_or slots p 0 ≡ get_or old (p + 1) 0
  pub lower : (p : ℕ) → from ≤ p → p < i → get_or slots p 0 < key

module _ (key from : ℕ) (old : List ℕ) where
  pub move_start : Moving key from from old old
  move_start = record { kept = kept-all from from old; moved = λ p a b. absurd (omega arith); lower = λ p a b. absurd (omega arith) }

  module _ (i : ℕ) (slots : List ℕ) (m : Moving key from i old slots) (a : from ≤ i) (h : i < length old) where
    here : (v : ℕ) → get_or (set slots i v) i 0 ≡ v
    here v = get_or-set_same slots i v 0 (omega (arith, m.kept.long))

    before : (v p : ℕ) → p < i → get_or (set slots i v) p 0 ≡ get_or slots p 0
    before v p b = (kept_set slots i v).same p (λ c d. omega arith)

    kept_then : (v : ℕ) → Kept from (i + 1) old (set slots i v)
    kept_then v = kept_on from (i + 1) from i i (i + 1) old slots _ (omega arith, omega arith) (a, omega arith) m.kept (kept_set slots i v)

    next-is : get_or slots (i + 1) 0 ≡ get_or old (i + 1) 0
    next-is = m.kept.same (i + 1) (λ b c. omega arith)

    pub move-on : get_or slots (i + 1) 0 < key → Moving key from (i + 1) old (set slots i (get_or slots (i + 1) 0))
    move-on l =
        let next = get_or slots (i + 1) 0 in
        record {
          kept = kept_then next;
          moved =
              λ p b c. by_order p i (λ d. before next p d ∙ m.moved p b d) (λ e. rw e (here next ∙ next-is)) (λ d. absurd (omega arith));
          lower =
              λ p b c. by_order p i (λ d. rw (before next p d) (m.lower p b d)) (λ e. rw (e, here next) l) (λ d. absurd (omega arith));
        }

    pub move-end : (end : ℕ) → i < end → (i + 1 < end → key ≤ get_or slots (i + 1) 0) → Inserted key from end old (set slots i key)
    move-end end b l =
        record {
          slot = i;
          after = a;
          before = b;
          kept = kept_then key;
          moved = λ p c d. before key p d ∙ m.moved p c d;
          lower = λ p c d. rw (before key p d) (m.lower p c d);
          is = here key;
          higher = λ c. rw next-is at (l c);
        }

-- what it comes to
module _ (key from end : ℕ) (old slots : List ℕ) (new : Inserted key from end old slots) where
  rest : (p : ℕ) → new.slot < p → get_or slots p 0 ≡ get_or old p 0
  rest p h = new.kept.same p (λ a b. omega arith)

  pub inserted-kept : Kept from end old slots
  inserted-kept = record { long = new.kept.long; same = λ p n. new.kept.same p (λ a b. n a (omega (arith, new.before))) }

  -- what holds of the key and of the numbers that stood there holds of each
  pub inserted-each : (P : ℕ → Type 0) (p : ℕ) → p < end → P key → ((q : ℕ) → p ≤ q → q < end → P (get_or old q 0)) → P (get_or slots p 0)
  inserted-each P p h this each =
      by_order p new.slot
      (λ l.
      by_less p from (λ m. rw (new.kept.same p (λ a b. omega arith)) (each p (omega arith) h))
      (λ m. rw (new.moved p m l) (each (p + 1) (omega arith) (omega (arith, new.before)))))
      (λ e. rw (e, new.is) this)
      (λ g. rw (rest p g) (each p (omega arith) h))

  pub inserted-itself : Stands key from end slots
  inserted-itself = record { slot = new.slot; after = new.after; before = new.before; is = new.is }

  pub inserted-others : (other : ℕ) → Stands other (from + 1) end old → Stands other from end slots
  inserted-others other s =
      by_less new.slot s.slot
      (λ l. record { slot = s.slot; after = omega (arith, s.after); before = s.before; is = rest s.slot l ∙ s.is })
      (λ l.
      let up : s.slot - 1 + 1 ≡ s.slot = omega (arith, s.after) in
      record {
        slot = s.slot - 1;
        after = omega (arith, s.after);
        before = omega (arith, s.before);
        is = new.moved (s.slot - 1) (omega (arith, s.after)) (omega (arith, s.after)) ∙ ap (λ p. get_or old p 0) up ∙ s.is;
      })

  pub inserted-ascending : Ascending (from + 1) end old → Ascending from end slots
  inserted-ascending up p a b =
      by_order p new.slot
      (λ l.
      by_order (p + 1) new.slot
      (λ m. rw (new.moved p a l, new.moved (p + 1) (omega arith) m) (up (p + 1) (omega arith) (omega (arith, new.before))))
      (λ e. let lower = new.lower p a l in rw (e, new.is) (omega arith))
      (λ g. absurd (omega arith)))
      (λ e. rw (rest (p + 1) (omega arith), e, new.is) (new.higher (omega arith)))
      (λ g. rw (rest p g, rest (p + 1) (omega arith)) (up p (omega (arith, new.after)) b))

-- ---- the sorted keys are searched

climbs : (first end : ℕ) (slots : List ℕ) → Ascending first end slots → (p q : ℕ) → first ≤ p → p ≤ q → q < end
    → get_or slots p 0 ≤ get_or slots q 0
climbs first end slots up p zero a b c = let e : p ≡ 0 = omega arith in rw e (omega arith)
climbs first end slots up p (suc q) a b c =
    by_less q p (λ g. let e : p ≡ suc q = omega arith in rw e (omega arith))
    (λ l.
    let step : get_or slots q 0 ≤ get_or slots (suc q) 0 = rw add-one at (up q (omega arith) (omega arith)) in
    omega (arith, climbs first end slots up p q a l (omega arith)))

module _ (key first width : ℕ) (slots : List ℕ) (all : width ≡ most_entries) (room : first + most_entries ≤ length slots) where
  abbrev part : List ℕ
  part = take width (drop first slots)

  abbrev Says : Result ℕ ℕ → Type 0
  Says r = IsBinarySearchResult (λ y. nat_cmp y key) part r

  part-length : length part ≡ width
  part-length = simp (length-take, length-drop) (omega arith)

  part-at : (i : ℕ) → i < width → get_or part i 0 ≡ get_or slots (first + i) 0
  part-at i h = get_or-take width (drop first slots) i 0 h ∙ get_or-drop first slots i 0

  pub search_stands : (r : Result ℕ ℕ) → IsSearchInRange r (length part) → Says r → is_ok r ≡ true → Stands key first (first + most_entries) slots
  search_stands (Ok i) bound says ok =
      let h : i < width = omega (arith, part-length) in
      record { slot = first + i; after = omega arith; before = omega arith; is = sym (part-at i h) ∙ exact_unsigned _ _ (says 0) }
  search_stands (Err i) bound says ok = absurd (false≢true ok)

  rises : Ascending first (first + most_entries) slots → (i j : ℕ) → i ≤ j → j < length part → get_or part i 0 ≤ get_or part j 0
  rises up i j h l =
      let small : j < width = omega (arith, part-length) in
      rw (part-at i (omega arith), part-at j small) (climbs first _ slots up (first + i) (first + j) (omega arith) (omega arith) (omega arith))

  pub search_found : (r : Result ℕ ℕ) → Says r → Ascending first (first + most_entries) slots → Stands key first (first + most_entries) slots → is_ok r ≡ true
  search_found (Ok i) says up s = refl
  search_found (Err i) says up s =
      let k = s.slot - first in
      let back : first + k ≡ s.slot = omega (arith, s.after) in
      let small : k < width = omega (arith, s.before) in
      let here : get_or part k 0 ≡ key = part-at k small ∙ ap (λ p. get_or slots p 0) back ∙ s.is in
      let found = searched part key (Err i) says (rises up) in
      by_less k i (λ l. absurd (omega (arith, found.1 k l))) (λ l. absurd (omega (arith, found.2 k l (omega (arith, part-length)))))
