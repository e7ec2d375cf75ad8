-- The index of a table's entries: made entry by entry, left alone by what is written after it, and asked.
use Prim.Native.Nat.{ℕ, ◌+◌, ◌<◌, ◌≤◌}
use mathlib.Core.Path.{◌≡◌, sym, ◌∙◌}
use mathlib.Core.Bool.{Bool, true, false, false≢true}
use mathlib.Core.List.{List, [], ◌∷◌}
use native.Mathlib.Omega.{arith}
use lib.ListN.{length, get_or, set}
use lib.Seq.{get_or-set_same}
use Rattle.format.specs.Bytes.{Bytes, same_bytes, among}
use Rattle.format.proofs.Tests.{by_cases, same→eq}
use Rattle.rules.specs.Tables.{Tables, most_entries, entries}
use Rattle.tables.specs.declared.Table.{Table}
use Rattle.tables.specs.Which.{size_of, table_of, first_of}
use Rattle.tables.specs.Index.{hint_count, part_size, slot_count, key_of, hint_of, Code, KeyOfAny, Empty, Free, Ascending, Stands, Kept, Inserted, Part, Indexed}
use Rattle.tables.proofs.Entries.{key-not-0, zero-key, first_key, later-key}
use Rattle.tables.proofs.Slots.{by_less, kept_set, after-set, kept-all, kept_on}
use Rattle.tables.proofs.Slots.{inserted-kept, inserted-each, inserted-itself, inserted-others, inserted-ascending}

-- a key stands in a wider range too
wider : (key a b c d : ℕ) (slots : List ℕ) → b ≤ a → c ≤ d → Stands key a c slots → Stands key b d slots
wider key a b c d slots h l s = record { slot = s.slot; after = omega (arith, s.after); before = omega (arith, s.before); is = s.is }

module _ (size first : ℕ) (start : List ℕ) where
  abbrev end : ℕ
  end = first + part_size

  -- the index of some entries, while it is made: their keys are in the slots from one on, and those before are empty
  pub record Entered (es : List Bytes) (from : ℕ) (slots : List ℕ) : Type 0 where
    pub kept : Kept first end start slots
    pub sound : (p : ℕ) → first ≤ p → p < end → KeyOfAny size es (get_or slots p 0)
    pub hinted : (code : Bytes) → among code es ≡ true → 0 < get_or slots (first + hint_of (key_of code)) 0
    pub listed : (code : Bytes) → among code es ≡ true → Stands (key_of code) from end slots
    pub empty : Empty (first + hint_count) from slots
    pub ascending : Ascending from end slots

  pub enter-start : end ≤ slot_count → Free first start → Entered [] end start
  enter-start room free =
      record {
        kept = kept-all first end start;
        sound = λ p a b. rw (free.1 p a (omega arith)) (zero-key size []);
        hinted = λ code t. absurd (false≢true t);
        listed = λ code t. absurd (false≢true t);
        empty = λ p a b. free.1 p (omega arith) (omega arith);
        ascending = λ p a b. absurd (omega arith);
      }

  pub enter-end : (es : List Bytes) (from : ℕ) (slots : List ℕ) → first + hint_count ≤ from → Entered es from slots → Part size es first slots
  enter-end es from slots h e =
      record {
        sound = e.sound;
        hinted = e.hinted;
        listed = λ code t. wider _ from _ end _ slots h (omega arith) (e.listed code t);
        ascending = λ p a b. by_less p from (λ l. rw (e.empty p a l) (omega arith)) (λ l. e.ascending p l b);
      }

  -- one entry before them: its key is put into its hint, and inserted
  module _ (es : List Bytes) (from : ℕ) (old : List ℕ) (so_far : Entered es (from + 1) old) (l : 2 ≤ size) (m : size ≤ 3)
      (room : first + hint_count ≤ from) (last : from < end) (long : end ≤ length start) (code : Bytes) (c : Code size code)
      (key hint : ℕ) (key-is : key ≡ key_of code) (hint-is : hint ≡ hint_of key)
      (slots : List ℕ) (new : Inserted key from end (set old (first + hint) key) slots) where
    key_in : KeyOfAny size (code ∷ es) key
    key_in = rw key-is (first_key size es code l m c)

    some : 0 < key
    some = rw key-is (key-not-0 code)

    low : hint < hint_count
    low = rw hint-is (omega arith)

    exists : first + hint < length old
    exists = omega (arith, low, so_far.kept.long)

    -- the sorted slots hold what they held
    beyond : (p : ℕ) → first + hint_count ≤ p → get_or (set old (first + hint) key) p 0 ≡ get_or old p 0
    beyond p a = (kept_set old (first + hint) key).same p (λ b d. omega (arith, low))

    pub enter-on : Entered (code ∷ es) from slots
    enter-on =
        record {
          kept =
              kept_on first end first end from end start _ slots (omega arith, omega arith) (omega arith, omega arith)
              (kept_on first end first end _ _ start old _ (omega arith, omega arith) (omega arith, omega (arith, low)) so_far.kept
              (kept_set old (first + hint) key))
              (inserted-kept _ _ _ _ _ new);
          sound =
              λ p a b.
              inserted-each _ _ _ _ _ new (KeyOfAny size (code ∷ es)) p b key_in
              (λ q d e.
              after-set old (first + hint) key (KeyOfAny size (code ∷ es)) q exists key_in
              (later-key size es code _ (so_far.sound q (omega arith) e)));
          hinted =
              λ other t.
              rw (new.kept.same (first + hint_of (key_of other)) (λ a b. omega arith))
              (this-or-later other t
              (λ e.
              let same : first + hint_of (key_of other) ≡ first + hint = rw (← e, hint-is, key-is) in
              rw (same, get_or-set_same old (first + hint) key 0 exists) some)
              (λ later. after-set old (first + hint) key (λ v. 0 < v) _ exists some (so_far.hinted other later)));
          listed =
              λ other t.
              this-or-later other t
              (λ e. rw (← e, ← key-is) (inserted-itself _ _ _ _ _ new))
              (λ later.
              let s = so_far.listed other later in
              inserted-others _ _ _ _ _ new (key_of other)
              (record {
                slot = s.slot;
                after = s.after;
                before = s.before;
                is = beyond s.slot (omega (arith, s.after)) ∙ s.is;
              }));
          empty = λ p a b. new.kept.same p (λ d e. omega arith) ∙ beyond p a ∙ so_far.empty p a (omega arith);
          ascending =
              inserted-ascending _ _ _ _ _ new
              (λ p a b. rw (beyond p (omega arith), beyond (p + 1) (omega arith)) (so_far.ascending p a b));
        }
      where
        this-or-later : {P : Type 0} (other : Bytes) → among other (code ∷ es) ≡ true → (code ≡ other → P) → (among other es ≡ true → P) → P
        this-or-later other t this later = by_cases (same_bytes code other) (λ s. this (same→eq code other s)) (λ s. later (rw s at t))

-- ---- what is written outside the part leaves it

pub part_stays : (size : ℕ) (es : List Bytes) (first from end : ℕ) (old slots : List ℕ) → first + part_size ≤ from → Kept from end old slots
    → Part size es first old → Part size es first slots
part_stays size es first from end old slots h kept part =
    record {
      sound = λ p a b. rw (same p b) (part.sound p a b);
      hinted = λ code t. rw (same (first + hint_of (key_of code)) (omega arith)) (part.hinted code t);
      listed =
          λ code t.
          let s = part.listed code t in
          record { slot = s.slot; after = s.after; before = s.before; is = same s.slot s.before ∙ s.is };
      ascending = λ p a b. rw (same p (omega arith), same (p + 1) b) (part.ascending p a b);
    }
  where
    same : (p : ℕ) → p < first + part_size → get_or slots p 0 ≡ get_or old p 0
    same p b = kept.same p (λ a c. omega arith)

-- ---- the part is asked

pub part_of : (table : Table) (lent : Tables) (first : ℕ) (slots : List ℕ) → first ≡ first_of table → Indexed lent slots
    → Part (size_of table) (entries (size_of table) (table_of table lent)) first slots
part_of Table.Languages lent first slots e i = rw e i.of_languages
part_of Table.Societies lent first slots e i = rw e i.of_societies
part_of Table.Categories lent first slots e i = rw e i.of_categories

module _ (size : ℕ) (es : List Bytes) (first : ℕ) (slots : List ℕ) (part : Part size es first slots) (code : Bytes) where
  -- the code's key in any slot
  pub found : Code size code → (p : ℕ) → first ≤ p → p < first + part_size → get_or slots p 0 ≡ key_of code → true ≡ among code es
  unfolding KeyOfAny
  found c p a b e = sym (part.sound p a b code c e)

  pub no-hint : get_or slots (first + hint_of (key_of code)) 0 ≡ 0 → false ≡ among code es
  no-hint e = by_cases (among code es) (λ t. absurd (omega (arith, part.hinted code t))) (λ t. sym t)

  abbrev InPlaces : ℕ → Type 0
  InPlaces key = Stands key (first + hint_count) (first + hint_count + most_entries) slots

  -- the answer of a search for its key among the sorted
  pub searched : (key : ℕ) → key ≡ key_of code → Code size code → (b : Bool) → (b ≡ true → InPlaces key)
      → (Ascending (first + hint_count) (first + hint_count + most_entries) slots → InPlaces key → b ≡ true) → b ≡ among code es
  searched key e c b stands meets =
      by_cases b (λ t. let s = stands t in t ∙ found c s.slot (omega (arith, s.after)) (omega (arith, s.before)) (s.is ∙ e))
      (λ t.
      by_cases (among code es)
      (λ i.
      let s = wider key (first + hint_count) _ (first + part_size) _ slots (omega arith) (omega arith) (rw (← e) at (part.listed code i)) in
      meets (λ p a l. part.ascending p a (omega arith)) s ∙ sym i)
      (λ i. t ∙ sym i))
