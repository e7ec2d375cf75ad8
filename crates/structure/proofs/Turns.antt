-- The walk's turns: a right record more, and one record more in search of faults. Assumes nothing.
use Prim.Native.Nat.{ℕ, ◌+◌, ◌-◌, ◌≤◌, ◌<◌}
use native.Mathlib.Nat.{add_assoc}
use native.Mathlib.Omega.{arith}
use mathlib.Core.Path.{◌≡◌, sym, ap, ◌∙◌}
use mathlib.Core.Bool.{Bool, true, not, ◌&&◌, ◌||◌}
use mathlib.Core.Option.{Option}
use mathlib.Core.List.{List, [], ◌∷◌}
use lib.ListN.{length, take, drop, get_or, length-drop}
use lib.Seq.{length-take-le, take-take, drop-drop}
use lib.Dec.{eqb}
use borrow.Author.Tests.{eq-eqb}
use Rattle.format.specs.Bytes.{Bytes, every, is_text, same_bytes, begins_pair}
use Rattle.format.specs.Table.{Class, known}
use Rattle.format.specs.Cwr22.{cwr22}
use Rattle.format.specs.Checks.{Counts, none_counted, count, cls, typed, may_follow, slot, expected, closes, rightly_numbered, ok8, ok9}
use Rattle.format.specs.Structure.{unless}
use Rattle.kinds.specs.Rows.{class_in, kinds, row_for, type_of}
use Rattle.kinds.specs.declared.Class.{Class as CodeClass}
use Rattle.kinds.specs.declared.Class.TheVariants.{Unknown}
use Rattle.kinds.specs.declared.Row.{Row}
use Rattle.format.proofs.Tests.{both}
use Rattle.kinds.proofs.Laws.{first_three, hinted}
use Rattle.lines.proofs.Laws.{every-text, pair-after}
use Rattle.counts.specs.Counting.{counts_in}
use Rattle.structure.specs.Rest.{or_else, Faults, rest_from, more_faults}
use Rattle.structure.specs.Walk.{Roomy, Bounded, Stood, RightAt, Next}
use Rattle.structure.specs.declared.standing.Stand.{Stand}
use Rattle.structure.proofs.Rest.{rest-turn}
use Rattle.structure.proofs.Rows.{row-class, row_typed, in_table, row-roomy}
use Rattle.structure.proofs.Faults.{or_swap}

-- ---- a right record more

module _ (t : Bytes) (row : Row) (its : row ≡ row_for (take 3 t)) where
  -- the row is that of the record which the row's length cuts off
  cut-row : 3 ≤ row.length → row ≡ row_for (take 3 (take row.length t))
  cut-row h = its ∙ sym (ap row_for (take-take 3 row.length t h))

  cut-typed : known (class_in row.class) ≡ true → 3 ≤ row.length → row.length ≤ length t → typed cwr22 (take row.length t) ≡ true
  cut-typed p h k =
      let r = take row.length t in
      let e : length r ≡ row.length = length-take-le row.length t k in
      row_typed r row (cut-row h) ∙ rw (p, eq-eqb (length r) row.length e)

  module _ (asked version : Bool) (p : Class) (n : Counts) where
    jump : known (class_in row.class) ≡ true → 3 ≤ row.length → row.length ≤ length t
        → every is_text (take row.length t) ≡ true → begins_pair (drop row.length t) ≡ true
        → may_follow p (class_in row.class) ≡ true
        → (not asked || same_bytes (slot (class_in row.class) (take row.length t)) (expected n (class_in row.class))) ≡ true
        → rest_from cwr22 asked version p n t
        ≡ rest_from cwr22 asked version (class_in row.class) (count n (class_in row.class)) (drop (row.length + 2) t)
    jump q h k x y s m =
        let r = take row.length t in
        let c : class_in row.class ≡ cls cwr22 r = row-class r row (cut-row h) in
        ap (rest_from cwr22 asked version p n) (pair-after row.length t y)
        ∙ rest-turn cwr22 asked version p n r (drop (row.length + 2) t) (every-text r x) (cut-typed q h k) (rw c at s) (rw c at m)
        ∙ rw (← c)

-- the stand after a record is bounded as the one before it was
pub bounded-on : (f : Bytes) (s : Stand) (l : ℕ) (p : CodeClass) (next : Stand) → Bounded f s → s.at + l + 2 ≤ length f → Next s l p next
    → Bounded f next
bounded-on f s l p next b k x =
    record {
      inside = rw x.at k;
    }

module _ (f : Bytes) (asked : Bool) (s : Stand) (row : Row) (next : Stand) where
  pub stood_on : Stood f asked s → RightAt f asked s row → Roomy row → row ≡ row_for (take 3 (drop s.at f))
      → Next s row.length row.class next → Stood f asked next
  stood_on d r m its x =
      record {
        bounded = bounded-on f s row.length row.class next d.bounded r.fits x;
        rest = λ version. rw (x.class, x.counts, x.at) (sym (go version) ∙ d.rest version);
      }
    where
      t : Bytes
      t = drop s.at f

      go : (version : Bool)
          → rest_from cwr22 asked version (class_in s.class) (counts_in s.counts) (drop s.at f)
          ≡ rest_from cwr22 asked version (class_in row.class) (count (counts_in s.counts) (class_in row.class)) (drop (s.at + row.length + 2) f)
      go version =
          jump (drop s.at f) row its asked version (class_in s.class) (counts_in s.counts) m.class m.type
          (rw length-drop (omega (arith, r.fits))) r.text (rw drop-drop r.pair) r.follows r.numbers
          ∙ rw (drop-drop, add_assoc)

-- ---- the faults with one record more

module _ (r : Bytes) (row : Row) (its : row ≡ row_for (take 3 r)) (asked : Bool) (m : Faults) (p : Class) (n : Counts) where
  pub faults-more : (f : Faults) (follows held : Bool)
      → follows ≡ may_follow p (class_in row.class)
      → held ≡ (not asked || same_bytes (slot (class_in row.class) r) (expected n (class_in row.class)))
      → f.seven ≡ or_else m.seven (unless follows n.records)
      → f.eight ≡ or_else m.eight (unless (closes (class_in row.class) || held) n.records)
      → f.nine ≡ or_else m.nine (unless (not (closes (class_in row.class)) || held) n.records)
      → f ≡ more_faults cwr22 asked m p n r
  unfolding more_faults
  faults-more f follows held a b x y z =
      let c = row-class r row its in
      let s : f.seven ≡ or_else m.seven (unless (may_follow p (cls cwr22 r)) n.records) = x ∙ rw (a, c) in
      let h : held ≡ (not asked || rightly_numbered cwr22 n r) = b ∙ rw c in
      let e : f.eight ≡ or_else m.eight (unless (not asked || ok8 cwr22 n r) n.records) =
      y ∙ rw (c, h, or_swap (closes (cls cwr22 r)) (not asked) (rightly_numbered cwr22 n r)) in
      let g : f.nine ≡ or_else m.nine (unless (not asked || ok9 cwr22 n r) n.records) =
      z ∙ rw (c, h, or_swap (not (closes (cls cwr22 r))) (not asked) (rightly_numbered cwr22 n r)) in
      faults s e g
    where
      faults : {a b c d e g : Option ℕ} → a ≡ b → c ≡ d → e ≡ g
          → ◌≡◌ {A = Faults} (record { seven = a; eight = c; nine = e }) (record { seven = b; eight = d; nine = g })
      faults s e g = rw (s, e, g)

-- ---- what a yes of all tests says

module _ (f : Bytes) (asked : Bool) (s : Stand) (row : Row) where
  pub right-at : (l : ℕ) → l ≡ row.length → (r : Bytes) → r ≡ take (s.at + l - s.at) (drop s.at f)
      → s.at ≤ length f → l + 2 ≤ length f - s.at → 3 ≤ row.length
      → (type pair text follows numbers : Bool)
      → type ≡ same_bytes (type_of row) (get_or r 0 0 ∷ get_or r 1 0 ∷ get_or r 2 0 ∷ [])
      → pair ≡ begins_pair (drop (s.at + l) f)
      → text ≡ every is_text r
      → follows ≡ may_follow (class_in s.class) (class_in row.class)
      → numbers ≡ (not asked || same_bytes (slot (class_in row.class) r) (expected (counts_in s.counts) (class_in row.class)))
      → (type && pair && text && follows && numbers) ≡ true → RightAt f asked s row
  right-at l e r part inside fits three type pair text follows numbers a b x y z q =
      let (q4, n) = both (type && pair && text && follows) numbers q in
      let (q3, w) = both (type && pair && text) follows q4 in
      let (q2, t) = both (type && pair) text q3 in
      let (k, p) = both type pair q2 in
      record {
        fits = omega (arith, e);
        type = sym (ap (same_bytes (type_of row)) front) ∙ sym a ∙ k;
        text = rw (← whole) (sym x ∙ t);
        pair = rw (← e) (sym b ∙ p);
        follows = sym y ∙ w;
        numbers = rw (← whole) (sym z ∙ n);
      }
    where
      whole : r ≡ take row.length (drop s.at f)
      whole = let m : s.at + l - s.at ≡ row.length = omega (arith, e) in part ∙ ap (λ k. take k (drop s.at f)) m

      long : 3 ≤ length r
      long = rw (whole, length-take-le row.length (drop s.at f) (rw length-drop (omega (arith, e)))) three

      front : get_or r 0 0 ∷ get_or r 1 0 ∷ get_or r 2 0 ∷ [] ≡ take 3 (drop s.at f)
      front = first_three r long ∙ ap (take 3) whole ∙ take-take 3 row.length (drop s.at f) three

-- ---- the walk's start, and its turn with a row of the table

pub bounded-start : (f : Bytes) (s : Stand) → (s.at ≡ 0) × (s.class ≡ Unknown) → Bounded f s
bounded-start f s e = record { inside = omega arith }

pub stood-start : (f : Bytes) (asked : Bool) (s : Stand) → (s.at ≡ 0) × (s.class ≡ Unknown) → counts_in s.counts ≡ none_counted → Stood f asked s
stood-start f asked s e n = record { bounded = bounded-start f s e; rest = λ version. rw (e.0, e.1, n) }

module _ (l : List Row) (table : l ≡ kinds) (k : ℕ) (few : k < 38) (d : Row) where
  pub stood-by : (f : Bytes) (asked : Bool) (s next : Stand) → Stood f asked s → RightAt f asked s (get_or l k d)
      → Next s (get_or l k d).length (get_or l k d).class next → Stood f asked next
  stood-by f asked s next st r x =
      stood_on f asked s (get_or l k d) next st r (row-roomy l table k few d)
      (hinted l table (take 3 (drop s.at f)) k (in_table l table k few) d r.type) x
