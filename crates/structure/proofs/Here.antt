-- A record seen from its place in a file whose lines are good: where it ends, and what stands after it. Where the records are right by 6
-- it has three bytes at least, and the row of the three bytes that stand there is its row. Assumes nothing.
use Prim.Native.Nat.{ℕ, ◌+◌, ◌≤◌, ◌<◌}
use native.Mathlib.Nat.{add_assoc}
use native.Mathlib.Omega.{arith}
use mathlib.Core.Path.{◌≡◌, refl, sym, ap, ◌∙◌, subst}
use mathlib.Core.Bool.{true, not, and-eq-true_iff, false≢true}
use mathlib.Core.List.{[], ◌∷◌, ◌++◌, append_assoc}
use lib.ListN.{length, take, drop, length-drop, length-append}
use lib.Seq.{length-take-le, take-take, take_at, drop-drop}
use lib.Dec.{T, eqb, eqb→eq}
use borrow.Author.Tests.{eqb-true}
use Rattle.format.specs.Bytes.{Bytes, begins_pair}
use Rattle.format.specs.Table.{at, width, known}
use Rattle.format.specs.Cwr22.{cwr22}
use Rattle.format.specs.Lines.{Lines, good, bad, lines}
use Rattle.format.specs.Checks.{check6, cls, typed, Along}
use Rattle.format.specs.Numbering.{records_in}
use Rattle.format.proofs.Lines.{onto}
use Rattle.format.proofs.Logic.{is_true, left, right}
use Rattle.format.proofs.Slots.{three}
use Rattle.kinds.specs.Rows.{class_in, row_for}
use Rattle.kinds.specs.declared.Row.{Row}
use Rattle.format.proofs.Tests.{by_cases}
use Rattle.lines.specs.Scan.{text_length}
use Rattle.lines.proofs.Laws.{text-front, line_first, line-fault, pair-after, pair_fits}
use Rattle.structure.specs.Rest.{is_good}
use Rattle.structure.proofs.Rows.{row-class, row_typed, row_room}

-- ---- good lines that are not at their end begin with a line

good-onto : (r : Bytes) (ls : Lines) → is_good (onto (r ∷ []) ls) ≡ true
    → (is_good ls ≡ true) × (records_in (onto (r ∷ []) ls) ≡ r ∷ records_in ls)
good-onto r (good rs) e = (refl, refl)
good-onto r (bad k) e = absurd (false≢true e)

module _ (t : Bytes) (some : 0 < length t) (fine : is_good (lines t) ≡ true) where
  pub good-pair : begins_pair (drop (text_length t) t) ≡ true
  good-pair = by_cases (begins_pair (drop (text_length t) t)) (λ e. e) (λ e. absurd (false≢true (sym (ap is_good (line-fault t some e)) ∙ fine)))

  pub good-first : (is_good (lines (drop (text_length t + 2) t)) ≡ true)
      × (records_in (lines t) ≡ take (text_length t) t ∷ records_in (lines (drop (text_length t + 2) t)))
  good-first =
      let e = line_first (text_length t) t (text-front t) good-pair in
      let (g, r) = good-onto (take (text_length t) t) (lines (drop (text_length t + 2) t)) (sym (ap is_good e) ∙ fine) in
      (g, ap records_in e ∙ r)

-- ---- a record seen from its place

-- the record that stands at a place, and those after it
abbrev pub record_at : Bytes → ℕ → Bytes
record_at f i = take (text_length (drop i f)) (drop i f)

module _ (f : Bytes) (i : ℕ) (here : i < length f) (fine : is_good (lines (drop i f)) ≡ true) where
  some : 0 < length (drop i f)
  some = rw length-drop (omega arith)

  pub fits : i + text_length (drop i f) + 2 ≤ length f
  fits = pair_fits f (i + text_length (drop i f)) (rw drop-drop at (good-pair (drop i f) some fine))

  pub long : length (record_at f i) ≡ text_length (drop i f)
  long = length-take-le (text_length (drop i f)) (drop i f) (rw length-drop (omega (arith, fits)))

  -- what stands after it, seen from here and from the file's start
  after-here : drop (text_length (drop i f) + 2) (drop i f) ≡ drop (i + text_length (drop i f) + 2) f
  after-here = rw (drop-drop, add_assoc)

  pub records-here : records_in (lines (drop i f)) ≡ record_at f i ∷ records_in (lines (drop (i + text_length (drop i f) + 2) f))
  records-here = rw after-here at (good-first (drop i f) some fine).1

  pub fine-after : is_good (lines (drop (i + text_length (drop i f) + 2) f)) ≡ true
  fine-after = rw after-here at (good-first (drop i f) some fine).0

  -- with its CR LF
  pub line-here : take (text_length (drop i f) + 2) (drop i f) ≡ record_at f i ++ 13 ∷ 10 ∷ []
  line-here =
      let n : length (record_at f i ++ 13 ∷ 10 ∷ []) ≡ text_length (drop i f) + 2 =
      length-append (record_at f i) (13 ∷ 10 ∷ []) ∙ omega (arith, long) in
      ap (take (text_length (drop i f) + 2))
      (pair-after (text_length (drop i f)) (drop i f) (good-pair (drop i f) some fine)
      ∙ sym (append_assoc (record_at f i) (13 ∷ 10 ∷ []) _))
      ∙ take_at (record_at f i ++ 13 ∷ 10 ∷ []) _ (text_length (drop i f) + 2) n

-- ---- and where all records are right by 6

module _ (f : Bytes) (i : ℕ) (here : i < length f) (fine : is_good (lines (drop i f)) ≡ true)
    (all : Along (check6 cwr22) (records_in (lines (drop i f)))) where
  pub all_after : Along (check6 cwr22) (records_in (lines (drop (i + text_length (drop i f) + 2) f)))
  all_after = (subst (Along (check6 cwr22)) (records-here f i here fine) all).1

  pub here-typed : T (typed cwr22 (record_at f i))
  here-typed = (subst (Along (check6 cwr22)) (records-here f i here fine) all).0

  pub here-three : 3 ≤ text_length (drop i f)
  here-three =
      let r = record_at f i in
      let k = left (known (cls cwr22 r)) (eqb (length r) (cwr22.len (take 3 r))) here-typed in
      let l = eqb→eq (length r) (cwr22.len (take 3 r)) (right (known (cls cwr22 r)) (eqb (length r) (cwr22.len (take 3 r))) here-typed) in
      omega (arith, three (cls cwr22 r), cwr22.inside (take 3 r) k, l, long f i here fine)

  module _ (row : Row) (its : row ≡ row_for (take 3 (drop i f))) where
    its_own : row ≡ row_for (take 3 (record_at f i))
    its_own = its ∙ sym (ap row_for (take-take 3 (text_length (drop i f)) (drop i f) here-three))

    pub row-size : row.length ≡ text_length (drop i f)
    row-size =
        let e = sym (row_typed (record_at f i) row its_own) ∙ is_true (typed cwr22 (record_at f i)) here-typed in
        sym (eqb-true (length (record_at f i)) row.length
        ((and-eq-true_iff (known (class_in row.class)) (eqb (length (record_at f i)) row.length)).0 e).1)
        ∙ long f i here fine

    pub row-numbers : at (class_in row.class) + width (class_in row.class) ≤ length (record_at f i)
    row-numbers = row_room (record_at f i) row its_own (is_true (typed cwr22 (record_at f i)) here-typed)

    pub row_is : class_in row.class ≡ cls cwr22 (record_at f i)
    row_is = row-class (record_at f i) row its_own
