-- The scan for faults over lines that are good: one record more, a record of wrong shape, and the end. Assumes nothing.
use Prim.Native.Nat.{ℕ, ◌+◌, ◌-◌, ◌≤◌, ◌<◌}
use native.Mathlib.Omega.{arith}
use mathlib.Core.Path.{◌≡◌, sym, ap, ◌∙◌}
use mathlib.Core.Bool.{Bool, true, false, not, ◌&&◌, and-eq-true_iff}
use mathlib.Core.List.{List, ◌∷◌}
use lib.ListN.{length, take, drop, drop_of_length-le}
use lib.Dec.{eqb}
use borrow.Author.Tests.{eqb-true}
use Rattle.format.specs.Bytes.{Bytes}
use Rattle.format.specs.Cwr22.{cwr22}
use Rattle.format.specs.Lines.{lines}
use Rattle.format.specs.Checks.{typed}
use Rattle.format.specs.Structure.{Answer, refused}
use Rattle.format.specs.Numbering.{records_in}
use Rattle.format.specs.Table.{known}
use Rattle.kinds.specs.Rows.{class_in, row_for}
use Rattle.kinds.specs.declared.Row.{Row}
use Rattle.lines.specs.Scan.{text_length}
use Rattle.counts.specs.Counting.{counts_in}
use Rattle.structure.specs.Rest.{judged_from, more_faults, at_end, is_good}
use Rattle.structure.specs.Walk.{Bounded, Next, faults_of}
use Rattle.structure.specs.declared.standing.Stand.{Stand}
use Rattle.structure.specs.declared.FirstFaults.{FirstFaults}
use Rattle.structure.proofs.Rest.{judged-turn, judged-type, judged-end}
use Rattle.structure.proofs.Rows.{row-class, row_typed}
use Rattle.structure.proofs.Turns.{bounded-on}
use Rattle.structure.proofs.Here.{record_at, fits, long, records-here, fine-after}

-- ---- what the scan keeps: the records from here on, with the faults met, decide

pub record Judging (f : Bytes) (asked version : Bool) (s : Stand) (m : FirstFaults) (answer : Answer) : Type 0 where
  pub bounded : Bounded f s
  pub fine : is_good (lines (drop s.at f)) ≡ true
  pub rest :
      judged_from cwr22 asked version (faults_of m) (class_in s.class) (counts_in s.counts) (records_in (lines (drop s.at f))) ≡ answer

module _ (f : Bytes) (asked version : Bool) (s : Stand) (m : FirstFaults) (answer : Answer) (J : Judging f asked version s m answer) where
  pub judging-end : length f ≤ s.at → at_end cwr22 asked version (faults_of m) (class_in s.class) (counts_in s.counts) ≡ answer
  unfolding lines
  judging-end h =
      sym (judged-end cwr22 asked version (faults_of m) (class_in s.class) (counts_in s.counts))
      ∙ (rw (drop_of_length-le f h) at J.rest)

  module _ (here : s.at < length f) (e : ℕ) (ends : e ≡ s.at + text_length (drop s.at f))
      (r : Bytes) (part : r ≡ take (e - s.at) (drop s.at f)) (row : Row) (its : row ≡ row_for (take 3 r)) where
    size-here : e - s.at ≡ text_length (drop s.at f)
    size-here = omega (arith, ends)

    cut : r ≡ record_at f s.at
    cut = part ∙ ap (λ k. take k (drop s.at f)) size-here

    -- the record, and the records after it
    others : List Bytes
    others = records_in (lines (drop (s.at + text_length (drop s.at f) + 2) f))

    decides : judged_from cwr22 asked version (faults_of m) (class_in s.class) (counts_in s.counts) (r ∷ others) ≡ answer
    unfolding others
    decides = rw cut (rw (records-here f s.at here J.fine) at J.rest)

    module _ (shaped : Bool) (test : shaped ≡ (known (class_in row.class) && eqb (length r) row.length)) where
      pub is-typed : typed cwr22 r ≡ shaped
      is-typed = row_typed r row its ∙ sym test

      pub judging-type : shaped ≡ false → refused 6 s.counts.records ≡ answer
      judging-type z =
          sym (judged-type cwr22 asked version (faults_of m) (class_in s.class) (counts_in s.counts) r others (is-typed ∙ z)) ∙ decides

      module _ (z : shaped ≡ true) where
        size : row.length ≡ text_length (drop s.at f)
        size =
            sym (eqb-true (length r) row.length
            ((and-eq-true_iff (known (class_in row.class)) (eqb (length r) row.length)).0 (sym test ∙ z)).1)
            ∙ ap length cut
            ∙ long f s.at here J.fine

        pub judging-on : (next : Stand) → Next s row.length row.class next
            → (more : FirstFaults) → faults_of more ≡ more_faults cwr22 asked (faults_of m) (class_in s.class) (counts_in s.counts) r
            → Judging f asked version next more answer
        unfolding others
        judging-on next x more k =
            record {
              bounded = bounded-on f s row.length row.class next J.bounded (rw size (fits f s.at here J.fine)) x;
              fine = rw behind (fine-after f s.at here J.fine);
              rest =
                  rw (k, x.class, x.counts, row-class r row its, behind)
                  (sym (judged-turn cwr22 asked version (faults_of m) (class_in s.class) (counts_in s.counts) r others (is-typed ∙ z)) ∙ decides);
            }
          where
            behind : next.at ≡ s.at + text_length (drop s.at f) + 2
            behind = x.at ∙ ap (λ (n : ℕ). s.at + n + 2) size
