-- What is counted of some records: of none, of two parts one after the other, of all with those around them, and with their levels raised.
-- Assumes nothing.
use Prim.Native.Nat.{ℕ, suc, ◌+◌, ◌-◌, ◌≤◌}
use native.Mathlib.Omega.{arith}
use mathlib.Core.Path.{◌≡◌, refl, ◌∙◌}
use mathlib.Core.Bool.{Bool, false}
use mathlib.Core.List.{List, [], ◌∷◌, ◌++◌, append_assoc, append-nil}
use lib.Dec.{eqb, eqb-suc-zero}
use lib.ListN.{length-append, length-map}
use Rattle.format.specs.Bytes.{All}
use Rattle.format.specs.Structure.{most_records}
use Rattle.rules.specs.Findings.{larger}
use Rattle.rules.specs.Verdicts.{joined, raised}
use Rattle.rules.specs.Sheet.{how_many, carries, counts_by_finding}
use Rattle.rules.proofs.Counts.{how_many-append, each_same}
use Rattle.files.proofs.Entries.{joined-last}
use Rattle.figures.specs.Counted.{counts_by_level, Counts, Grown, Grows}
use Rattle.transactions.specs.Purposes.{Begun}
use Rattle.counting.specs.Levels.{Part}

-- ---- the order of the records does not matter, and records without a finding have no part

-- one from the end to the front
moved : {A : Type 0} (p : A → Bool) (before xs : List A) (x : A) → how_many p ((before ++ xs) ++ x ∷ []) ≡ how_many p (before ++ x ∷ xs)
moved p before xs x =
    rw (
      how_many-append p (before ++ xs) (x ∷ []),
      how_many-append p before xs,
      how_many-append p before (x ∷ xs),
      how_many-append p (x ∷ []) xs,
    )
    (omega arith)

-- one on either side that does not pass
around : {A : Type 0} (p : A → Bool) (x : A) → p x ≡ false → (before xs : List A) → how_many p (before ++ xs) ≡ how_many p (before ++ (x ∷ (xs ++ (x ∷ []))))
around p x e before xs =
    omega (
      arith,
      how_many-append p before xs,
      how_many-append p before (x ∷ (xs ++ (x ∷ []))),
      left_out (xs ++ (x ∷ [])),
      how_many-append p xs (x ∷ []),
      left_out [],
    )
  where
    left_out : (ys : List _) → how_many p (x ∷ ys) ≡ how_many p ys
    left_out ys = rw e

module _ (before sets : List (List Bool)) (us vs : List ℕ) {fs ls : List ℕ} where
  pub counts-moved : (set : List Bool) (v : ℕ) → Counts ((before ++ sets) ++ set ∷ []) ((us ++ vs) ++ v ∷ []) fs ls
      → Counts (before ++ set ∷ sets) (us ++ v ∷ vs) fs ls
  unfolding counts_by_finding counts_by_level
  counts-moved set v c = record {
    by_finding = c.by_finding ∙ each_same 64 _ _ (λ n. moved (carries n) before sets set);
    by_level = c.by_level ∙ each_same 4 _ _ (λ n. moved (eqb (suc n)) us vs v);
  }

  counts-around : Counts (before ++ sets) (us ++ vs) fs ls → Counts (before ++ ([] ∷ (sets ++ ([] ∷ [])))) (us ++ (0 ∷ (vs ++ (0 ∷ [])))) fs ls
  unfolding counts_by_finding counts_by_level
  counts-around c = record {
    by_finding =
        c.by_finding
        ∙ each_same 64 (λ n. how_many (carries n) (before ++ sets)) (λ n. how_many (carries n) (before ++ ([] ∷ (sets ++ ([] ∷ [])))))
        (λ n. around (carries n) [] refl before sets);
    by_level =
        c.by_level
        ∙ each_same 4 (λ n. how_many (eqb (suc n)) (us ++ vs)) (λ n. how_many (eqb (suc n)) (us ++ (0 ∷ (vs ++ (0 ∷ [])))))
        (λ n. around (eqb (suc n)) 0 (eqb-suc-zero n) us vs);
  }

-- ---- counts of so many records

module _ {n : ℕ} {fs ls : List ℕ} (begun : Begun n fs ls) where
  pub begun_more : {m : ℕ} → n ≤ m → Begun m fs ls
  begun_more h = record {
    sets = begun.sets;
    verdicts = begun.verdicts;
    counts = begun.counts;
    few_sets = omega (arith, h, begun.few_sets);
    few_verdicts = omega (arith, h, begun.few_verdicts);
  }

-- ---- parts

pub part-start : (i : ℕ) (fs ls : List ℕ) → Part i i [] [] fs ls fs ls
part-start i fs ls = record { end = omega arith; even = refl; counted = λ before us c. rw (append-nil before, append-nil us) c }

module _ {i n : ℕ} {verdicts : List ℕ} {sets : List (List Bool)} {fs₀ ls₀ fs ls : List ℕ} (part : Part i n verdicts sets fs₀ ls₀ fs ls) where
  pub part_then : {k : ℕ} {more : List ℕ} {others : List (List Bool)} {fs' ls' : List ℕ} → Part n k more others fs ls fs' ls'
      → Part i k (verdicts ++ more) (sets ++ others) fs₀ ls₀ fs' ls'
  part_then {more = more} {others} next = record {
    end = rw (length-append sets others) (omega (arith, part.end, next.end));
    even = rw (length-append verdicts more, length-append sets others, part.even, next.even);
    counted = λ before us c. rw (← append_assoc before sets others, ← append_assoc us verdicts more)
        (next.counted (before ++ sets) (us ++ verdicts) (part.counted before us c));
  }

  -- with a record before them and one after them that have no finding
  pub part-around : {j k : ℕ} → i ≡ j + 1 → k ≡ n + 1 → Part j k (0 ∷ verdicts ++ 0 ∷ []) ([] ∷ sets ++ [] ∷ []) fs₀ ls₀ fs ls
  part-around a b = record {
    end = rw (length-append sets ([] ∷ [])) (omega (arith, part.end, a, b));
    even = rw (length-append sets ([] ∷ []), length-append verdicts (0 ∷ []), part.even);
    counted = λ before us c. counts-around before sets us verdicts (part.counted before us c);
  }

  module _ (low : All (λ v. v ≤ 4) verdicts) where
    part-grown : (before : List (List Bool)) (us : List ℕ) → Counts before us fs₀ ls₀ → Grown us verdicts (n - i) ls₀ ls
    part-grown before us c = record {
      were = c.by_level;
      are = (part.counted before us c).by_level;
      all = omega (arith, part.end, part.even);
      low = low;
    }

    pub part-grows : n ≤ most_records → Begun i fs₀ ls₀ → Grows (n - i) ls₀ ls
    part-grows few begun =
        (begun.verdicts, verdicts, part-grown begun.sets begun.verdicts begun.counts, omega (arith, few, part.end, part.even, begun.few_verdicts))

    -- with their levels raised
    pub part-raised : (least : ℕ) {ls' : List ℕ}
        → ((us vs : List ℕ) → Grown us vs (n - i) ls₀ ls → ls' ≡ counts_by_level (us ++ raised least vs))
        → Part i n (raised least verdicts) sets fs₀ ls₀ fs ls'
    unfolding raised
    part-raised least settled = record {
      end = part.end;
      even = length-map verdicts (larger least) ∙ part.even;
      counted = λ before us c. record {
        by_finding = (part.counted before us c).by_finding;
        by_level = settled us verdicts (part-grown before us c);
      };
    }

  -- they are no more than there are records
  pub begun-on : Begun i fs₀ ls₀ → Begun n fs ls
  begun-on begun = record {
    sets = begun.sets ++ sets;
    verdicts = begun.verdicts ++ verdicts;
    counts = part.counted begun.sets begun.verdicts begun.counts;
    few_sets = rw (length-append begun.sets sets) (omega (arith, part.end, begun.few_sets));
    few_verdicts = rw (length-append begun.verdicts verdicts) (omega (arith, part.end, part.even, begun.few_verdicts));
  }

-- one part more of a list of parts
pub part-more : {A : Type 0} (verdicts_of : A → List ℕ) (sets_of : A → List (List Bool)) (xs : List A) (x : A) {i n k : ℕ} {fs₀ ls₀ fs ls fs' ls' : List ℕ}
    → Part i n (joined verdicts_of xs) (joined sets_of xs) fs₀ ls₀ fs ls → Part n k (verdicts_of x) (sets_of x) fs ls fs' ls'
    → Part i k (joined verdicts_of (xs ++ x ∷ [])) (joined sets_of (xs ++ x ∷ [])) fs₀ ls₀ fs' ls'
part-more verdicts_of sets_of xs x before one = rw (joined-last verdicts_of xs x, joined-last sets_of xs x) (part_then before one)
