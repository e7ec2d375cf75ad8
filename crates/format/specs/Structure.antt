-- The refusals 3 to 10 in their order, each over the whole file before the next, and the numbers of a file that passes.
use Rattle.std.specs.Prelude.{ℕ, Bool, cond, List, [], ◌∷◌, length, leb}
use Rattle.std.proofs.Math.Option.{Option, none, some}
use Rattle.format.specs.Bytes.{Bytes}
use Rattle.format.specs.Table.{Table}
use Rattle.format.specs.Lines.{Lines, good, bad, lines}
use Rattle.format.specs.Checks.{Counts, none_counted, fault_of, check6, check7, check8, check9, count_from}

-- a refusal's number and place; or the numbers of groups, transactions and records
pub data Answer : Type 0 where
  refused : ℕ → ℕ → Answer
  passed : ℕ → ℕ → ℕ → Answer

-- refusal n at the place of the fault; where there is none, the answer of what follows
abbrev pub refusal : ℕ → Option ℕ → Answer → Answer
refusal n none a = a
refusal n (some i) a = refused n i

-- a fault at place i unless the test passes
abbrev pub unless : Bool → ℕ → Option ℕ
unless b i = cond b none (some i)

-- the size limits
abbrev pub most_bytes : ℕ
most_bytes = 16777216

abbrev pub most_records : ℕ
most_records = 131072

abbrev pub first_record : List Bytes → Bytes
first_record [] = []
first_record (r ∷ rs) = r

abbrev pub counts_of : Counts → Answer
counts_of n = passed n.groups n.transactions n.records

-- 3, 4 and 5, and then what the records decide
abbrev pub of_lines : (List Bytes → Answer) → Lines → Answer
of_lines judge (bad n) = refused 4 n
of_lines judge (good rs) = refusal 5 (unless (leb (length rs) most_records) most_records) (judge rs)

abbrev pub of_file : (List Bytes → Answer) → Bytes → Answer
of_file judge f = refusal 3 (unless (leb (length f) most_bytes) 0) (of_lines judge (lines f))

module _ (𝕋 : Table) where
  -- 10, and finally the three numbers
  abbrev pub versioned : List Bytes → Answer
  versioned rs = refusal 10 (unless (𝕋.version (first_record rs)) 0) (counts_of (count_from 𝕋 none_counted rs))

  -- 6 to 10
  unfoldable pub judged : List Bytes → Answer
  judged rs =
      refusal 6 (fault_of (check6 𝕋) rs)
      (refusal 7 (fault_of (check7 𝕋) rs)
      (refusal 8 (fault_of (check8 𝕋) rs)
      (refusal 9 (fault_of (check9 𝕋) rs)
      (versioned rs))))

  unfoldable pub structure : Bytes → Answer
  structure f = of_file judged f
