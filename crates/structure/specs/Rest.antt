-- Internal: what the rest of a file decides, once a walk has come to a place in it: the answer of the whole file, if all before was right.
use Rattle.std.specs.Prelude.{ℕ, ◌+◌, Bool, true, false, not, ◌||◌, List, length, leb}
use Rattle.std.proofs.Math.Option.{Option, none, some}
use Rattle.format.specs.Bytes.{Bytes}
use Rattle.format.specs.Table.{Class, trl, Table}
use Rattle.format.specs.Lines.{Lines, good, bad, lines}
use Rattle.format.specs.Checks.{Check, fault_from, Counts, cls, is, may_follow, counting, check6, check7, ok8, ok9, count_from}
use Rattle.format.specs.Structure.{Answer, refused, refusal, unless, most_records, counts_of}

-- the first of two faults
abbrev pub or_else : Option ℕ → Option ℕ → Option ℕ
or_else none b = b
or_else (some i) b = some i

-- the places of the first faults by 7, 8 and 9, as far as they were met
pub record Faults : Type 0 where
  pub seven : Option ℕ
  pub eight : Option ℕ
  pub nine : Option ℕ

abbrev pub faultless : Faults
faultless = record { seven = none; eight = none; nine = none }

-- numbers are judged where they are asked for: the check asks, numbering does not
module _ (𝕋 : Table) (asked : Bool) where
  abbrev pub asked8 : Check
  asked8 = counting 𝕋 (λ n r. not asked || ok8 𝕋 n r)

  abbrev pub asked9 : Check
  asked9 = counting 𝕋 (λ n r. not asked || ok9 𝕋 n r)

  -- the faults met with the record r after
  unfoldable pub more_faults : Faults → Class → Counts → Bytes → Faults
  more_faults m p n r =
      record {
        seven = or_else m.seven (unless (may_follow p (cls 𝕋 r)) n.records);
        eight = or_else m.eight (unless (not asked || ok8 𝕋 n r) n.records);
        nine = or_else m.nine (unless (not asked || ok9 𝕋 n r) n.records);
      }

-- and `version` is the verdict of 10
module _ (𝕋 : Table) (asked version : Bool) where
  abbrev pub version_from : Counts → Answer
  version_from n = refusal 10 (unless version 0) (counts_of n)

  -- after a record of class p, after the records n, with the faults m met
  unfoldable pub judged_from : Faults → Class → Counts → List Bytes → Answer
  judged_from m p n rs =
      refusal 6 (fault_from (check6 𝕋) tt n.records rs)
      (refusal 7 (or_else m.seven (fault_from (check7 𝕋) p n.records rs))
      (refusal 8 (or_else m.eight (fault_from (asked8 𝕋 asked) n n.records rs))
      (refusal 9 (or_else m.nine (fault_from (asked9 𝕋 asked) n n.records rs))
      (version_from (count_from 𝕋 n rs)))))

  unfoldable pub lines_from : Class → Counts → Lines → Answer
  lines_from p n (bad k) = refused 4 (n.records + k)
  lines_from p n (good rs) = refusal 5 (unless (leb (n.records + length rs) most_records) most_records) (judged_from faultless p n rs)

  abbrev pub rest_from : Class → Counts → Bytes → Answer
  rest_from p n f = lines_from p n (lines f)

  -- what is left to say after the last record
  unfoldable pub at_end : Faults → Class → Counts → Answer
  at_end m p n =
      refusal 7 (or_else m.seven (unless (is trl p) n.records)) (refusal 8 m.eight (refusal 9 m.nine (version_from n)))

abbrev pub is_good : Lines → Bool
is_good (good rs) = true
is_good (bad k) = false
