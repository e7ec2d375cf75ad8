-- The number and the place of each refusal, and an answer as one number.
use Rattle.std.specs.Prelude.{ℕ, ◌+◌, ◌*◌, ◌^◌, Bool, true, false, Result, Ok, Err}
use Rattle.format.specs.Structure.{Answer as FormatAnswer, refused, passed, most_records}
use Rattle.answers.specs.declared.Passed.{Passed}
use Rattle.answers.specs.declared.Refusal.{Refusal}
use Rattle.answers.specs.declared.Refusal.TheVariants.{Tolerance, Table, Long, Many, Line, Shape}
use Rattle.answers.specs.declared.Refusal.TheVariants.{Place, Number, Total, Version, Short, Full, Territories, Crowded}

-- the number of a refusal's ground, and its place
abbrev pub ground_of : Refusal → ℕ × ℕ
ground_of Tolerance = (1, 0)
ground_of (Table i) = (2, i)
ground_of Long = (3, 0)
ground_of (Line i) = (4, i)
ground_of Many = (5, most_records)
ground_of (Shape i) = (6, i)
ground_of (Place i) = (7, i)
ground_of (Number i) = (8, i)
ground_of (Total i) = (9, i)
ground_of Version = (10, 0)
ground_of Short = (11, 0)
ground_of Full = (12, 0)
ground_of Territories = (13, 0)
ground_of (Crowded i) = (14, i)

abbrev pub refused_of : Refusal → FormatAnswer
refused_of r = refused (ground_of r).0 (ground_of r).1

abbrev pub answer_of : Result Passed Refusal → FormatAnswer
answer_of (Ok p) = passed p.groups p.transactions p.records
answer_of (Err r) = refused_of r

-- an answer in numbers; those that it has not are 0
pub record Told : Type 0 where
  pub passes : Bool
  pub refusal : ℕ
  pub place : ℕ
  pub groups : ℕ
  pub transactions : ℕ
  pub records : ℕ

abbrev pub told_of : FormatAnswer → Told
told_of (refused n i) = record { passes = false; refusal = n; place = i; groups = 0; transactions = 0; records = 0 }
told_of (passed g m r) = record { passes = true; refusal = 0; place = 0; groups = g; transactions = m; records = r }

abbrev pub is_passed : FormatAnswer → Bool
is_passed (refused n i) = false
is_passed (passed g m r) = true

-- an answer as one number: the refusal's number times 2^32 plus its place, or the number of records
abbrev pub exact : FormatAnswer → ℕ
exact (refused n i) = n * 2 ^ 32 + i
exact (passed g m r) = r
