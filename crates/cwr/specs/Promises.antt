-- What each call promises of its answer and of what it leaves, and that one outcome alone fits it: proofs/Alone.antt has the proof.
use Rattle.std.specs.Prelude.{ℕ, ◌≡◌, Option, Result, length, take}
use Rattle.format.specs.Bytes.{Bytes}
use Rattle.format.specs.Cwr22.{cwr22}
use Rattle.rules.specs.Tables.{Tables}
use Rattle.rules.specs.Findings.{places, count_of, lowest_of}
use Rattle.rules.specs.Outcome.{Outcome, check}
use Rattle.rules.specs.First.{first}
use Rattle.rules.specs.Sheet.{Sheet, add}
use Rattle.answers.specs.declared.Passed.{Passed}
use Rattle.answers.specs.declared.Refusal.{Refusal}
use Rattle.answers.specs.Numbers.{answer_of}
use Rattle.numbering.specs.Outcome.{number_answer, number_buffer}
use Rattle.sheet.specs.declared.Taken.{Taken}
use Rattle.sheet.specs.Told.{added_of}
use Rattle.cwr.specs.First.{rules_first}

-- what is answered of a check, and of the first work to look at
abbrev pub Answer : Type 0
Answer = Result Passed Refusal

abbrev pub First : Type 0
First = Result (Option ℕ) Refusal

-- what a check has done, as the definition says it: its answer, and the two buffers after it
abbrev pub outcome : Answer → Bytes → Bytes → Outcome
outcome answer verdicts findings = record { answer = answer_of answer; verdicts = verdicts; findings = findings }

-- `check`, with the buffers v and g before it and v' and g' after it; `check_short` with the short form's tolerance
abbrev pub Checked : Tables → ℕ → Bytes → Bytes → Bytes → Answer → Bytes → Bytes → Type 0
Checked tables t f v g r v' g' = outcome r v' g' ≡ check tables t f v g

-- `first_rejected`
abbrev pub FirstRejected : Tables → ℕ → Bytes → First → Type 0
FirstRejected tables t f r = rules_first r ≡ first tables t f

-- `sheet_add`, on the sheet s
abbrev pub SheetTaken : Sheet → Tables → Bytes → Taken → Type 0
SheetTaken s tables f r = added_of r ≡ add s (record { tables = tables; file = f })

-- `number`, with the buffer before it and after it
abbrev pub Numbered : Bytes → Bytes → Answer → Bytes → Type 0
Numbered f out r out' = (answer_of r ≡ number_answer f (length out)) × (out' ≡ number_buffer f out)

-- `count` and `lowest`
abbrev pub Counted : ℕ → ℕ → Type 0
Counted set r = r ≡ count_of (places 64 set)

abbrev pub Lowest : ℕ → ℕ → Type 0
Lowest set r = r ≡ lowest_of (places 64 set)

-- `record_length`: the length that the table of types has for the record's first three bytes
abbrev pub RightLength : Bytes → ℕ → Type 0
RightLength r n = n ≡ cwr22.len (take 3 r)

pub record OneFits : Type 0 where
  pub check : (tables : Tables) (t : ℕ) (f v g : Bytes) (r s : Answer) (v₁ g₁ v₂ g₂ : Bytes) → Checked tables t f v g r v₁ g₁
      → Checked tables t f v g s v₂ g₂ → (r ≡ s) × (v₁ ≡ v₂) × (g₁ ≡ g₂)
  pub first : (tables : Tables) (t : ℕ) (f : Bytes) (r s : First) → FirstRejected tables t f r → FirstRejected tables t f s → r ≡ s
  pub sheet : (s : Sheet) (tables : Tables) (f : Bytes) (p q : Taken) → SheetTaken s tables f p → SheetTaken s tables f q → p ≡ q
  pub number : (f out : Bytes) (r s : Answer) (a b : Bytes) → Numbered f out r a → Numbered f out s b → (r ≡ s) × (a ≡ b)
  pub count : (set r s : ℕ) → Counted set r → Counted set s → r ≡ s
  pub lowest : (set r s : ℕ) → Lowest set r → Lowest set s → r ≡ s
  pub record_length : (r : Bytes) (m n : ℕ) → RightLength r m → RightLength r n → m ≡ n
