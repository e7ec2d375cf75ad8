-- What each call from C promises of the number that it answers and of what it leaves, and that one outcome alone fits it: proofs/Alone.antt
-- has the proof. `cwr_findings_count`, `cwr_findings_lowest` and `cwr_record_length` promise what `count`, `lowest` and
-- `record_length` of `cwr` do; the promise of `cwr_check_claims` is in Territories.antt.
use Rattle.std.specs.Prelude.{ℕ, ◌≡◌, List, length}
use Rattle.format.specs.Bytes.{Bytes}
use Rattle.rules.specs.Tables.{Tables}
use Rattle.rules.specs.Outcome.{check}
use Rattle.rules.specs.First.{first}
use Rattle.rules.specs.Sheet.{Taken}
use Rattle.answers.specs.Numbers.{exact}
use Rattle.numbering.specs.Outcome.{number_answer, number_buffer}
use Rattle.claims.specs.declared.Claim.{Claim}
use Rattle.cwr.specs.First.{exact_first}
use Rattle.cwr_c.specs.Sheet.{sheet_answer, sheet_buffer}
use Rattle.cwr_c.specs.Territories.{ClaimsCheckedC}

-- `cwr_check_within`, with the buffers v and g before it and v' and g' after it; `cwr_check` with the short form's tolerance
abbrev pub CheckedC : Tables → ℕ → Bytes → Bytes → Bytes → ℕ → Bytes → Bytes → Type 0
CheckedC tables t f v g r v' g' =
    (r ≡ exact (check tables t f v g).answer) × (v' ≡ (check tables t f v g).verdicts) × (g' ≡ (check tables t f v g).findings)

-- `cwr_first_rejected`
abbrev pub FirstRejectedC : Tables → ℕ → Bytes → ℕ → Type 0
FirstRejectedC tables t f r = r ≡ exact_first (first tables t f)

-- `cwr_sheet_add`, with the sheet's bytes before it and after it
abbrev pub SheetAddedC : Bytes → Taken → ℕ → Bytes → Type 0
SheetAddedC sheet x r sheet' = (r ≡ exact (sheet_answer sheet x)) × (sheet' ≡ sheet_buffer sheet x)

-- `cwr_number`, with the buffer before it and after it
abbrev pub NumberedC : Bytes → Bytes → ℕ → Bytes → Type 0
NumberedC f out r out' = (r ≡ exact (number_answer f (length out))) × (out' ≡ number_buffer f out)

pub record OneFits : Type 0 where
  pub check : (tables : Tables) (t : ℕ) (f v g : Bytes) (r s : ℕ) (v₁ g₁ v₂ g₂ : Bytes) → CheckedC tables t f v g r v₁ g₁
      → CheckedC tables t f v g s v₂ g₂ → (r ≡ s) × (v₁ ≡ v₂) × (g₁ ≡ g₂)
  pub first : (tables : Tables) (t : ℕ) (f : Bytes) (r s : ℕ) → FirstRejectedC tables t f r → FirstRejectedC tables t f s → r ≡ s
  pub sheet : (sheet : Bytes) (x : Taken) (r s : ℕ) (a b : Bytes) → SheetAddedC sheet x r a → SheetAddedC sheet x s b → (r ≡ s) × (a ≡ b)
  pub number : (f out : Bytes) (r s : ℕ) (a b : Bytes) → NumberedC f out r a → NumberedC f out s b → (r ≡ s) × (a ≡ b)
  pub claims : (tables : Tables) (table : Bytes) (t : ℕ) (f : Bytes) (cs : List Claim) (v g o : Bytes) (r s : ℕ) (cs₁ cs₂ : List Claim)
      (v₁ g₁ o₁ v₂ g₂ o₂ : Bytes) → ClaimsCheckedC tables table t f cs v g o r cs₁ v₁ g₁ o₁ → ClaimsCheckedC tables table t f cs v g o s cs₂ v₂ g₂ o₂
      → (r ≡ s) × (cs₁ ≡ cs₂) × (v₁ ≡ v₂) × (g₁ ≡ g₂) × (o₁ ≡ o₂)
