-- What can be read off the number that a call from C answers, and what calls come to that follow one another on a sheet. proofs/Alone.antt and
-- proofs/Following.antt have the proofs.
use Rattle.std.specs.Prelude.{ℕ, ◌/◌, ◌^◌, ◌≤◌, ◌<◌, ◌≡◌, List, [], ◌∷◌, ◌++◌, ◌≢◌, length, replicate}
use Rattle.format.specs.Bytes.{Bytes, All}
use Rattle.format.specs.Structure.{Answer, refused}
use Rattle.rules.specs.Tables.{Tables}
use Rattle.rules.specs.Outcome.{check, short_tolerance}
use Rattle.rules.specs.First.{first}
use Rattle.rules.specs.Sheet.{Taken, answer_to, sheet_of, most_files}
use Rattle.answers.specs.Numbers.{exact}
use Rattle.answers.specs.Claims.{Alike, Says}
use Rattle.numbering.specs.Outcome.{number_answer}
use Rattle.sheet_bytes.specs.Layout.{sheet_size, sheet_in, bytes_of_sheet}
use Rattle.claims.specs.declared.Claim.{Claim}
use Rattle.cwr.specs.First.{exact_first}
use Rattle.cwr_c.specs.Sheet.{sheet_answer, sheet_buffer}
use Rattle.cwr_c.specs.Territories.{claims_answer, ClaimsCheckedC}
use Rattle.cwr_c.specs.Promises.{CheckedC, SheetAddedC, NumberedC}

-- an answer of some check
abbrev pub OfCheck : Answer → Type 0
OfCheck a = (tables : Tables) × (t : ℕ) × (f : Bytes) × (v : Bytes) × (g : Bytes) × ((check tables t f v g).answer ≡ a)

pub record ReadOff : Type 0 where
  -- the number says which refusal at which place, or how many records,
  pub check : (tables : Tables) (t : ℕ) (f v g : Bytes) (r : ℕ) (v' g' : Bytes) → CheckedC tables t f v g r v' g'
      → Says r (check tables t f v g).answer
  -- in the short form never refusal 1,
  pub short_form : (tables : Tables) (f v g : Bytes) (r : ℕ) (v' g' : Bytes) → CheckedC tables short_tolerance f v g r v' g' → r / 2 ^ 32 ≢ 1
  pub sheet : (sheet : Bytes) (x : Taken) (r : ℕ) (sheet' : Bytes) → SheetAddedC sheet x r sheet' → Says r (sheet_answer sheet x)
  pub number : (f out : Bytes) (r : ℕ) (out' : Bytes) → NumberedC f out r out' → Says r (number_answer f (length out))
  pub claims : (tables : Tables) (table : Bytes) (t : ℕ) (f : Bytes) (cs : List Claim) (v g o : Bytes) (r : ℕ) (cs' : List Claim) (v' g' o' : Bytes)
      → ClaimsCheckedC tables table t f cs v g o r cs' v' g' o' → Says r (claims_answer tables table t f cs v g o)
  -- no two outcomes of the search for the first work have the same number,
  pub first_alone : (tables tables' : Tables) (t t' : ℕ) (f f' : Bytes) → exact_first (first tables t f) ≡ exact_first (first tables' t' f')
      → first tables t f ≡ first tables' t' f'
  -- and two checks with the same number were refused alike, or passed with as many records
  pub alike : (a b : Answer) → OfCheck a → OfCheck b → exact a ≡ exact b → Alike a b

-- the bytes of a sheet after a call for each of some files
abbrev pub sheet_after : Bytes → List Taken → Bytes
sheet_after sheet [] = sheet
sheet_after sheet (x ∷ xs) = sheet_after (sheet_buffer sheet x) xs

pub record Following : Type 0 where
  -- of bytes that were all 0 calls make the sheet of their files, until it is full, and leave those beyond it;
  pub after_all : (xs : List Taken) (rest : Bytes) → length xs ≤ most_files
      → sheet_after (replicate sheet_size 0 ++ rest) xs ≡ bytes_of_sheet (sheet_of xs) ++ rest
  -- each answers for its own file alone
  pub own_answer : (xs : List Taken) (x : Taken) (rest : Bytes) → length xs < most_files
      → sheet_answer (bytes_of_sheet (sheet_of xs) ++ rest) x ≡ answer_to x
  -- on a full sheet every file is refused by 12, and no byte changes
  pub full : (sheet : Bytes) (x : Taken) → sheet_size ≤ length sheet → All (λ b. b < 256) sheet → most_files ≤ (sheet_in sheet).files
      → (sheet_answer sheet x ≡ refused 12 0) × (sheet_buffer sheet x ≡ sheet)
