-- Where the library keeps its promise, the number of its answer keeps that of the call from C. Assumes nothing.
use Prim.Native.Nat.{ℕ, ◌<◌, ◌≤◌}
use native.Mathlib.Omega.{arith}
use mathlib.Core.Path.{◌≡◌, refl, sym, ap, ◌∙◌}
use mathlib.Core.List.{◌++◌}
use lib.Dec.{leb}
use lib.ListN.{length, drop}
use borrow.Author.Tests.{le-leb, lt-leb}
use Rattle.format.specs.Bytes.{Bytes}
use Rattle.format.specs.Structure.{refused}
use Rattle.format.specs.Claims.{Near}
use Rattle.format.proofs.Tests.{by_cases}
use Rattle.rules.specs.Tables.{Tables}
use Rattle.rules.specs.Outcome.{Outcome}
use Rattle.rules.specs.Sheet.{Taken, answer_to, sheet_tolerance, most_files, Sheet, Added, add}
use Rattle.rules.proofs.Outcomes.{checks, admission-near}
use Rattle.answers.specs.Numbers.{answer_of}
use Rattle.answers.specs.Packed.{packed_of}
use Rattle.answers.proofs.Exact.{exact-so}
use Rattle.numbering.proofs.Claims.{near}
use Rattle.sheet_bytes.specs.Layout.{sheet_size, sheet_in, bytes_of_sheet}
use Rattle.cwr.specs.First.{rules_first}
use Rattle.cwr.specs.Packed.{packed_first}
use Rattle.cwr.specs.Promises.{Answer, First, Checked, FirstRejected, Numbered}
use Rattle.cwr.proofs.Firsts.{first-exact}
use Rattle.sheet.specs.declared.Taken.{Taken as SheetTaken}
use Rattle.sheet.specs.Told.{told_of, added_of}
use Rattle.cwr_c.specs.Sheet.{sheet_answer, sheet_buffer}
use Rattle.cwr_c.specs.Promises.{CheckedC, FirstRejectedC, SheetAddedC, NumberedC}

module _ (a : Answer) {r : ℕ} (e : r ≡ packed_of (answer_of a)) where
  pub checked : (tables : Tables) (t : ℕ) (f v g v' g' : Bytes) → Checked tables t f v g a v' g' → CheckedC tables t f v g r v' g'
  checked tables t f v g v' g' is = (
    exact-so e (ap (λ (o : Outcome). o.answer) is) (checks.near tables t f v g),
    ap (λ (o : Outcome). o.verdicts) is,
    ap (λ (o : Outcome). o.findings) is,
  )

  pub numbered : (f out out' : Bytes) → Numbered f out a out' → NumberedC f out r out'
  numbered f out out' is = (exact-so e is.0 (near f (length out)), is.1)

pub first-rejected : (x : First) {r : ℕ} → r ≡ packed_first (rules_first x) → (tables : Tables) (t : ℕ) (f : Bytes) → FirstRejected tables t f x
    → FirstRejectedC tables t f r
first-rejected x e tables t f is = first-exact tables t f e is

-- ---- a sheet

add-near : (s : Sheet) (x : Taken) → Near (add s x).answer
unfolding add answer_to
add-near s x =
    by_cases (leb most_files s.files)
    (λ e. rw e (omega arith))
    (λ e. rw e (admission-near x.tables sheet_tolerance x.file))

pub sheet-near : (b : Bytes) (x : Taken) → Near (sheet_answer b x)
unfolding sheet_answer
sheet-near b x = by_cases (leb sheet_size (length b)) (λ e. rw e (add-near (sheet_in b) x)) (λ e. rw e (omega arith))

module _ (b : Bytes) (x : Taken) where
  pub sheet-short : {r : ℕ} → length b < sheet_size → r ≡ packed_of (refused 11 0) → SheetAddedC b x r b
  unfolding sheet_answer sheet_buffer
  sheet-short h e = rw (lt-leb sheet_size (length b) h) (e, refl)

  pub roomy-answer : sheet_size ≤ length b → sheet_answer b x ≡ (add (sheet_in b) x).answer
  unfolding sheet_answer
  roomy-answer h = rw (le-leb sheet_size (length b) h) refl

  pub roomy-buffer : sheet_size ≤ length b → sheet_buffer b x ≡ bytes_of_sheet (add (sheet_in b) x).sheet ++ drop sheet_size b
  unfolding sheet_buffer
  roomy-buffer h = rw (le-leb sheet_size (length b) h) refl

  -- taken on the sheet that the bytes hold, and put back
  pub sheet-added : {r : ℕ} → sheet_size ≤ length b → (before : Sheet) → before ≡ sheet_in b → (taken : SheetTaken) → added_of taken ≡ add before x
      → r ≡ packed_of (answer_of taken.answer) → (b' : Bytes) → b' ≡ bytes_of_sheet (told_of taken.sheet) ++ drop sheet_size b
      → SheetAddedC b x r b'
  sheet-added h before is taken added e b' put =
      let so : added_of taken ≡ add (sheet_in b) x = added ∙ ap (λ (s : Sheet). add s x) is in (
        exact-so e (ap (λ (a : Added). a.answer) so ∙ sym (roomy-answer h)) (sheet-near b x),
        put ∙ ap (λ (a : Added). bytes_of_sheet a.sheet ++ drop sheet_size b) so ∙ sym (roomy-buffer h),
      )
