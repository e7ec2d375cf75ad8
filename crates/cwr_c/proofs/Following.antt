-- Calls that follow one another on a sheet. Assumes nothing.
use Prim.Native.Nat.{◌+◌, ◌≤◌, ◌<◌}
use native.Mathlib.Omega.{arith}
use mathlib.Core.Path.{◌≡◌, refl, sym, ap, ◌∙◌}
use mathlib.Core.List.{List, [], ◌∷◌, ◌++◌, append_assoc, append-nil}
use lib.ListN.{length, drop, length-append}
use lib.Seq.{drop_at}
use Rattle.format.specs.Bytes.{Bytes}
use Rattle.rules.specs.Sheet.{Taken, answer_to, counts_by_finding, counts_by_verdict, Sheet, sheet_of, most_files, Added, add}
use Rattle.rules.proofs.Sheets.{sheets}
use Rattle.sheet_bytes.specs.Layout.{sheet_size, sheet_in, bytes_of_sheet}
use Rattle.sheet_bytes.specs.Claims.{Fits}
use Rattle.sheet_bytes.proofs.Back.{both_ways}
use Rattle.cwr_c.specs.Sheet.{sheet_answer, sheet_buffer}
use Rattle.cwr_c.specs.Claims.{sheet_after, Following}
use Rattle.cwr_c.proofs.Laws.{roomy-answer, roomy-buffer}

-- the figures of files have room
fits : (xs : List Taken) → length xs ≤ most_files → Fits (sheet_of xs)
unfolding sheet_of counts_by_finding counts_by_verdict
fits xs h = let (u, z) = sheets.fits xs h in record { findings = refl; verdicts = refl; unsigned = u; signed = z }

module _ (xs : List Taken) (x : Taken) (rest : Bytes) (h : length xs < most_files) where
  abbrev before : Bytes
  before = bytes_of_sheet (sheet_of xs) ++ rest

  long : length (bytes_of_sheet (sheet_of xs)) ≡ sheet_size
  long = both_ways.size (sheet_of xs) (fits xs (omega arith))

  room : sheet_size ≤ length before
  room = omega (arith, length-append (bytes_of_sheet (sheet_of xs)) rest, long)

  added : add (sheet_in before) x ≡ record { answer = answer_to x; sheet = sheet_of (xs ++ x ∷ []) }
  added = ap (λ (s : Sheet). add s x) (both_ways.read_back (sheet_of xs) rest (fits xs (omega arith))) ∙ sheets.one_more xs x h

  own_answer : sheet_answer before x ≡ answer_to x
  own_answer = roomy-answer before x room ∙ ap (λ (a : Added). a.answer) added

  one_more : sheet_buffer before x ≡ bytes_of_sheet (sheet_of (xs ++ x ∷ [])) ++ rest
  one_more =
      roomy-buffer before x room
      ∙ (λ i. bytes_of_sheet (added i).sheet ++ drop_at (bytes_of_sheet (sheet_of xs)) rest sheet_size long i)

more : (done xs : List Taken) (rest : Bytes) → length done + length xs ≤ most_files
    → sheet_after (bytes_of_sheet (sheet_of done) ++ rest) xs ≡ bytes_of_sheet (sheet_of (done ++ xs)) ++ rest
more done [] rest h = ap (λ (l : List Taken). bytes_of_sheet (sheet_of l) ++ rest) (sym (append-nil done))
more done (x ∷ xs) rest h =
    ap (λ (b : Bytes). sheet_after b xs) (one_more done x rest (omega arith))
    ∙ more (done ++ x ∷ []) xs rest (omega (arith, length-append done (x ∷ [])))
    ∙ ap (λ (l : List Taken). bytes_of_sheet (sheet_of l) ++ rest) (append_assoc done (x ∷ []) xs)

pub following : Following
following = record {
  after_all = λ xs rest h. ap (λ (b : Bytes). sheet_after (b ++ rest) xs) (sym both_ways.zeros) ∙ more [] xs rest (omega arith);
  own_answer = own_answer;
  full = λ sheet x room are h.
      let stays = sheets.full (sheet_in sheet) x h in (
        roomy-answer sheet x room ∙ ap (λ (a : Added). a.answer) stays,
        roomy-buffer sheet x room ∙ ap (λ (a : Added). bytes_of_sheet a.sheet ++ drop sheet_size sheet) stays
            ∙ both_ways.written_back sheet room are,
      );
}
