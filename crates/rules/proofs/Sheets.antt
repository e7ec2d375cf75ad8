-- What is claimed of the catalogue sheet (specs/Claims) holds. Assumes nothing.
use Prim.Native.Nat.{ℕ, suc, ◌+◌, ◌^◌, ◌≤◌, ◌<◌}
use native.Mathlib.Omega.{arith}
use mathlib.Core.Path.{◌≡◌, refl, sym, ap, ◌∙◌, subst}
use mathlib.Core.Bool.{false≢true, not}
use mathlib.Core.List.{List, [], ◌∷◌, ◌++◌, map}
use mathlib.Core.Logic.{◌≢◌, ∥∥₁_elim}
use lib.Dec.{leb}
use lib.IntN.{ℤ, pos, negsuc, ◌+ℤ◌}
use lib.Signed.{mag}
use lib.ListN.{length, length-append}
use borrow.Author.Tests.{le-leb, lt-leb, leb-true}
use Rattle.format.specs.Bytes.{Bytes, All}
use Rattle.format.specs.Structure.{Answer, refused, passed}
use Rattle.format.proofs.Answers.{refused-by}
use Rattle.format.proofs.Tests.{by_cases}
use Rattle.rules.specs.Totals.{PR, MR, SR}
use Rattle.rules.specs.Verdicts.{joined, file_findings, file_verdicts}
use Rattle.rules.specs.Outcome.{enough, admission, answer, content, check}
use Rattle.rules.specs.Sheet.{Taken, sheet_tolerance, answer_to, is_refused, refused_files, passed_files, transactions_of}
use Rattle.rules.specs.Sheet.{all_transactions, all_findings, all_verdicts, Missed, missed_by, missed, counts_by_finding, counts_by_verdict, Sheet, sheet_of}
use Rattle.rules.specs.Sheet.{most, plus, mostℤ, within, plus_each, with_missed, with_sheet, most_files, add}
use Rattle.rules.specs.Claims.{figures_of, unsigned, signed, sum, records_told, with_refused, Sheets}
use Rattle.rules.proofs.Lists.{only_kept, only-left}
use Rattle.rules.proofs.Joined.{joined-all}
use Rattle.rules.proofs.Each.{verdicts-each}
use Rattle.rules.proofs.Verdicts.{AtMost4, verdicts-most, five}
use Rattle.rules.proofs.Outcomes.{admitted, admission-by, room-else}
use Rattle.rules.proofs.Together.{same-missed, same-sheet, sheet-set, sums, both_missed, both, sheet-append, reordered}
use Rattle.rules.proofs.Room.{Fits, all_fit}

-- ---- where all figures have room, no sum stops

plus-fits : (a b : ℕ) → Fits (a + b) → plus a b ≡ a + b
plus-fits a b h = rw (le-leb (a + b) most (omega arith))

within-fits : (z : ℤ) → mag z < 2 ^ 63 → within z ≡ z
within-fits (pos n) h = rw (le-leb n mostℤ (omega arith))
within-fits (negsuc n) h = rw (le-leb n mostℤ (omega arith))

each_fits : (ms ns : List ℕ) → length ms ≡ length ns → All Fits (sums ms ns) → plus_each ms ns ≡ sums ms ns
each_fits [] [] e h = refl
each_fits [] (n ∷ ns) e h = absurd (omega arith)
each_fits (m ∷ ms) [] e h = refl
each_fits (m ∷ ms) (n ∷ ns) e h =
    let rest = each_fits ms ns (omega arith) h.1 in
    λ i. plus-fits m n h.0 i ∷ rest i

missed-fits : (a b : Missed) → All Fits (figures_of (both_missed a b)) → mag (a.sum +ℤ b.sum) < 2 ^ 63 → with_missed a b ≡ both_missed a b
unfolding both_missed
missed-fits a b h k = same-missed (plus-fits a.transactions b.transactions h.0) refl refl (within-fits (a.sum +ℤ b.sum) k)

apart : {A : Type 0} (P : A → Type 0) (xs ys : List A) → All P (xs ++ ys) → All P xs × All P ys
apart P [] ys h = (tt, h)
apart P (x ∷ xs) ys h = let (those, rest) = apart P xs ys h.1 in ((h.0, those), rest)

sheet-fits : (s u : Sheet) → length s.findings ≡ length u.findings → length s.verdicts ≡ length u.verdicts
    → All Fits (unsigned (both s u)) × All (λ z. mag z < 2 ^ 63) (signed (both s u)) → with_sheet s u ≡ both s u
unfolding with_sheet both both_missed
sheet-fits s u e d ((f, (r, (p1, (p2, (p3, (m1, (m2, (m3, (q1, (q2, (q3, rest))))))))))), (p, (m, (q, _)))) =
    let (these, those) = apart Fits (sums s.findings u.findings) (sums s.verdicts u.verdicts) rest in
    same-sheet (plus-fits s.files u.files f) (plus-fits s.refused u.refused r)
    (missed-fits s.pr u.pr (p1, (p2, (p3, tt))) p)
    (missed-fits s.mr u.mr (m1, (m2, (m3, tt))) m)
    (missed-fits s.sr u.sr (q1, (q2, (q3, tt))) q)
    (each_fits s.findings u.findings e these)
    (each_fits s.verdicts u.verdicts d those)

-- every sheet of files has 64 findings and 5 verdicts
lengths : (xs : List Taken) → (length (sheet_of xs).findings ≡ 64) × (length (sheet_of xs).verdicts ≡ 5)
unfolding sheet_of counts_by_finding counts_by_verdict
lengths xs = (refl, refl)

with-one : (xs : List Taken) (x : Taken) → length xs < most_files → with_sheet (sheet_of xs) (sheet_of (x ∷ [])) ≡ sheet_of (xs ++ x ∷ [])
with-one xs x h =
    let (e, d) = lengths xs in
    let (f, c) = lengths (x ∷ []) in
    let few : length (xs ++ x ∷ []) ≤ most_files = omega (arith, length-append xs (x ∷ [])) in
    let room = subst (λ s. All Fits (unsigned s) × All (λ z. mag z < 2 ^ 63) (signed s)) (sheet-append xs (x ∷ [])) (all_fit (xs ++ x ∷ []) few) in
    sheet-fits (sheet_of xs) (sheet_of (x ∷ [])) (e ∙ sym f) (d ∙ sym c) room ∙ sym (sheet-append xs (x ∷ []))

one_more : (xs : List Taken) (x : Taken) → length xs < most_files → add (sheet_of xs) x ≡ record { answer = answer_to x; sheet = sheet_of (xs ++ x ∷ []) }
unfolding add sheet_of
one_more xs x h = rw (lt-leb most_files (length xs) h, with-one xs x h)

-- ---- the verdicts' counts

abbrev verdicts_in : Taken → List ℕ
verdicts_in x = file_verdicts x.tables sheet_tolerance (content x.file)

all-4 : (xs : List Taken) → All AtMost4 (all_verdicts xs)
unfolding all_verdicts
all-4 xs = joined-all AtMost4 verdicts_in (λ x. verdicts-most x.tables sheet_tolerance (content x.file)) (passed_files xs)

-- a file that passes has one for each record that is told
one_each : (x : Taken) (k m n : ℕ) → answer_to x ≡ passed k m n → length (verdicts_in x) ≡ n
unfolding answer_to
one_each x k m n e =
    verdicts-each x.file k m n (admitted x.tables sheet_tolerance x.file k m n e).1 x.tables sheet_tolerance

all_told : (xs : List Taken) → length (joined verdicts_in (passed_files xs)) ≡ sum (map (λ (x : Taken). records_told (answer_to x)) xs)
all_told [] = refl
all_told (x ∷ xs) = go (answer_to x) refl (all_told xs)
  where
    go : (a : Answer) → answer_to x ≡ a → length (joined verdicts_in (passed_files xs)) ≡ sum (map (λ (y : Taken). records_told (answer_to y)) xs)
        → length (joined verdicts_in (passed_files (x ∷ xs))) ≡ records_told (answer_to x) + sum (map (λ (y : Taken). records_told (answer_to y)) xs)
    go (refused n i) e rest = rw e (omega arith)
    go (passed k m n) e rest = rw e (omega (arith, length-append (verdicts_in x) (joined verdicts_in (passed_files xs)), one_each x k m n e))

adds_up : (xs : List Taken) → sum (sheet_of xs).verdicts ≡ sum (map (λ (x : Taken). records_told (answer_to x)) xs)
unfolding sheet_of all_verdicts
adds_up xs = five (all_verdicts xs) (all-4 xs) ∙ all_told xs

-- ---- a file that is refused

module _ (xs : List Taken) (x : Taken) (n i : ℕ) (e : answer_to x ≡ refused n i) where
  same-files : passed_files (xs ++ x ∷ []) ≡ passed_files xs
  same-files = only-left (λ (y : Taken). not (is_refused (answer_to y))) xs x (ap (λ (a : Answer). not (is_refused a)) e)

  one-refused : length (refused_files (xs ++ x ∷ [])) ≡ suc (length (refused_files xs))
  one-refused =
      let kept = only_kept (λ (y : Taken). is_refused (answer_to y)) xs x (ap is_refused e) in
      omega (arith, ap length kept, length-append (refused_files xs) (x ∷ []))

  refused_only : sheet_of (xs ++ x ∷ []) ≡ with_refused (sheet_of xs)
  unfolding sheet_of all_transactions all_findings all_verdicts
  refused_only =
      let same = ap (joined transactions_of) same-files in
      same-sheet (omega (arith, length-append xs (x ∷ []))) one-refused
      (ap (missed PR) same)
      (ap (missed MR) same)
      (ap (missed SR) same)
      (ap (λ l. counts_by_finding (joined (λ (y : Taken). file_findings y.tables sheet_tolerance (content y.file)) l)) same-files)
      (ap (λ l. counts_by_verdict (joined verdicts_in l)) same-files)

-- ---- the answer

as_checked : (x : Taken) (v g : Bytes) (a : Answer) → (check x.tables sheet_tolerance x.file v g).answer ≡ a → a ≢ refused 11 0 → answer_to x ≡ a
unfolding check answer answer_to
as_checked x v g = room-else (enough (length v) (length g)) (admission x.tables sheet_tolerance x.file)

numbers : (x : Taken) (n i : ℕ) → answer_to x ≡ refused n i → (2 ≤ n) × (n ≤ 10)
unfolding answer_to
numbers x n i =
    refused-by (λ k. (2 ≤ k) × (k ≤ 10)) n i
    (admission-by (λ k. (2 ≤ k) × (k ≤ 10)) x.tables sheet_tolerance x.file (λ e. absurd (false≢true (sym e))) (omega arith))

full : (s : Sheet) (x : Taken) → most_files ≤ s.files → add s x ≡ record { answer = refused 12 0; sheet = s }
unfolding add
full s x h = rw (le-leb most_files s.files h)

only_full : (s : Sheet) (x : Taken) (i : ℕ) → (add s x).answer ≡ refused 12 i → most_files ≤ s.files
unfolding add
only_full s x i a =
    by_cases (leb most_files s.files) (leb-true most_files s.files)
    (λ e. let (_, high) = numbers x 12 i (rw e at a) in absurd (omega arith))

-- ---- the claims

pub sheets : Sheets
unfolding sheet_of all_transactions all_findings all_verdicts missed missed_by counts_by_finding counts_by_verdict
sheets = record {
  fresh = (refl, refl);
  one_more = one_more;
  full = full;
  only_full = only_full;
  as_checked = as_checked;
  numbers = numbers;
  refused_only = refused_only;
  adds_up = adds_up;
  any_order = λ xs ys p. ∥∥₁_elim p (sheet-set (sheet_of xs) (sheet_of ys)) reordered;
  fits = all_fit;
}
