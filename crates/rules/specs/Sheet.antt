-- The client's catalogue sheet (M-103): what is told of a list of files, each taken with its tables. Every figure is a count, a largest or a
-- sum over all transactions, or all records, of the files that pass; of a file that is refused nothing is told but that it was.
use Rattle.std.specs.Prelude.{ℕ, zero, suc, ◌+◌, ◌-◌, ◌^◌, Bool, true, false, cond, not, ◌&&◌, List, [], ◌∷◌, map, leb, eqb, ℤ, pos, negsuc, ◌+ℤ◌, length, get_or}
use Rattle.std.proofs.Math.IntN.{sub_ℕ}
use Rattle.format.specs.Bytes.{Bytes}
use Rattle.format.specs.Doc.{Group, Transaction}
use Rattle.format.specs.Structure.{Answer, refused, passed}
use Rattle.rules.specs.Tables.{Tables}
use Rattle.rules.specs.Values.{full_share, largest_tolerance}
use Rattle.rules.specs.Records.{only}
use Rattle.rules.specs.Totals.{Right, PR, MR, SR, whole_total}
use Rattle.rules.specs.Findings.{larger}
use Rattle.rules.specs.Verdicts.{joined, file_findings, file_verdicts}
use Rattle.rules.specs.Outcome.{admission, content}

-- ---- the files

pub record Taken : Type 0 where
  pub tables : Tables
  pub file : Bytes

-- the tolerance of the check that decides, which is not the short form's (M-104)
abbrev pub sheet_tolerance : ℕ
sheet_tolerance = largest_tolerance

-- refused by 2 to 10, or passed
unfoldable pub answer_to : Taken → Answer
answer_to x = admission x.tables sheet_tolerance x.file

abbrev pub is_refused : Answer → Bool
is_refused (refused n i) = true
is_refused (passed g m n) = false

abbrev pub refused_files : List Taken → List Taken
refused_files xs = only (λ (x : Taken). is_refused (answer_to x)) xs

abbrev pub passed_files : List Taken → List Taken
passed_files xs = only (λ (x : Taken). not (is_refused (answer_to x))) xs

-- ---- what the files that pass have: transactions, and of each record its findings and its verdict

abbrev pub transactions_of : Taken → List Transaction
transactions_of x = joined (λ (g : Group). g.transactions) (content x.file).groups

unfoldable pub all_transactions : List Taken → List Transaction
all_transactions xs = joined transactions_of (passed_files xs)

unfoldable pub all_findings : List Taken → List (List Bool)
all_findings xs = joined (λ (x : Taken). file_findings x.tables sheet_tolerance (content x.file)) (passed_files xs)

unfoldable pub all_verdicts : List Taken → List ℕ
all_verdicts xs = joined (λ (x : Taken). file_verdicts x.tables sheet_tolerance (content x.file)) (passed_files xs)

-- ---- lists

abbrev pub how_many : {A : Type 0} → (A → Bool) → List A → ℕ
how_many p xs = length (only p xs)

-- 0 where there is none
abbrev pub largest : List ℕ → ℕ
largest [] = 0
largest (n ∷ ns) = larger n (largest ns)

abbrev pub sumℤ : List ℤ → ℤ
sumℤ [] = pos 0
sumℤ (z ∷ zs) = z +ℤ sumℤ zs

-- one number for each k below n
abbrev pub each : ℕ → (ℕ → ℕ) → List ℕ
each zero f = []
each (suc n) f = f 0 ∷ each n (λ k. f (suc k))

-- ---- a right: the transactions whose total is neither 0 nor the full share, without tolerance

pub record Missed : Type 0 where
  pub transactions : ℕ
  pub shortfall : ℕ
  pub excess : ℕ
  pub sum : ℤ

abbrev pub misses : ℕ → Bool
misses total = not (eqb total 0) && not (eqb total full_share)

-- how many, the largest shortfall and the largest excess (a difference of naturals is 0 where it would be less), and the sum of the signed
-- differences: negative is short
unfoldable pub missed_by : List ℕ → Missed
missed_by totals = record {
  transactions = length totals;
  shortfall = largest (map (λ total. full_share - total) totals);
  excess = largest (map (λ total. total - full_share) totals);
  sum = sumℤ (map (λ total. sub_ℕ total full_share) totals);
}

abbrev pub totals_of : Right → List Transaction → List ℕ
totals_of right xs = map (λ (x : Transaction). whole_total right x.details) xs

unfoldable pub missed : Right → List Transaction → Missed
missed right xs = missed_by (only misses (totals_of right xs))

-- ---- records

-- how many carry each of the findings 0 to 63
abbrev pub carries : ℕ → List Bool → Bool
carries n set = get_or set n false

unfoldable pub counts_by_finding : List (List Bool) → List ℕ
counts_by_finding sets = each 64 (λ n. how_many (carries n) sets)

-- how many have each of the verdicts 0 to 4
unfoldable pub counts_by_verdict : List ℕ → List ℕ
counts_by_verdict verdicts = each 5 (λ n. how_many (eqb n) verdicts)

-- ---- the sheet

pub record Sheet : Type 0 where
  pub files : ℕ
  pub refused : ℕ
  pub pr : Missed
  pub mr : Missed
  pub sr : Missed
  pub findings : List ℕ
  pub verdicts : List ℕ

unfoldable pub sheet_of : List Taken → Sheet
sheet_of xs = record {
  files = length xs;
  refused = length (refused_files xs);
  pr = missed PR (all_transactions xs);
  mr = missed MR (all_transactions xs);
  sr = missed SR (all_transactions xs);
  findings = counts_by_finding (all_findings xs);
  verdicts = counts_by_verdict (all_verdicts xs);
}

-- ---- one file more, on any sheet whatever stands in it. Where files have made it, the new sheet is that of the list with one more
-- (`one_more` in Claims); else a sum of 64 bits stops at its largest number, a signed one at its least too

abbrev pub most : ℕ
most = 2 ^ 64 - 1

abbrev pub plus : ℕ → ℕ → ℕ
plus a b = cond (leb (a + b) most) (a + b) most

abbrev pub mostℤ : ℕ
mostℤ = 2 ^ 63 - 1

-- -2^63 is `negsuc (2^63 - 1)`
abbrev pub within : ℤ → ℤ
within (pos n) = pos (cond (leb n mostℤ) n mostℤ)
within (negsuc n) = negsuc (cond (leb n mostℤ) n mostℤ)

abbrev pub plus_each : List ℕ → List ℕ → List ℕ
plus_each [] ns = []
plus_each (m ∷ ms) [] = m ∷ ms
plus_each (m ∷ ms) (n ∷ ns) = plus m n ∷ plus_each ms ns

abbrev pub with_missed : Missed → Missed → Missed
with_missed a b = record {
  transactions = plus a.transactions b.transactions;
  shortfall = larger a.shortfall b.shortfall;
  excess = larger a.excess b.excess;
  sum = within (a.sum +ℤ b.sum);
}

unfoldable pub with_sheet : Sheet → Sheet → Sheet
with_sheet s u = record {
  files = plus s.files u.files;
  refused = plus s.refused u.refused;
  pr = with_missed s.pr u.pr;
  mr = with_missed s.mr u.mr;
  sr = with_missed s.sr u.sr;
  findings = plus_each s.findings u.findings;
  verdicts = plus_each s.verdicts u.verdicts;
}

-- ---- the outcome of the call: 12 before all else

abbrev pub most_files : ℕ
most_files = 4096

pub record Added : Type 0 where
  pub answer : Answer
  pub sheet : Sheet

unfoldable pub add : Sheet → Taken → Added
add s x =
    cond (leb most_files s.files)
    (record { answer = refused 12 0; sheet = s })
    (record { answer = answer_to x; sheet = with_sheet s (sheet_of (x ∷ [])) })
