-- Internal: the code's figures as those of lists of transactions and of records, and how large they may be.
use Rattle.std.specs.Prelude.{◌≡◌, Bool, cond, List, [], ◌∷◌, ◌++◌, map, ℕ, suc, ◌+◌, ◌-◌, ◌*◌, ◌≤◌, eqb, length}
use Rattle.std.proofs.Math.IntN.{sub_ℕ}
use Rattle.format.specs.Bytes.{All}
use Rattle.format.specs.Doc.{Transaction}
use Rattle.format.specs.Structure.{most_records}
use Rattle.rules.specs.Values.{full_share}
use Rattle.rules.specs.Records.{only}
use Rattle.rules.specs.Totals.{PR, MR, SR, whole_total}
use Rattle.rules.specs.Verdicts.{file_findings, file_verdicts}
use Rattle.rules.specs.Outcome.{content}
use Rattle.rules.specs.Sheet.{Taken, sheet_tolerance, transactions_of, how_many, each, largest, misses, totals_of, counts_by_finding, counts_by_verdict}
use Rattle.rules.specs.Sheet.{Missed as SheetMissed}
use Rattle.rules.specs.Claims.{sum}
use Rattle.totals.specs.declared.Rights.{Rights}
use Rattle.totals.specs.Sums.{rights, AtMost}
use Rattle.figures.specs.declared.Misses.{Misses}
use Rattle.figures.specs.declared.Missing.{Missing}
use Rattle.figures.specs.declared.Figures.{Figures}

-- ---- transactions

-- of transactions that all miss the full share, given their totals
unfoldable pub misses_by : List ℕ → Misses
misses_by totals = record {
  transactions = length totals;
  shortfall = largest (map (λ total. full_share - total) totals);
  excess = largest (map (λ total. total - full_share) totals);
  short = sum (map (λ total. full_share - total) totals);
  over = sum (map (λ total. total - full_share) totals);
}

-- of any transactions
unfoldable pub misses_of : List ℕ → Misses
misses_of totals = misses_by (only misses totals)

unfoldable pub missing_of : List Transaction → Missing
missing_of xs = record { pr = misses_of (totals_of PR xs); mr = misses_of (totals_of MR xs); sr = misses_of (totals_of SR xs) }

-- the totals of one
abbrev pub whole_of : Transaction → Rights
whole_of x = rights (λ right. whole_total right x.details)

-- as the sheet tells it, the two sums as one with a sign
abbrev pub told : Misses → SheetMissed
told m = record { transactions = m.transactions; shortfall = m.shortfall; excess = m.excess; sum = sub_ℕ m.over m.short }

-- k records have no more than these
abbrev pub UpTo : ℕ → Rights → Type 0
UpTo k total = AtMost (200000 * k) total

pub record Within (k : ℕ) (m : Misses) : Type 0 where
  pub transactions : m.transactions ≤ k
  pub short : m.short ≤ 200000 * k
  pub over : m.over ≤ 200000 * k

abbrev pub WithinAll : ℕ → Missing → Type 0
WithinAll k m = Within k m.pr × Within k m.mr × Within k m.sr

-- ---- records

-- how many have each of the verdicts 1 to 4; those with 0 are all others
unfoldable pub counts_by_level : List ℕ → List ℕ
counts_by_level verdicts = each 4 (λ n. how_many (eqb (suc n)) verdicts)

-- the counts fs by finding and ls by level are those of some records, given their sets and their verdicts
pub record Counts (sets : List (List Bool)) (verdicts fs ls : List ℕ) : Type 0 where
  pub by_finding : fs ≡ counts_by_finding sets
  pub by_level : ls ≡ counts_by_level verdicts

-- they are of no more records than a file may have
pub record Few (fs ls : List ℕ) : Type 0 where
  pub findings : length fs ≡ 64
  pub few_findings : All (λ n. n ≤ most_records) fs
  pub levels : length ls ≡ 4
  pub few_levels : All (λ n. n ≤ most_records) ls

-- the counts by level were those of the verdicts us; now so many records more are counted, with the verdicts vs
pub record Grown (us vs : List ℕ) (records : ℕ) (before ls : List ℕ) : Type 0 where
  pub were : before ≡ counts_by_level us
  pub are : ls ≡ counts_by_level (us ++ vs)
  pub all : records ≡ length vs
  pub low : All (λ v. v ≤ 4) vs

-- .. and all of them are no more than a file may have
abbrev pub Grows : (records : ℕ) (before ls : List ℕ) → Type 0
Grows records before ls = (us : List ℕ) × (vs : List ℕ) × Grown us vs records before ls × (length us + length vs ≤ most_records)

-- one more for each place that is set
unfoldable pub plus_bits : List ℕ → List Bool → List ℕ
plus_bits [] bs = []
plus_bits (n ∷ ns) [] = n ∷ ns
plus_bits (n ∷ ns) (b ∷ bs) = (n + cond b 1 0) ∷ plus_bits ns bs

-- ---- a whole file

-- the figures of a file that passes
pub record FiguresOf (x : Taken) (f : Figures) : Type 0 where
  pub missing : f.missing ≡ missing_of (transactions_of x)
  pub few : WithinAll most_records f.missing
  pub findings : f.findings ≡ counts_by_finding (file_findings x.tables sheet_tolerance (content x.file))
  pub verdicts : f.verdicts ≡ counts_by_verdict (file_verdicts x.tables sheet_tolerance (content x.file))
