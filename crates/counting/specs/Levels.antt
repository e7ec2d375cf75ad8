-- Internal: what is counted of each level of a file: a transaction, those of a group, a group, all groups.
use Rattle.std.specs.Prelude.{◌≡◌, Bool, List, ◌++◌, ℕ, ◌+◌, length}
use Rattle.format.specs.Bytes.{Bytes}
use Rattle.format.specs.Doc.{Group, Transaction}
use Rattle.rules.specs.Tables.{Tables}
use Rattle.rules.specs.Works.{transaction_findings}
use Rattle.rules.specs.Verdicts.{joined, transaction_verdicts, group_findings, group_verdicts}
use Rattle.figures.specs.declared.Missing.{Missing}
use Rattle.figures.specs.Counted.{missing_of, WithinAll, Counts}

-- records i to n have these verdicts and sets, and are counted on whatever was counted before: the counts by finding and by level were fs₀ and
-- ls₀, and are fs and ls
pub record Part (i n : ℕ) (verdicts : List ℕ) (sets : List (List Bool)) (fs₀ ls₀ fs ls : List ℕ) : Type 0 where
  pub end : n ≡ i + length sets
  pub even : length verdicts ≡ length sets
  pub counted : (before : List (List Bool)) (vs : List ℕ) → Counts before vs fs₀ ls₀ → Counts (before ++ sets) (vs ++ verdicts) fs ls

abbrev pub CountedTransaction : (tables : Tables) (t : ℕ) (named : Bytes) (i n : ℕ) (x : Transaction) (fs₀ ls₀ fs ls : List ℕ) → Type 0
CountedTransaction tables t named i n x fs₀ ls₀ fs ls =
    Part i n (transaction_verdicts tables t named x) (transaction_findings tables t named x) fs₀ ls₀ fs ls

abbrev pub CountedTransactions : (tables : Tables) (t : ℕ) (named : Bytes) (i n : ℕ) (xs : List Transaction) (fs₀ ls₀ fs ls : List ℕ) → Type 0
CountedTransactions tables t named i n xs fs₀ ls₀ fs ls =
    Part i n (joined (transaction_verdicts tables t named) xs) (joined (transaction_findings tables t named) xs) fs₀ ls₀ fs ls

abbrev pub CountedGroup : (tables : Tables) (t i n : ℕ) (g : Group) (fs₀ ls₀ fs ls : List ℕ) → Type 0
CountedGroup tables t i n g fs₀ ls₀ fs ls = Part i n (group_verdicts tables t g) (group_findings tables t g) fs₀ ls₀ fs ls

abbrev pub CountedGroups : (tables : Tables) (t i n : ℕ) (gs : List Group) (fs₀ ls₀ fs ls : List ℕ) → Type 0
CountedGroups tables t i n gs fs₀ ls₀ fs ls =
    Part i n (joined (group_verdicts tables t) gs) (joined (group_findings tables t) gs) fs₀ ls₀ fs ls

abbrev pub transactions_among : List Group → List Transaction
transactions_among gs = joined (λ (g : Group). g.transactions) gs

-- ---- what transactions miss of the full share: it was m₀, and is m with these; they are the records i to n, or among them
pub record MissingOn (i n : ℕ) (xs : List Transaction) (m₀ m : Missing) : Type 0 where
  pub missing : (before : List Transaction) → m₀ ≡ missing_of before → m ≡ missing_of (before ++ xs)
  pub few : WithinAll i m₀ → WithinAll n m
