-- Internal: what is promised of each level of a file that is searched: where the walk stands, unless it has stopped, and whether it has found
-- a transaction with a TR or GR finding of its own, or which.
use Rattle.std.specs.Prelude.{◌≡◌, Bool, true, false, List, map, ℕ, ◌+◌, ◌≤◌, length}
use Rattle.std.specs.Prelude.{Option as Optional, Some, None, Result, Ok, Err}
use Rattle.std.proofs.Math.Option.{Option, none, some}
use Rattle.transactions.specs.declared.Passed.{Passed}
use Rattle.format.specs.Bytes.{Bytes}
use Rattle.format.specs.Doc.{Group, Transaction}
use Rattle.rules.specs.Tables.{Tables}
use Rattle.rules.specs.Works.{named_type, transaction_findings}
use Rattle.rules.specs.Records.{any}
use Rattle.rules.specs.First.{is_grave, first_at}
use Rattle.transactions.specs.Walk.{PastTransaction}
use Rattle.files.specs.Levels.{transactions_of, PastTransactions}
use Rattle.search.specs.declared.Clean.{Clean}

-- the place of the first transaction with a TR or GR finding of its own, among some transactions' sets
abbrev pub first_grave : List (List (List Bool)) → Option ℕ
first_grave sets = first_at (any is_grave) sets

-- ---- a transaction, whose header is the first of the records, under a GRH that names a type

abbrev pub PastCleanTransaction : (named f : Bytes) (m : ℕ) (rs : List Bytes) → Optional Passed → Type 0
PastCleanTransaction named f m rs None = Unit {0}
PastCleanTransaction named f m rs (Some p) = PastTransaction named f m rs p

abbrev pub is_grave_transaction : Optional Passed → Bool
is_grave_transaction None = true
is_grave_transaction (Some p) = false

-- ---- the transactions of a group, of which the first has that number

-- their own sets
abbrev pub sets_of : Tables → ℕ → Bytes → List Transaction → List (List (List Bool))
sets_of tables t named xs = map (transaction_findings tables t named) xs

abbrev pub PastCleanGroup : (named f : Bytes) (m number : ℕ) (rs : List Bytes) → Result Clean ℕ → Type 0
PastCleanGroup named f m number rs (Err k) = Unit {0}
PastCleanGroup named f m number rs (Ok clean) =
    PastTransactions named f m rs clean.passed × (clean.next ≡ number + length (transactions_of rs)) × (clean.next ≤ clean.passed.index)

-- the number found
abbrev pub in_group : Result Clean ℕ → Option ℕ
in_group (Err k) = some k
in_group (Ok clean) = none

-- a place counted from another on
abbrev pub from : ℕ → Option ℕ → Option ℕ
from n none = none
from n (some k) = some (n + k)

-- ---- the groups of a file

abbrev pub sets_of_group : Tables → ℕ → Group → List (List (List Bool))
sets_of_group tables t g = sets_of tables t (named_type g.opening) g.transactions

abbrev pub in_file : Optional ℕ → Option ℕ
in_file (Some k) = some k
in_file None = none
