-- The first transaction to look at (M-100): counted from 0 over the whole file, the first one with a TR or GR finding of its own. For every
-- file, tables and tolerance.
use Rattle.std.specs.Prelude.{ℕ, suc, Bool, cond, List, [], ◌∷◌, ◌++◌, leb, length, take, drop}
use Rattle.std.proofs.Math.Option.{Option, none, some}
use Rattle.format.specs.Bytes.{Bytes}
use Rattle.format.specs.Doc.{Group, Transaction, records_g}
use Rattle.format.specs.Tree.{Tree}
use Rattle.format.specs.Structure.{Answer, refused, passed}
use Rattle.rules.specs.Tables.{Tables}
use Rattle.rules.specs.Records.{any}
use Rattle.rules.specs.Findings.{TR, verdict, worst}
use Rattle.rules.specs.Verdicts.{file_findings}
use Rattle.rules.specs.Outcome.{admission, content}

-- TR or GR is the largest level of the set
unfoldable pub is_grave : List Bool → Bool
is_grave set = leb (verdict TR) (worst set)

-- ---- of a list with an entry for each record of a file, the entries of each transaction

module _ {A : Type 0} where
  -- those of some transactions, one after the other: a header, and its details
  abbrev pub of_transactions : List Transaction → List A → List (List A)
  of_transactions [] l = []
  of_transactions (x ∷ xs) l = take (suc (length x.details)) l ∷ of_transactions xs (drop (suc (length x.details)) l)

  -- those of some groups: GRH stands before a group's transactions
  abbrev pub of_groups : List Group → List A → List (List A)
  of_groups [] l = []
  of_groups (g ∷ gs) l = of_transactions g.transactions (drop 1 l) ++ of_groups gs (drop (records_g g) l)

  -- those of a file: HDR stands before its groups
  unfoldable pub of_each : Tree → List A → List (List A)
  of_each d l = of_groups d.groups (drop 1 l)

-- ---- the first

-- the place of the first that passes, counted from 0
abbrev pub one_later : Option ℕ → Option ℕ
one_later none = none
one_later (some n) = some (suc n)

abbrev pub first_at : {A : Type 0} → (A → Bool) → List A → Option ℕ
first_at p [] = none
first_at p (x ∷ xs) = cond (p x) (some 0) (one_later (first_at p xs))

-- among the transactions of a file whose records have these sets of findings
unfoldable pub first_rejected : Tree → List (List Bool) → Option ℕ
first_rejected d sets = first_at (any is_grave) (of_each d sets)

-- ---- the outcome of the call

-- refused as the check is, nothing to look at, or that transaction
pub data First : Type 0 where
  refused_with : Answer → First
  nothing : First
  at : ℕ → First

abbrev pub seen : Option ℕ → First
seen none = nothing
seen (some n) = at n

-- once the file is let in
abbrev pub let_in : Answer → Option ℕ → First
let_in (refused n i) found = refused_with (refused n i)
let_in (passed g m n) found = seen found

-- 1 to 10 in their order, then what the sets of findings say
unfoldable pub first : Tables → ℕ → Bytes → First
first tables t f = let_in (admission tables t f) (first_rejected (content f) (file_findings tables t (content f)))
