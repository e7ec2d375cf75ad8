-- Every set of findings in a file has at most 64 places, so that its eight bytes hold it. Assumes nothing.
use Prim.Native.Nat.{ℕ, ◌≤◌}
use native.Mathlib.Omega.{arith}
use mathlib.Core.Bool.{Bool}
use mathlib.Core.List.{List, [], ◌∷◌, ◌++◌}
use lib.ListN.{length}
use Rattle.format.specs.Bytes.{Bytes, All}
use Rattle.format.specs.Doc.{Doc, Group, Transaction}
use Rattle.format.proofs.Logic.{All-append}
use Rattle.rules.specs.Tables.{Tables}
use Rattle.rules.specs.Works.{named_type, details_from, transaction_findings}
use Rattle.rules.specs.Verdicts.{joined, group_findings, group_findings_by, file_findings, file_findings_by}
use Rattle.rules.proofs.Each.{own-long, header-long}

abbrev pub Small : List (List Bool) → Type 0
Small sets = All (λ set. length set ≤ 64) sets

append : (ss us : List (List Bool)) → Small ss → Small us → Small (ss ++ us)
append ss us h g = All-append (λ (set : List Bool). length set ≤ 64) ss us h g

-- between two empty sets
between : (ss : List (List Bool)) → Small ss → Small ([] ∷ ss ++ [] ∷ [])
between ss h = (omega arith, append ss ([] ∷ []) h (omega arith, tt))

module _ (tables : Tables) (t : ℕ) where
  small-details : (before ds : List Bytes) → Small (details_from tables before ds)
  small-details before [] = tt
  small-details before (r ∷ ds) = (omega (arith, own-long tables t before r), small-details (before ++ r ∷ []) ds)

  small-transaction : (named : Bytes) (x : Transaction) → Small (transaction_findings tables t named x)
  unfolding transaction_findings
  small-transaction named x = (omega (arith, header-long tables t named x), small-details [] x.details)

  small-joined : {A : Type 0} (of : A → List (List Bool)) → ((x : A) → Small (of x)) → (xs : List A) → Small (joined of xs)
  small-joined of each [] = tt
  small-joined of each (x ∷ xs) = append (of x) (joined of xs) (each x) (small-joined of each xs)

  small-group : (g : Group) → Small (group_findings tables t g)
  unfolding group_findings_by
  small-group g =
      let of = transaction_findings tables t (named_type g.opening) in
      between (joined of g.transactions) (small-joined of (small-transaction (named_type g.opening)) g.transactions)

  pub small-file : (d : Doc) → Small (file_findings tables t d)
  unfolding file_findings_by
  small-file d = between (joined (group_findings tables t) d.groups) (small-joined (group_findings tables t) small-group d.groups)
