-- The sets of findings of a file's records, cut by transactions, are those of each transaction. Assumes nothing.
use Prim.Native.Nat.{ℕ, ◌≤◌}
use native.Mathlib.Omega.{arith}
use mathlib.Core.Path.{◌≡◌, refl, sym, ap, ◌∙◌}
use mathlib.Core.Bool.{Bool, ◌||◌, or-false}
use mathlib.Core.List.{List, [], ◌∷◌, ◌++◌, map, append_assoc}
use lib.ListN.{length, drop, length-append, length-map}
use lib.Seq.{drop-append_seam}
use Rattle.format.specs.Doc.{Group, Transaction, records_t, records_of}
use Rattle.format.specs.Tree.{Tree}
use Rattle.rules.specs.Tables.{Tables}
use Rattle.rules.specs.Records.{any}
use Rattle.rules.specs.Findings.{worst}
use Rattle.rules.specs.Works.{named_type, transaction_findings}
use Rattle.rules.specs.Verdicts.{joined, group_findings, group_findings_by, file_findings, file_findings_by}
use Rattle.rules.specs.First.{is_grave, of_transactions, of_groups, of_each}
use Rattle.rules.specs.Claims.{sets_by_transaction}
use Rattle.rules.proofs.Each.{transaction-findings, group-findings}
use Rattle.rules.proofs.Found.{any_append, of-transactions}

any-joined : {A : Type 0} (f : A → List (List Bool)) (xs : List A) → any is_grave (joined f xs) ≡ any (any is_grave) (map f xs)
any-joined f [] = refl
any-joined f (x ∷ xs) = any_append is_grave (f x) (joined f xs) ∙ ap (λ b. any is_grave (f x) || b) (any-joined f xs)

-- a header stands for each transaction
pub few-transactions : (xs : List Transaction) → length xs ≤ records_t xs
few-transactions [] = omega arith
few-transactions (x ∷ xs) = omega (arith, few-transactions xs)

module _ (tables : Tables) (t : ℕ) where
  -- the sets of a group's transactions
  abbrev of_group : Group → List (List (List Bool))
  of_group g = map (transaction_findings tables t (named_type g.opening)) g.transactions

  of-group : (g : Group) (rest : List (List Bool)) → of_transactions g.transactions (drop 1 (group_findings tables t g ++ rest)) ≡ of_group g
  unfolding group_findings_by
  of-group g rest =
      let f = transaction_findings tables t (named_type g.opening) in
      rw (append_assoc (joined f g.transactions) ([] ∷ []) rest)
      (of-transactions f (transaction-findings tables t (named_type g.opening)) g.transactions ([] ∷ rest))

  of-groups : (gs : List Group) (rest : List (List Bool)) → of_groups gs (joined (group_findings tables t) gs ++ rest) ≡ joined of_group gs
  of-groups [] rest = refl
  of-groups (g ∷ gs) rest =
      let after = joined (group_findings tables t) gs ++ rest in
      rw (append_assoc (group_findings tables t g) (joined (group_findings tables t) gs) rest, of-group g after)
      (ap (λ l. of_group g ++ of_groups gs l)
      (rw (← group-findings tables t g) (drop-append_seam (group_findings tables t g) after))
      ∙ ap (λ l. of_group g ++ l) (of-groups gs rest))

  pub own_sets : (d : Tree) → of_each d (file_findings tables t d) ≡ sets_by_transaction tables t d
  unfolding of_each file_findings_by
  own_sets d = of-groups d.groups ([] ∷ [])

  -- the other records have no findings
  grave-group : (g : Group) → any is_grave (group_findings tables t g) ≡ any (any is_grave) (of_group g)
  unfolding group_findings_by is_grave worst
  grave-group g =
      let f = transaction_findings tables t (named_type g.opening) in
      any_append is_grave (joined f g.transactions) ([] ∷ []) ∙ or-false _ ∙ any-joined f g.transactions

  grave-groups : (gs : List Group) → any is_grave (joined (group_findings tables t) gs) ≡ any (any is_grave) (joined of_group gs)
  grave-groups [] = refl
  grave-groups (g ∷ gs) =
      any_append is_grave (group_findings tables t g) (joined (group_findings tables t) gs)
      ∙ rw (grave-group g, grave-groups gs) (sym (any_append (any is_grave) (of_group g) (joined of_group gs)))

  pub grave-file : (d : Tree) → any is_grave (file_findings tables t d) ≡ any (any is_grave) (sets_by_transaction tables t d)
  unfolding file_findings_by is_grave worst
  grave-file d = any_append is_grave (joined (group_findings tables t) d.groups) ([] ∷ []) ∙ or-false _ ∙ grave-groups d.groups

  -- no more transactions than records
  few_sets : (gs : List Group) → length (joined of_group gs) ≤ records_of gs
  few_sets [] = omega arith
  few_sets (g ∷ gs) =
      let joint = length-append (of_group g) (joined of_group gs) in
      let these = length-map g.transactions (transaction_findings tables t (named_type g.opening)) in
      omega (arith, joint, these, few-transactions g.transactions, few_sets gs)

  pub few-own : (d : Tree) → length (sets_by_transaction tables t d) ≤ records_of d.groups
  few-own d = few_sets d.groups
