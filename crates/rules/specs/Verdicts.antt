-- The findings and verdicts of every record of a file, in order: HDR, its groups, TRL.
use Rattle.std.specs.Prelude.{ℕ, suc, Bool, false, cond, ◌&&◌, ◌||◌, List, [], ◌∷◌, ◌++◌, map, eqb}
use Rattle.format.specs.Bytes.{Bytes, bytes_of}
use Rattle.format.specs.Doc.{Group, Transaction}
use Rattle.format.specs.Tree.{Tree}
use Rattle.rules.specs.Tables.{Tables}
use Rattle.rules.specs.Records.{any}
use Rattle.rules.specs.Findings.{TR, GR, set_of, level, verdict, verdict_of, larger, worst}
use Rattle.rules.specs.Works.{named_type, is0, transaction_findings}

-- one list after the other
abbrev pub joined : {A B : Type 0} → (A → List B) → List A → List B
joined f [] = []
joined f (x ∷ xs) = f x ++ joined f xs

-- what a buffer has for sets of findings: eight bytes each, one after the other
unfoldable pub finding_bytes : List (List Bool) → Bytes
finding_bytes sets = joined (λ (set : List Bool). bytes_of 8 (set_of set)) sets

-- some finding from number n on that holds has level TR
abbrev pub rejects_from : ℕ → List Bool → Bool
rejects_from n [] = false
rejects_from n (b ∷ bs) = (b && eqb (verdict_of (level n)) (verdict TR)) || rejects_from (suc n) bs

unfoldable pub rejects : List Bool → Bool
rejects set = rejects_from 0 set

-- no verdict below this one
unfoldable pub raised : ℕ → List ℕ → List ℕ
raised least verdicts = map (larger least) verdicts

-- some header of the group has finding 0
unfoldable pub is_stray : Group → Bool
is_stray g = any (λ (x : Transaction). is0 (named_type g.opening) x.header) g.transactions

-- ---- over all records, given the sets of each transaction's records under a GRH that names a type

module _ (sets : Bytes → Transaction → List (List Bool)) where
  -- GRH and GRT have no findings; nor have HDR and TRL
  unfoldable pub group_findings_by : Group → List (List Bool)
  group_findings_by g = [] ∷ joined (sets (named_type g.opening)) g.transactions ++ [] ∷ []

  unfoldable pub file_findings_by : Tree → List (List Bool)
  file_findings_by d = [] ∷ joined group_findings_by d.groups ++ [] ∷ []

  -- a verdict is the largest of a record's own levels, ..

  -- .. that of TR if any record of its transaction has a TR finding, ..
  unfoldable pub transaction_verdicts_by : Bytes → Transaction → List ℕ
  transaction_verdicts_by named x = raised (cond (any rejects (sets named x)) (verdict TR) 0) (map worst (sets named x))

  -- .. that of GR if any header in its group has finding 0
  unfoldable pub group_verdicts_by : Group → List ℕ
  group_verdicts_by g =
      raised (cond (is_stray g) (verdict GR) 0) (0 ∷ joined (transaction_verdicts_by (named_type g.opening)) g.transactions ++ 0 ∷ [])

  unfoldable pub file_verdicts_by : Tree → List ℕ
  file_verdicts_by d = 0 ∷ joined group_verdicts_by d.groups ++ 0 ∷ []

-- ---- of a check without a territory table

module _ (tables : Tables) (t : ℕ) where
  abbrev pub group_findings : Group → List (List Bool)
  group_findings = group_findings_by (transaction_findings tables t)

  abbrev pub file_findings : Tree → List (List Bool)
  file_findings = file_findings_by (transaction_findings tables t)

  abbrev pub transaction_verdicts : Bytes → Transaction → List ℕ
  transaction_verdicts = transaction_verdicts_by (transaction_findings tables t)

  abbrev pub group_verdicts : Group → List ℕ
  group_verdicts = group_verdicts_by (transaction_findings tables t)

  abbrev pub file_verdicts : Tree → List ℕ
  file_verdicts = file_verdicts_by (transaction_findings tables t)
