-- A file that passes has one verdict and one set of findings for each of its records, and as many records as are answered.
-- Assumes nothing.
use Prim.Native.Nat.{ℕ, suc, ◌+◌}
use native.Mathlib.Omega.{arith}
use mathlib.Core.Bool.{Bool}
use mathlib.Core.Path.{◌≡◌, refl, sym, ap, ◌∙◌}
use mathlib.Core.List.{List, [], ◌∷◌, ◌++◌, map}
use lib.ListN.{length, length-append, length-map}
use Rattle.format.specs.Bytes.{Bytes, pairs}
use Rattle.format.specs.Doc.{Doc, Group, Transaction, records_t, records_g, records_of, records_all}
use Rattle.format.specs.Cwr22.{cwr22}
use Rattle.format.specs.Lines.{lines}
use Rattle.format.specs.Structure.{passed, judged, structure}
use Rattle.format.specs.Numbering.{records_in}
use Rattle.format.specs.Tree.{tree, records_in_t, records_in_g, leaves}
use Rattle.format.proofs.Lines.{lines-pairs}
use Rattle.format.proofs.Answers.{file-read}
use Rattle.format.proofs.At22.{grows-22}
use Rattle.rules.specs.Tables.{Tables}
use Rattle.rules.specs.Findings.{field_findings, own_findings, larger, worst}
use Rattle.rules.specs.Works.{named_type, header_findings, details_from, transaction_findings}
use Rattle.rules.specs.Verdicts.{joined, raised, group_findings, group_findings_by, file_findings, file_findings_by, transaction_verdicts_by, group_verdicts_by, file_verdicts, file_verdicts_by}
use Rattle.rules.specs.Outcome.{content}

-- ---- the leaves of a tree

leaves-transactions : (xs : List Transaction) → length (records_in_t xs) ≡ records_t xs
leaves-transactions [] = refl
leaves-transactions (x ∷ xs) = omega (arith, length-append x.details (records_in_t xs), leaves-transactions xs)

leaves-groups : (gs : List Group) → length (records_in_g gs) ≡ records_of gs
leaves-groups [] = refl
leaves-groups (g ∷ gs) =
    let joint = length-append (records_in_t g.transactions) (g.closing ∷ records_in_g gs) in
    omega (arith, joint, leaves-transactions g.transactions, leaves-groups gs)

leaves-counted : (d : Doc) → length (leaves d) ≡ records_all d
unfolding leaves
leaves-counted d = omega (arith, length-append (records_in_g d.groups) (d.trailer ∷ []), leaves-groups d.groups)

-- ---- lists of entries, joined over transactions or groups

-- before and after them stands one entry more
around : {B : Type 0} (x : B) (xs : List B) (y : B) → length (x ∷ xs ++ y ∷ []) ≡ length xs + 2
around x xs y = omega (arith, length-append xs (y ∷ []))

each-transaction : {B : Type 0} (f : Transaction → List B) → ((x : Transaction) → length (f x) ≡ suc (length x.details))
    → (xs : List Transaction) → length (joined f xs) ≡ records_t xs
each-transaction f e [] = refl
each-transaction f e (x ∷ xs) = omega (arith, length-append (f x) (joined f xs), e x, each-transaction f e xs)

each-group : {B : Type 0} (f : Group → List B) → ((g : Group) → length (f g) ≡ records_g g)
    → (gs : List Group) → length (joined f gs) ≡ records_of gs
each-group f e [] = refl
each-group f e (g ∷ gs) = omega (arith, length-append (f g) (joined f gs), e g, each-group f e gs)

length-raised : (least : ℕ) (verdicts : List ℕ) → length (raised least verdicts) ≡ length verdicts
unfolding raised
length-raised least verdicts = length-map verdicts (larger least)

-- ---- findings and verdicts, where each record of a transaction has a set

module _ (sets : Bytes → Transaction → List (List Bool))
    (each : (named : Bytes) (x : Transaction) → length (sets named x) ≡ suc (length x.details)) where
  pub group-findings-by : (g : Group) → length (group_findings_by sets g) ≡ records_g g
  unfolding group_findings_by
  group-findings-by g =
      let named = named_type g.opening in
      around [] (joined (sets named) g.transactions) [] ∙ ap (λ n. n + 2) (each-transaction (sets named) (each named) g.transactions)

  pub findings-all-by : (d : Doc) → length (file_findings_by sets d) ≡ records_all d
  unfolding file_findings_by
  findings-all-by d =
      around [] (joined (group_findings_by sets) d.groups) []
      ∙ ap (λ n. n + 2) (each-group (group_findings_by sets) group-findings-by d.groups)

  transaction-verdicts-by : (named : Bytes) (x : Transaction) → length (transaction_verdicts_by sets named x) ≡ suc (length x.details)
  unfolding transaction_verdicts_by
  transaction-verdicts-by named x = length-raised _ (map worst (sets named x)) ∙ length-map (sets named x) worst ∙ each named x

  group-verdicts-by : (g : Group) → length (group_verdicts_by sets g) ≡ records_g g
  unfolding group_verdicts_by
  group-verdicts-by g =
      let verdicts = transaction_verdicts_by sets (named_type g.opening) in
      length-raised _ (0 ∷ joined verdicts g.transactions ++ 0 ∷ [])
      ∙ around 0 (joined verdicts g.transactions) 0
      ∙ ap (λ n. n + 2) (each-transaction verdicts (transaction-verdicts-by (named_type g.opening)) g.transactions)

  pub verdicts-all-by : (d : Doc) → length (file_verdicts_by sets d) ≡ records_all d
  unfolding file_verdicts_by
  verdicts-all-by d =
      around 0 (joined (group_verdicts_by sets) d.groups) 0
      ∙ ap (λ n. n + 2) (each-group (group_verdicts_by sets) group-verdicts-by d.groups)

-- ---- as in a check without a territory table

module _ (tables : Tables) (t : ℕ) where
  -- a set has a place for each finding
  pub own-long : (before : List Bytes) (r : Bytes) → length (own_findings tables before r) ≡ 47
  unfolding field_findings own_findings
  own-long before r = refl

  pub header-long : (named : Bytes) (x : Transaction) → length (header_findings tables t named x) ≡ 47
  unfolding header_findings field_findings
  header-long named x = refl

  pub each-detail : (before ds : List Bytes) → length (details_from tables before ds) ≡ length ds
  each-detail before [] = refl
  each-detail before (r ∷ rs) = ap suc (each-detail (before ++ r ∷ []) rs)

  pub transaction-findings : (named : Bytes) (x : Transaction) → length (transaction_findings tables t named x) ≡ suc (length x.details)
  unfolding transaction_findings
  transaction-findings named x = ap suc (each-detail [] x.details)

  pub group-findings : (g : Group) → length (group_findings tables t g) ≡ records_g g
  group-findings = group-findings-by (transaction_findings tables t) transaction-findings

  pub findings-all : (d : Doc) → length (file_findings tables t d) ≡ records_all d
  findings-all = findings-all-by (transaction_findings tables t) transaction-findings

  pub verdicts-all : (d : Doc) → length (file_verdicts tables t d) ≡ records_all d
  verdicts-all = verdicts-all-by (transaction_findings tables t) transaction-findings

-- ---- of a file that passes

module _ (f : Bytes) (k m n : ℕ) (e : structure cwr22 f ≡ passed k m n) where
  counted : (records_all (content f) ≡ n) × (leaves (content f) ≡ records_in (lines f)) × (pairs f ≡ length (records_in (lines f)))
  unfolding structure
  counted =
      let r = file-read (judged cwr22) f k m n e in
      let g = grows-22 f r.rs k m n r.is-lines e in
      let same : records_all (tree cwr22 r.rs) ≡ n = cc g.same_counts in
      rw r.is-lines (same, g.same_leaves, lines-pairs f r.rs r.is-lines)

  pub all-counted : records_all (content f) ≡ n
  all-counted = counted.0

  -- as many records as are answered
  pub records-counted : length (records_in (lines f)) ≡ n
  records-counted = ap length (sym counted.1) ∙ leaves-counted (content f) ∙ counted.0

  -- and as many CR LF pairs
  pub pairs-counted : pairs f ≡ n
  pairs-counted = counted.2 ∙ records-counted

  module _ (tables : Tables) (t : ℕ) where
    pub verdicts-each : length (file_verdicts tables t (content f)) ≡ n
    verdicts-each = verdicts-all tables t (content f) ∙ all-counted

    pub findings-each : length (file_findings tables t (content f)) ≡ n
    findings-each = findings-all tables t (content f) ∙ all-counted
