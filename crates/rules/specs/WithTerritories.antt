-- The check with a territory table (M-105): findings 47 and 48 beside those of the check without one, refusals 13 and 14, and its entire
-- outcome, for every file, tables, tolerance, buffers and list of claims.
use Rattle.std.specs.Prelude.{ℕ, suc, Bool, false, cond, ◌&&◌, List, [], ◌∷◌, ◌++◌, ltb, length, replicate}
use Rattle.std.proofs.Math.Option.{Option, none, some}
use Rattle.format.specs.Bytes.{Bytes}
use Rattle.format.specs.Doc.{Group, Transaction}
use Rattle.format.specs.Cwr22.{cwr22}
use Rattle.format.specs.Lines.{lines}
use Rattle.format.specs.Structure.{Answer, refused, passed, refusal, unless, structure}
use Rattle.format.specs.Numbering.{records_in}
use Rattle.format.specs.Tree.{Tree, span, is_head, is_detail}
use Rattle.format.specs.Lent.{in_room, left_in}
use Rattle.rules.specs.Tables.{Tables}
use Rattle.rules.specs.Records.{only}
use Rattle.rules.specs.Territories.{Territory, territories_in, right_territories}
use Rattle.rules.specs.Collection.{is_claim, is47, is48, first_over}
use Rattle.rules.specs.Works.{header_findings, details_from}
use Rattle.rules.specs.Verdicts.{joined, finding_bytes, file_findings_by, file_verdicts_by}
use Rattle.rules.specs.Outcome.{lent_right, enough, content}

-- ---- the sets of a transaction's records

-- what is found of each detail besides
abbrev pub added : (Bytes → List Bool) → List Bytes → List (List Bool) → List (List Bool)
added more [] sets = []
added more (r ∷ rs) [] = []
added more (r ∷ rs) (set ∷ sets) = (set ++ more r) ∷ added more rs sets

module _ (tables : Tables) (territories : List Territory) (t : ℕ) where
  -- 47 stands on the header, 48 on a claim
  unfoldable pub claimed_findings : Bytes → Transaction → List (List Bool)
  claimed_findings named x =
      (header_findings tables t named x ++ is47 territories t x.details ∷ [])
      ∷ added (λ (r : Bytes). false ∷ is48 territories r ∷ []) x.details (details_from tables [] x.details)

-- ---- the first territory that is over, of the first transaction that has one

-- the transaction's number, counted from 0 over the whole file, and the territory's position in the table
pub data Over : Type 0 where
  nowhere : Over
  over : ℕ → ℕ → Over

abbrev pub or_later : ℕ → Option ℕ → Over → Over
or_later m none later = later
or_later m (some i) later = over m i

module _ (territories : List Territory) (t : ℕ) where
  -- the transactions from number m on
  abbrev pub over_among : ℕ → List Transaction → Over
  over_among m [] = nowhere
  over_among m (x ∷ xs) = or_later m (first_over territories t x.details) (over_among (suc m) xs)

  unfoldable pub file_over : Tree → Over
  file_over d = over_among 0 (joined (λ (g : Group). g.transactions) d.groups)

-- ---- refusals

-- 1 and 2, 13, then 3 to 10
unfoldable pub admission_with : Tables → Bytes → ℕ → Bytes → Answer
admission_with tables table t f = lent_right tables t (refusal 13 (unless (right_territories table) 0) (structure cwr22 f))

-- the place of the first header, from record i on, whose transaction has more claims than c
abbrev pub crowded_from : ℕ → ℕ → List Bytes → Option ℕ
crowded_from c i [] = none
crowded_from c i (r ∷ rs) =
    cond (is_head cwr22 r && ltb c (length (only is_claim (span (is_detail cwr22) rs)))) (some i) (crowded_from c (suc i) rs)

-- 14, last of all: a list of c entries takes the claims of each transaction
abbrev pub in_list : ℕ → List Bytes → Answer → Answer
in_list c rs (refused n i) = refused n i
in_list c rs (passed g m n) = refusal 14 (crowded_from c 0 rs) (passed g m n)

-- with buffers that have room for a file of so many records, and a list of c entries
unfoldable pub answer_with : Tables → Bytes → ℕ → Bytes → (ℕ → Bool) → ℕ → Answer
answer_with tables table t f room c = in_list c (records_in (lines f)) (in_room room (admission_with tables table t f))

-- ---- the outcome

-- a refusal tells of no territory, and leaves the list as it was; a check that passes leaves it all zeros
abbrev pub told_by : Answer → Over → Over
told_by (refused n i) o = nowhere
told_by (passed g m n) o = o

abbrev pub cleared_by : {A : Type 0} → Answer → A → List A → List A
cleared_by (refused n i) zero claims = claims
cleared_by (passed g m n) zero claims = replicate (length claims) zero

-- the answer with the first territory that is over, and the two buffers and the list after the call
pub record Claimed (A : Type 0) : Type 0 where
  pub answer : Answer
  pub over : Over
  pub verdicts : Bytes
  pub findings : Bytes
  pub claims : List A

-- where the answer is a, the buffers were v and g, and the list was cs, of entries of which one is all zeros
unfoldable pub claimed_by : {A : Type 0} → Answer → A → Tables → Bytes → ℕ → Bytes → List A → Bytes → Bytes → Claimed A
claimed_by a zero tables table t f cs v g = record {
  answer = a;
  over = told_by a (file_over (territories_in table) t (content f));
  verdicts = left_in a (file_verdicts_by (claimed_findings tables (territories_in table) t) (content f)) v;
  findings = left_in a (finding_bytes (file_findings_by (claimed_findings tables (territories_in table) t) (content f))) g;
  claims = cleared_by a zero cs;
}

-- the entire outcome of a check with a territory table
unfoldable pub check_claims : {A : Type 0} → A → Tables → Bytes → ℕ → Bytes → List A → Bytes → Bytes → Claimed A
check_claims zero tables table t f cs v g =
    claimed_by (answer_with tables table t f (enough (length v) (length g)) (length cs)) zero tables table t f cs v g
