-- Over the records of a checked file, the marks and raises of specs/Marked make of its buffers what the check with a territory table is
-- defined to leave. Assumes nothing.
use Prim.Native.Nat.{ℕ, suc, ◌+◌, ◌*◌}
use native.Mathlib.Omega.{arith}
use mathlib.Core.Path.{◌≡◌, refl, sym, ap, ◌∙◌, subst}
use mathlib.Core.Bool.{Bool, false, cond}
use mathlib.Core.List.{List, [], ◌∷◌, ◌++◌, map, map-append}
use lib.ListN.{length, drop, length-map}
use Rattle.format.specs.Bytes.{Bytes}
use Rattle.format.specs.Doc.{Group, Transaction}
use Rattle.format.specs.Cwr22.{cwr22}
use Rattle.format.specs.Lines.{lines}
use Rattle.format.specs.Structure.{passed, structure}
use Rattle.format.specs.Numbering.{records_in}
use Rattle.format.specs.Lent.{splice}
use Rattle.format.specs.Tree.{Tree, span, is_head, is_detail, leaves}
use Rattle.rules.specs.Tables.{Tables}
use Rattle.rules.specs.Territories.{Territory}
use Rattle.rules.specs.Collection.{is48}
use Rattle.rules.specs.Findings.{GR, verdict, larger, worst}
use Rattle.rules.specs.Works.{named_type, details_from, transaction_findings}
use Rattle.rules.specs.Verdicts.{joined, finding_bytes, raised, is_stray, group_findings_by, file_findings_by, transaction_verdicts_by, group_verdicts_by}
use Rattle.rules.specs.Verdicts.{file_verdicts_by, file_findings, file_verdicts}
use Rattle.rules.specs.Outcome.{content}
use Rattle.rules.specs.WithTerritories.{added, claimed_findings}
use Rattle.rules.proofs.Joined.{findings-append, length-findings}
use Rattle.rules.proofs.Each.{transaction-findings}
use Rattle.buffers.specs.Written.{Written}
use Rattle.buffers.proofs.Raised.{length-raised}
use Rattle.collection.specs.Marked.{marked_t, raised_t, marked_from, raised_from}
use Rattle.collection.proofs.Leaves.{Classed, classes, same_leaves}
use Rattle.collection.proofs.Marking.{marked_turn}
use Rattle.collection.proofs.Raising.{raised-turn, verdicts-claimed}
use Rattle.collection.proofs.Turns.{Pass, Makes, Turned, group_entries, file_entries, made-file}

-- ---- the two passes

module _ (T : List Territory) (t : ℕ) where
  marked-none : (i : ℕ) (g : Bytes) → marked_from T t i [] g ≡ g
  unfolding marked_from
  marked-none i g = refl

  marked-one : (i : ℕ) (r : Bytes) (rs : List Bytes) (g : Bytes)
      → marked_from T t i (r ∷ rs) g ≡ marked_from T t (suc i) rs (cond (is_head cwr22 r) (marked_t T t i (span (is_detail cwr22) rs) g) g)
  unfolding marked_from
  marked-one i r rs g = refl

  raised-none : (i : ℕ) (v : Bytes) → raised_from T t i [] v ≡ v
  unfolding raised_from
  raised-none i v = refl

  raised-one : (i : ℕ) (r : Bytes) (rs : List Bytes) (v : Bytes)
      → raised_from T t i (r ∷ rs) v ≡ raised_from T t (suc i) rs (cond (is_head cwr22 r) (raised_t T t i (span (is_detail cwr22) rs) v) v)
  unfolding raised_from
  raised-one i r rs v = refl

  abbrev marking : Pass
  marking = record { width = 8; turn = marked_t T t; pass = marked_from T t; none = marked-none; one = marked-one }

  abbrev raising : Pass
  raising = record { width = 1; turn = raised_t T t; pass = raised_from T t; none = raised-none; one = raised-one }

-- ---- as many entries as records

-- a verdict for each set
verdicts-by : (sets : Bytes → Transaction → List (List Bool)) (named : Bytes) (x : Transaction) (l : ℕ)
    → length (raised l (transaction_verdicts_by sets named x)) ≡ length (sets named x)
unfolding transaction_verdicts_by
verdicts-by sets named x l =
    length-raised l (raised _ (map worst (sets named x))) ∙ length-raised _ (map worst (sets named x)) ∙ length-map (sets named x) worst

added-each : (tables : Tables) (more : Bytes → List Bool) (before ds : List Bytes) → length (added more ds (details_from tables before ds)) ≡ length ds
added-each tables more before [] = refl
added-each tables more before (r ∷ rs) = ap suc (added-each tables more (before ++ r ∷ []) rs)

-- ---- the entries of a file, by transaction

joined_same : {A B : Type 0} (f g : A → List B) → ((x : A) → f x ≡ g x) → (xs : List A) → joined f xs ≡ joined g xs
joined_same f g e [] = refl
joined_same f g e (x ∷ xs) = rw (e x, joined_same f g e xs)

-- what goes through lists one after the other
module _ {A : Type 0} (h : List A → Bytes) (empty : h [] ≡ []) (both : (xs ys : List A) → h (xs ++ ys) ≡ h xs ++ h ys) where
  through : {B : Type 0} (f : B → List A) (xs : List B) → h (joined f xs) ≡ joined (λ (x : B). h (f x)) xs
  through f [] = empty
  through f (x ∷ xs) = both (f x) (joined f xs) ∙ ap (λ (l : Bytes). h (f x) ++ l) (through f xs)

  around : {B : Type 0} (e : A) (f : B → List A) (xs : List B)
      → h (e ∷ (joined f xs ++ e ∷ [])) ≡ h (e ∷ []) ++ (joined (λ (x : B). h (f x)) xs ++ h (e ∷ []))
  around e f xs =
      both (e ∷ []) (joined f xs ++ e ∷ [])
      ∙ ap (λ (l : Bytes). h (e ∷ []) ++ l) (both (joined f xs) (e ∷ []) ∙ ap (λ (l : Bytes). l ++ h (e ∷ [])) (through f xs))

findings-none : finding_bytes [] ≡ []
unfolding finding_bytes
findings-none = refl

raised-empty : (l : ℕ) → raised l [] ≡ []
unfolding raised
raised-empty l = refl

raised-append : (l : ℕ) (us vs : List ℕ) → raised l (us ++ vs) ≡ raised l us ++ raised l vs
unfolding raised
raised-append l us vs = map-append (larger l) us vs

abbrev no_finding : Bytes
no_finding = finding_bytes ([] ∷ [])

-- the verdict of a group that is rejected
abbrev least_of : Group → ℕ
least_of g = cond (is_stray g) (verdict GR) 0

module _ (sets : Bytes → Transaction → List (List Bool)) where
  abbrev findings_of : Group → Transaction → Bytes
  findings_of g x = finding_bytes (sets (named_type g.opening) x)

  abbrev verdicts_of : Group → Transaction → Bytes
  verdicts_of g x = raised (least_of g) (transaction_verdicts_by sets (named_type g.opening) x)

  findings-entries : (d : Tree) → finding_bytes (file_findings_by sets d) ≡ file_entries (λ g. no_finding) no_finding findings_of d
  unfolding file_findings_by group_findings_by
  findings-entries d =
      around finding_bytes findings-none findings-append [] (group_findings_by sets) d.groups
      ∙ ap (λ (l : Bytes). no_finding ++ (l ++ no_finding))
      (joined_same (λ (g : Group). finding_bytes (group_findings_by sets g)) (group_entries (λ g. no_finding) findings_of)
      (λ g. around finding_bytes findings-none findings-append [] (sets (named_type g.opening)) g.transactions) d.groups)

  verdicts-entries : (d : Tree) → file_verdicts_by sets d ≡ file_entries (λ g. raised (least_of g) (0 ∷ [])) (0 ∷ []) verdicts_of d
  unfolding file_verdicts_by group_verdicts_by
  verdicts-entries d =
      ap (λ (l : Bytes). 0 ∷ (l ++ 0 ∷ []))
      (joined_same (group_verdicts_by sets) (group_entries (λ g. raised (least_of g) (0 ∷ [])) verdicts_of)
      (λ g.
      around (raised (least_of g)) (raised-empty (least_of g)) (raised-append (least_of g)) 0 (transaction_verdicts_by sets (named_type g.opening))
      g.transactions) d.groups)

-- ---- all together

-- from the front of a buffer
from_front : (P : Pass) {rs : List Bytes} {a b : Bytes} → Makes P rs a b → (old now : Bytes) → now ≡ splice 0 a old → P.pass 0 rs now ≡ splice 0 b old
unfolding splice
from_front P {rs} {a} {b} m old now e =
    let start : 0 ≡ P.width * 0 = omega arith in
    ap (P.pass 0 rs) e
    ∙ m.makes 0 [] (drop (0 + length a) old) start
    ∙ ap (λ (n : ℕ). b ++ drop (0 + n) old) (sym m.long)

module _ (tables : Tables) (T : List Territory) (t : ℕ) where
  abbrev plain : Bytes → Transaction → List (List Bool)
  plain = transaction_findings tables t

  abbrev full : Bytes → Transaction → List (List Bool)
  full = claimed_findings tables T t

  claimed-each : (named : Bytes) (x : Transaction) → length (claimed_findings tables T t named x) ≡ suc (length x.details)
  unfolding claimed_findings
  claimed-each named x = ap suc (added-each tables (λ (r : Bytes). false ∷ is48 T r ∷ []) [] x.details)

  marked-transaction : (named : Bytes) (x : Transaction) → Turned (marking T t) x (finding_bytes (plain named x)) (finding_bytes (full named x))
  marked-transaction named x = record {
    old = length-findings (plain named x) ∙ ap (λ (n : ℕ). 8 * n) (transaction-findings tables t named x);
    new = length-findings (full named x) ∙ ap (λ (n : ℕ). 8 * n) (claimed-each named x);
    turned = λ i before after e. marked_turn tables T t named x i before after e;
  }

  raised-transaction : (l : ℕ) (named : Bytes) (x : Transaction)
      → Turned (raising T t) x (raised l (transaction_verdicts_by plain named x)) (raised l (transaction_verdicts_by full named x))
  raised-transaction l named x =
      let old = verdicts-by plain named x l ∙ transaction-findings tables t named x in
      let new = verdicts-by full named x l ∙ claimed-each named x in
      record {
        old = omega (arith, old);
        new = omega (arith, new);
        turned = λ i before after e.
            raised-turn T t i x.details before (raised l (transaction_verdicts_by plain named x)) after (omega (arith, e)) old
            ∙ ap (λ (us : List ℕ). before ++ (us ++ after)) (sym (verdicts-claimed tables T t named x l));
      }

  marks : (d : Tree) → Classed d → Makes (marking T t) (leaves d) (finding_bytes (file_findings_by plain d)) (finding_bytes (file_findings_by full d))
  marks d h =
      rw (findings-entries plain d, findings-entries full d)
      (made-file (marking T t) (findings_of plain) (findings_of full) (λ g x. marked-transaction (named_type g.opening) x)
      (λ g. no_finding) (λ g. length-findings ([] ∷ [])) no_finding (length-findings ([] ∷ [])) d h)

  raises : (d : Tree) → Classed d → Makes (raising T t) (leaves d) (file_verdicts_by plain d) (file_verdicts_by full d)
  raises d h =
      rw (verdicts-entries plain d, verdicts-entries full d)
      (made-file (raising T t) (verdicts_of plain) (verdicts_of full) (λ g x. raised-transaction (least_of g) (named_type g.opening) x)
      (λ g. raised (least_of g) (0 ∷ [])) (λ g. length-raised (least_of g) (0 ∷ [])) (0 ∷ []) refl d h)

  made : (d : Tree) → Classed d → {v₀ g₀ v g : Bytes} → Written 0 (file_verdicts tables t d) (file_findings tables t d) v₀ g₀ v g
      → Written 0 (file_verdicts_by full d) (file_findings_by full d) v₀ g₀ (raised_from T t 0 (leaves d) v) (marked_from T t 0 (leaves d) g)
  made d h {v₀} {g₀} {v} {g} w =
      let before = length-findings (file_findings_by plain d) in
      let after = length-findings (file_findings_by full d) in
      let same : length (file_findings_by full d) ≡ length (file_findings_by plain d) = omega (arith, (marks d h).long) in
      record {
        verdicts = from_front (raising T t) (raises d h) v₀ v w.verdicts;
        findings = from_front (marking T t) (marks d h) g₀ g w.findings;
        even = (raises d h).long ∙ w.even ∙ sym same;
        in_v = omega (arith, w.in_v);
        in_f = omega (arith, w.in_f);
      }

  -- what the check without the table has written becomes what the check with it is defined to write
  pub claims-written : (f : Bytes) (k m n : ℕ) → structure cwr22 f ≡ passed k m n → {v₀ g₀ v g : Bytes}
      → Written 0 (file_verdicts tables t (content f)) (file_findings tables t (content f)) v₀ g₀ v g
      → Written 0 (file_verdicts_by (claimed_findings tables T t) (content f)) (file_findings_by (claimed_findings tables T t) (content f)) v₀ g₀
      (raised_from T t 0 (records_in (lines f)) v) (marked_from T t 0 (records_in (lines f)) g)
  claims-written f k m n e {v₀} {g₀} {v} {g} w =
      let d = content f in
      subst (λ (rs : List Bytes).
      Written 0 (file_verdicts_by full d) (file_findings_by full d) v₀ g₀ (raised_from T t 0 rs v) (marked_from T t 0 rs g))
      (same_leaves f k m n e) (made d (classes f k m n e) w)
