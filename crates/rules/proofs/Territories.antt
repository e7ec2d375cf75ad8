-- What is claimed of collection shares by territory (specs/Claims) holds. Assumes nothing.
use Prim.Native.Nat.{ℕ, zero, suc, ◌+◌, ◌*◌, ◌≤◌, ◌<◌}
use native.Mathlib.Omega.{arith}
use mathlib.Core.Path.{◌≡◌, refl, sym, ap, ◌∙◌}
use mathlib.Core.Logic.{◌≢◌, ◌⊎◌, inl, inr}
use mathlib.Core.Bool.{Bool, true, false, false≢true, ◌&&◌}
use mathlib.Core.Option.{Option, none, some}
use mathlib.Core.List.{List, [], ◌∷◌}
use borrow.Author.Tests.{ltb-true, lt-ltb}
use lib.Dec.{T, leb, leb→le, ltb}
use lib.ListN.{length, length-replicate}
use Rattle.format.specs.Bytes.{Bytes}
use Rattle.format.specs.Doc.{Transaction, records_all}
use Rattle.format.specs.Cwr22.{cwr22}
use Rattle.format.specs.Lines.{lines}
use Rattle.format.specs.Structure.{Answer, refused, passed, refusal, unless, structure}
use Rattle.format.specs.Numbering.{records_in}
use Rattle.format.specs.Tree.{span, is_head, is_detail}
use Rattle.format.specs.Lent.{in_room}
use Rattle.format.proofs.Logic.{left, right}
use Rattle.format.proofs.Tests.{by_cases, both}
use Rattle.format.proofs.Answers.{By, refusal-by, refused-by, structure-by}
use Rattle.format.proofs.Lent.{room-passed, room_by, left-length}
use Rattle.rules.specs.Tables.{Tables}
use Rattle.rules.specs.Records.{only}
use Rattle.rules.specs.Territories.{territories_in, right_territories}
use Rattle.rules.specs.Collection.{is_claim}
use Rattle.rules.specs.Verdicts.{finding_bytes, file_findings_by, file_verdicts_by}
use Rattle.rules.specs.Outcome.{lent_right, enough, admission, answer, content}
use Rattle.rules.specs.WithTerritories.{claimed_findings, admission_with, crowded_from, in_list, answer_with, cleared_by, claimed_by, check_claims}
use Rattle.rules.specs.Claims.{Crowded, Collected, Lends}
use Rattle.rules.proofs.Joined.{length-findings}
use Rattle.rules.proofs.Each.{findings-all-by, verdicts-all-by, all-counted}
use Rattle.rules.proofs.Outcomes.{admitted-with, lent_by}
use Rattle.rules.proofs.Names.{named-exactly}
use Rattle.rules.proofs.Parties.{one_party, ignored, excluded}
use Rattle.rules.proofs.Beside.{never, claimed-findings, beside, no_claims}
use Rattle.rules.proofs.FirstOfAll.{first_of_all, none_of_all}
use Rattle.rules.proofs.FirstOver.{first-over, exactly}

-- ---- 14

module _ (c : ℕ) where
  -- what each record is tested for, and what stands after it
  abbrev crowds : Bytes → List Bytes → Bool
  crowds r rs = is_head cwr22 r && ltb c (length (only is_claim (span (is_detail cwr22) rs)))

  is-crowded : (r : Bytes) (rs : List Bytes) → crowds r rs ≡ true → Crowded c (r ∷ rs) 0
  is-crowded r rs e = let (head, many) = both (is_head cwr22 r) _ e in (head, ltb-true c _ many)

  none-crowded : (i : ℕ) (rs : List Bytes) → ((j : ℕ) → Crowded c rs j → ⊥) → crowded_from c i rs ≡ none
  none-crowded i [] h = refl
  none-crowded i (r ∷ rs) h =
      by_cases (crowds r rs) (λ q. absurd (h 0 (is-crowded r rs q))) (λ q. rw q (none-crowded (suc i) rs (λ j. h (suc j))))

  not_first : (r : Bytes) (rs : List Bytes) (s : ℕ) → crowds r rs ≡ false → ((m : ℕ) → m < s → Crowded c rs m → ⊥)
      → (m : ℕ) → m < suc s → Crowded c (r ∷ rs) m → ⊥
  not_first r rs s e h zero l (head, many) = false≢true (sym e ∙ rw (head, lt-ltb c _ many) refl)
  not_first r rs s e h (suc m) l d = h m (omega arith) d

  first-crowded : (i : ℕ) (rs : List Bytes) (k : ℕ) → crowded_from c i rs ≡ some k
      → (s : ℕ) × (i + s ≡ k) × Crowded c rs s × ((m : ℕ) → m < s → Crowded c rs m → ⊥)
  first-crowded i [] k e = let z : ◌≡◌ {A = ℕ} 0 1 = cc in absurd (omega arith)
  first-crowded i (r ∷ rs) k e =
      by_cases (crowds r rs)
      (λ q.
      let here : some i ≡ some k = rw q at e in
      let same : i ≡ k = cc in
      (0, omega arith, is-crowded r rs q, λ m l. absurd (omega arith)))
      (λ q.
      let (s, place, here, before) = first-crowded (suc i) rs k (rw q at e) in
      (suc s, omega (arith, place), here, not_first r rs s q before))

  -- it comes last of all
  module _ (rs : List Bytes) where
    list-refused : (a : Answer) (i : ℕ) → By (λ n. n ≢ 14) a → in_list c rs a ≡ refused 14 i → crowded_from c 0 rs ≡ some i
    list-refused (refused n j) i p e = let same : n ≡ 14 = cc in absurd (p same)
    list-refused (passed g m n) i p e = go (crowded_from c 0 rs) e
      where
        go : (o : Option ℕ) → refusal 14 o (passed g m n) ≡ refused 14 i → o ≡ some i
        go none q = let z : ◌≡◌ {A = ℕ} 0 1 = cc in absurd (omega arith)
        go (some j) q = let same : j ≡ i = cc in ap some same

    list-passed : (a : Answer) (k m n : ℕ) → in_list c rs a ≡ passed k m n → a ≡ passed k m n
    list-passed (refused i j) k m n e = e
    list-passed (passed g h r) k m n e = go (crowded_from c 0 rs) e
      where
        go : (o : Option ℕ) → refusal 14 o (passed g h r) ≡ passed k m n → passed g h r ≡ passed k m n
        go none q = q
        go (some j) q = let z : ◌≡◌ {A = ℕ} 0 1 = cc in absurd (omega arith)

    list-by : (P : ℕ → Type 0) (a : Answer) → P 14 → By P a → By P (in_list c rs a)
    list-by P (refused n i) p h = h
    list-by P (passed g m n) p h = refusal-by P 14 (crowded_from c 0 rs) (passed g m n) p h

    list-long : (a : Answer) → crowded_from c 0 rs ≡ none → in_list c rs a ≡ a
    list-long (refused n i) e = refl
    list-long (passed g m n) e = rw e refl

-- ---- answers

then_by : {P Q : ℕ → Type 0} → ((n : ℕ) → P n → Q n) → (a : Answer) → By P a → By Q a
then_by f (refused n i) h = f n h
then_by f (passed g m n) h = tt

module _ (tables : Tables) (table : Bytes) (t : ℕ) (f : Bytes) where
  -- before 14
  before-by : (P : ℕ → Type 0) (room : ℕ → Bool) → P 1 → P 2 → P 11 → P 13 → By P (structure cwr22 f)
      → By P (in_room room (admission_with tables table t f))
  unfolding admission_with
  before-by P room p1 p2 p11 p13 h =
      let rest = refusal 13 (unless (right_territories table) 0) (structure cwr22 f) in
      room_by P room (lent_right tables t rest) p11
      (lent_by P tables t (λ e. p1) p2 rest (refusal-by P 13 (unless (right_territories table) 0) (structure cwr22 f) p13 h))

  right-admission : right_territories table ≡ true → admission_with tables table t f ≡ admission tables t f
  unfolding admission_with admission
  right-admission e = rw e refl

  module _ (room : ℕ → Bool) (c : ℕ) where
    crowded : (i : ℕ) → answer_with tables table t f room c ≡ refused 14 i
        → Crowded c (records_in (lines f)) i × ((j : ℕ) → j < i → Crowded c (records_in (lines f)) j → ⊥)
    unfolding answer_with
    crowded i e =
        let rs = records_in (lines f) in
        let others = before-by (λ n. n ≢ 14) room (omega arith) (omega arith) (omega arith) (omega arith)
        (structure-by cwr22 (λ n. n ≢ 14) (omega arith) f) in
        let (s, place, here, before) = first-crowded c 0 rs i (list-refused c rs (in_room room (admission_with tables table t f)) i others e) in
        let same : s ≡ i = omega (arith, place) in
        (rw same at here, rw same at before)

    numbers : (n i : ℕ) → answer_with tables table t f room c ≡ refused n i → ((1 ≤ n) × (n ≤ 11)) ⊎ ((n ≡ 13) ⊎ (n ≡ 14))
    unfolding answer_with
    numbers n i =
        let P : ℕ → Type 0 = λ k. ((1 ≤ k) × (k ≤ 11)) ⊎ ((k ≡ 13) ⊎ (k ≡ 14)) in
        refused-by P n i
        (list-by c (records_in (lines f)) P (in_room room (admission_with tables table t f)) (inr (inr refl))
        (before-by P room (inl (omega arith)) (inl (omega arith)) (inl (omega arith)) (inr (inl refl))
        (then_by (λ k h. inl h) (structure cwr22 f) (structure-by cwr22 (λ k. (1 ≤ k) × (k ≤ 11)) (omega arith) f))))

    passes : (k m n : ℕ) → answer_with tables table t f room c ≡ passed k m n → (structure cwr22 f ≡ passed k m n) × T (room n)
    unfolding answer_with
    passes k m n e =
        let (let-in, enough) = room-passed room _ k m n (list-passed c (records_in (lines f)) _ k m n e) in
        let (_, _, s) = admitted-with tables t f table k m n let-in in
        (s, enough)

  same_answer : (v g c : ℕ) → right_territories table ≡ true → ((i : ℕ) → Crowded c (records_in (lines f)) i → ⊥)
      → answer_with tables table t f (enough v g) c ≡ answer tables t f v g
  unfolding answer_with answer
  same_answer v g c e h =
      let rs = records_in (lines f) in
      list-long c rs _ (none-crowded c 0 rs h) ∙ ap (in_room (enough v g)) (right-admission e)

-- ---- what is left

module _ (tables : Tables) (table : Bytes) (t : ℕ) (f v g : Bytes) (c : ℕ) where
  abbrev given : Answer
  given = answer_with tables table t f (enough (length v) (length g)) c

  abbrev sets : Bytes → Transaction → List (List Bool)
  sets = claimed_findings tables (territories_in table) t

  module _ (k m n : ℕ) (e : given ≡ passed k m n) where
    all-fits : (records_all (content f) ≤ length v) × (8 * records_all (content f) ≤ length g)
    all-fits =
        let (s, room) = passes tables table t f (enough (length v) (length g)) c k m n e in
        rw (all-counted f k m n s) (
          leb→le n (length v) (left (leb n (length v)) (leb (8 * n) (length g)) room),
          leb→le (8 * n) (length g) (right (leb n (length v)) (leb (8 * n) (length g)) room),
        )

    verdicts-fit : length (file_verdicts_by sets (content f)) ≤ length v
    verdicts-fit = rw (verdicts-all-by sets (claimed-findings tables (territories_in table) t) (content f)) all-fits.0

    findings-fit : length (finding_bytes (file_findings_by sets (content f))) ≤ length g
    findings-fit =
        rw (length-findings (file_findings_by sets (content f)), findings-all-by sets (claimed-findings tables (territories_in table) t) (content f))
        all-fits.1

cleared-length : {A : Type 0} (a : Answer) (blank : A) (cs : List A) → length (cleared_by a blank cs) ≡ length cs
cleared-length (refused n i) blank cs = refl
cleared-length (passed g m n) blank cs = length-replicate (length cs) blank

-- ---- the claims

pub collected : Collected
collected = record {
  named = named-exactly;
  exactly = exactly;
  first = first-over;
  first_of_all = first_of_all;
  none_of_all = none_of_all;
  one_party = λ ds es r h. one_party es r h ds;
  ignored = ignored;
  excluded = excluded;
  never = never;
  beside = beside;
  no_claims = no_claims;
  crowded = crowded;
  same_answer = same_answer;
  numbers = numbers;
}

pub lends : {A : Type 0} (blank : A) → Lends blank
unfolding check_claims claimed_by
lends blank = record {
  untouched = λ tables table t f cs v g n i e. ap (λ a. claimed_by a blank tables table t f cs v g) e;
  cleared = λ tables table t f cs v g k m n e. ap (λ a. cleared_by a blank cs) e;
  as_long = λ tables table t f cs v g. (
    left-length _ _ v (verdicts-fit tables table t f v g (length cs)),
    left-length _ _ g (findings-fit tables table t f v g (length cs)),
    cleared-length (given tables table t f v g (length cs)) blank cs,
  );
}
