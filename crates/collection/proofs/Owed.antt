-- What is owed to the buffers and to the answer, past a control record, past a transaction, and once one in doubt is settled. Assumes nothing.
use Prim.Native.Nat.{ℕ, zero, suc, ◌+◌, ◌-◌, ◌≤◌}
use native.Mathlib.Omega.{arith}
use native.Mathlib.Nat.{add-zero}
use mathlib.Core.Path.{◌≡◌, refl, sym, ap, ◌∙◌, subst}
use mathlib.Core.Bool.{Bool, true, false, cond, not, true≢false}
use mathlib.Core.Option.{Option as Place, none, some}
use mathlib.Core.List.{List, [], ◌∷◌, ◌++◌}
use lib.ListN.{length, take, drop, take-append-drop}
use lib.Seq.{drop-drop}
use Rattle.std.specs.Prelude.{Option, None, Some, is_some}
use Rattle.std.specs.Bool.{then_some}
use Rattle.format.specs.Bytes.{Bytes}
use Rattle.format.specs.Table.{head}
use Rattle.format.specs.Cwr22.{cwr22}
use Rattle.format.specs.Checks.{is}
use Rattle.format.specs.Tree.{span, after, is_head, is_detail, transactions_in}
use Rattle.format.specs.Lent.{splice}
use Rattle.format.proofs.Tests.{by_cases}
use lib.Dec.{ltb}
use borrow.Author.Tests.{le-leb, ltb-false}
use Rattle.rules.specs.Records.{only, any}
use Rattle.rules.specs.Findings.{larger}
use Rattle.rules.specs.Verdicts.{raised}
use Rattle.rules.specs.Territories.{Territory, territories_in}
use Rattle.rules.specs.Collection.{is_claim, is47, is48, first_over}
use Rattle.rules.specs.WithTerritories.{Over, or_later, crowded_from}
use Rattle.structure.specs.Cursor.{Here}
use Rattle.transactions.specs.Walk.{rest_at, Position}
use Rattle.transactions.proofs.Gone.{length-parted}
use Rattle.collection.specs.declared.Walk.{Walk}
use Rattle.collection.specs.declared.Sought.{Sought}
use Rattle.collection.specs.Marked.{with47, raised_if, marked48, marked_t, raised_t, marked_from, raised_from}
use Rattle.collection.specs.Walk.{or_found, Owes, Doubts, Judged}
use Rattle.collection.proofs.Leaves.{detail-no-head}

-- ---- past details, which are no headers

module _ (T : List Territory) (t : ℕ) where
  marked-skip : (i : ℕ) (rs : List Bytes) (g : Bytes)
      → marked_from T t i rs g ≡ marked_from T t (i + length (span (is_detail cwr22) rs)) (after (is_detail cwr22) rs) g
  unfolding marked_from
  marked-skip i [] g = refl
  marked-skip i (r ∷ rs) g =
      by_cases (is_detail cwr22 r)
      (λ d.
      let on : suc i + length (span (is_detail cwr22) rs) ≡ i + suc (length (span (is_detail cwr22) rs)) = omega arith in
      rw (d, detail-no-head r d, ← on) (marked-skip (suc i) rs g))
      (λ d. rw (d, add-zero i))

  raised-skip : (i : ℕ) (rs : List Bytes) (v : Bytes)
      → raised_from T t i rs v ≡ raised_from T t (i + length (span (is_detail cwr22) rs)) (after (is_detail cwr22) rs) v
  unfolding raised_from
  raised-skip i [] v = refl
  raised-skip i (r ∷ rs) v =
      by_cases (is_detail cwr22 r)
      (λ d.
      let on : suc i + length (span (is_detail cwr22) rs) ≡ i + suc (length (span (is_detail cwr22) rs)) = omega arith in
      rw (d, detail-no-head r d, ← on) (raised-skip (suc i) rs v))
      (λ d. rw (d, add-zero i))

  -- past a control record
  pub marked-control : (i : ℕ) (r : Bytes) (rs : List Bytes) (g : Bytes) → is_head cwr22 r ≡ false → marked_from T t i (r ∷ rs) g ≡ marked_from T t (suc i) rs g
  unfolding marked_from
  marked-control i r rs g h = rw h

  pub raised-control : (i : ℕ) (r : Bytes) (rs : List Bytes) (v : Bytes) → is_head cwr22 r ≡ false → raised_from T t i (r ∷ rs) v ≡ raised_from T t (suc i) rs v
  unfolding raised_from
  raised-control i r rs v h = rw h

  -- nothing is owed for no records
  pub marked-end : (i : ℕ) (g : Bytes) → marked_from T t i [] g ≡ g
  unfolding marked_from
  marked-end i g = refl

  pub raised-end : (i : ℕ) (v : Bytes) → raised_from T t i [] v ≡ v
  unfolding raised_from
  raised-end i v = refl

  -- past a header and its details
  marked-header : (i : ℕ) (r : Bytes) (rs : List Bytes) (g : Bytes) → is_head cwr22 r ≡ true
      → marked_from T t i (r ∷ rs) g
      ≡ marked_from T t (i + suc (length (span (is_detail cwr22) rs))) (after (is_detail cwr22) rs) (marked_t T t i (span (is_detail cwr22) rs) g)
  unfolding marked_from
  marked-header i r rs g h =
      let on : suc i + length (span (is_detail cwr22) rs) ≡ i + suc (length (span (is_detail cwr22) rs)) = omega arith in
      rw (h, ← on) (marked-skip (suc i) rs (marked_t T t i (span (is_detail cwr22) rs) g))

  raised-header : (i : ℕ) (r : Bytes) (rs : List Bytes) (v : Bytes) → is_head cwr22 r ≡ true
      → raised_from T t i (r ∷ rs) v
      ≡ raised_from T t (i + suc (length (span (is_detail cwr22) rs))) (after (is_detail cwr22) rs) (raised_t T t i (span (is_detail cwr22) rs) v)
  unfolding raised_from
  raised-header i r rs v h =
      let on : suc i + length (span (is_detail cwr22) rs) ≡ i + suc (length (span (is_detail cwr22) rs)) = omega arith in
      rw (h, ← on) (raised-skip (suc i) rs (raised_t T t i (span (is_detail cwr22) rs) v))

transactions-skip : (rs : List Bytes) → transactions_in cwr22 rs ≡ transactions_in cwr22 (after (is_detail cwr22) rs)
transactions-skip [] = refl
transactions-skip (r ∷ rs) =
    by_cases (is_detail cwr22 r) (λ d. rw (d, detail-no-head r d) (transactions-skip rs)) (λ d. rw d)

-- ---- transactions with too many claims

crowded-skip : (c i : ℕ) (rs : List Bytes)
    → crowded_from c i rs ≡ crowded_from c (i + length (span (is_detail cwr22) rs)) (after (is_detail cwr22) rs)
crowded-skip c i [] = refl
crowded-skip c i (r ∷ rs) =
    by_cases (is_detail cwr22 r)
    (λ d.
    let on : suc i + length (span (is_detail cwr22) rs) ≡ i + suc (length (span (is_detail cwr22) rs)) = omega arith in
    rw (d, detail-no-head r d, ← on) (crowded-skip c (suc i) rs))
    (λ d. rw (d, add-zero i))

pub crowded-control : (c i : ℕ) (r : Bytes) (rs : List Bytes) → is_head cwr22 r ≡ false → crowded_from c i (r ∷ rs) ≡ none
    → crowded_from c (suc i) rs ≡ none
crowded-control c i r rs h e = rw h at e

some-none : (i : ℕ) → ◌≡◌ {A = Place ℕ} (some i) none → ⊥
some-none i e = true≢false (ap is-some e)
  where
    is-some : Place ℕ → Bool
    is-some none = false
    is-some (some j) = true

crowded-header : (c i : ℕ) (r : Bytes) (rs : List Bytes) → is_head cwr22 r ≡ true → crowded_from c i (r ∷ rs) ≡ none
    → (length (only is_claim (span (is_detail cwr22) rs)) ≤ c)
    × (crowded_from c (i + suc (length (span (is_detail cwr22) rs))) (after (is_detail cwr22) rs) ≡ none)
crowded-header c i r rs h e =
    let claims = length (only is_claim (span (is_detail cwr22) rs)) in
    let on : suc i + length (span (is_detail cwr22) rs) ≡ i + suc (length (span (is_detail cwr22) rs)) = omega arith in
    by_cases (ltb c claims)
    (λ l. absurd (some-none i (rw (h, l) at e)))
    (λ l. (ltb-false c claims l, rw (← on) (sym (crowded-skip c (suc i) rs) ∙ (rw (h, l) at e))))

-- verdicts that are not raised
larger-zero : (n : ℕ) → larger 0 n ≡ n
larger-zero n = rw (le-leb 0 n (omega arith))

raised-zero : (vs : List ℕ) → raised 0 vs ≡ vs
unfolding raised
raised-zero [] = refl
raised-zero (x ∷ vs) = rw (larger-zero x) (ap (λ (ys : List ℕ). x ∷ ys) (raised-zero vs))

take_on : {A : Type 0} (n : ℕ) (l : List A) → take n l ++ drop (length (take n l)) l ≡ l
take_on zero l = refl
take_on (suc n) [] = refl
take_on (suc n) (x ∷ l) = ap (λ (ys : List _). x ∷ ys) (take_on n l)

not-raised : (i n : ℕ) (v : Bytes) → raised_if false i n v ≡ v
unfolding raised_if splice
not-raised i n v =
    let part = take n (drop i v) in
    rw (raised-zero part, ← drop-drop (length part) i v, take_on n (drop i v)) (take-append-drop i v)

-- ---- past a transaction, 47 of which is still owed

-- with what stands there before and after, whatever the sums say
module _ {f table : Bytes} {t m : ℕ} {v' g' : Bytes} {o : Over} {w : Walk} {v g : Bytes} (owes : Owes f table t m v' g' o w v g)
    (r : Bytes) (first : ℕ) (left : rest_at f w.at ≡ r ∷ rest_at f first) (its : is_head cwr22 r ≡ true) (here : Here f first head (rest_at f first)) where
  abbrev T : List Territory
  T = territories_in table

  abbrev ds : List Bytes
  ds = span (is_detail cwr22) (rest_at f first)

  module _ (e : Walk) (position : Position f m e.at e.index head (after (is_detail cwr22) (rest_at f first))) (header : e.header ≡ w.index)
      (number : e.number ≡ w.number) (same : (later : Over) → or_found e later ≡ or_found w later) where
    after-it : rest_at f e.at ≡ after (is_detail cwr22) (rest_at f first)
    after-it = position.here.left

    pub ends : e.index ≡ w.index + suc (length ds)
    ends =
        let parted = length-parted (is_detail cwr22) (rest_at f first) in
        let all = owes.standing.position.left in
        omega (arith, parted, all, ap length left, position.left)

    uncrowded : (c : ℕ) → crowded_from c 0 (rest_at f 0) ≡ none → (length (only is_claim ds) ≤ c)
        × (crowded_from c (w.index + suc (length ds)) (after (is_detail cwr22) (rest_at f first)) ≡ none)
    uncrowded c z = crowded-header c w.index r (rest_at f first) its (rw left at (owes.standing.uncrowded c z))

    pub past-transaction : Doubts f table t m v' g' o e first
        (raised_if (any (is48 T) ds) w.index (suc (length ds)) v) (marked48 T (suc w.index) ds g)
    past-transaction = record {
      standing = record {
        class = head;
        more = refl;
        position = rw after-it position;
        numbers = omega (arith, number, ends, owes.standing.numbers);
        uncrowded = λ c z. rw (after-it, ends) (uncrowded c z).1;
      };
      here = here;
      left = sym after-it;
      ends = rw header ends;
      numbered = rw (number, header) owes.standing.numbers;
      fits = λ c z. (uncrowded c z).0;
      verdicts = rw (after-it, ends, header) (sym (raised-header T t w.index r (rest_at f first) v its) ∙ (rw left at owes.verdicts));
      findings = rw (after-it, ends, header) (sym (marked-header T t w.index r (rest_at f first) g its) ∙ (rw left at owes.findings));
      over = rw (number, after-it, ← transactions-skip (rest_at f first)) (same _ ∙ (rw (left, its) at owes.over));
    }

-- ---- 47 is settled

module _ {f table : Bytes} {t m : ℕ} {v' g' : Bytes} {o : Over} {w : Walk} {first : ℕ} {v g : Bytes} (doubts : Doubts f table t m v' g' o w first v g) where
  abbrev its-details : List Bytes
  its-details = span (is_detail cwr22) (rest_at f first)

  pub settled : (e : Walk) → e.at ≡ w.at → e.index ≡ w.index → e.number ≡ w.number + 1 → (b : Bool) → b ≡ is47 (territories_in table) t its-details
      → ((later : Over) → or_found e later ≡ or_found w (or_later w.number (first_over (territories_in table) t its-details) later))
      → Owes f table t m v' g' o e (raised_if b w.header (w.index - w.header) v) (cond b (with47 w.header g) g)
  settled e at index number b is told =
      let long : w.index - w.header ≡ suc (length its-details) = omega (arith, doubts.ends) in
      let next : w.number + 1 ≡ suc w.number = omega arith in
      record {
        standing = record {
          class = doubts.standing.class;
          more = doubts.standing.more;
          position = rw (at, index) doubts.standing.position;
          numbers = omega (arith, index, number, doubts.numbered, doubts.ends);
          uncrowded = rw (at, index) doubts.standing.uncrowded;
        };
        verdicts = rw (at, index, is, long) doubts.verdicts;
        findings = rw (at, index, is) doubts.findings;
        over = rw (at, number, next) (told _ ∙ doubts.over);
      }

-- ---- what an Option is

pub none-some : {n : ℕ} → None ≡ Some n → ⊥
none-some e = cc

pub some-same : {a b : ℕ} → Some a ≡ Some b → a ≡ b
some-same e = cc

pub doubtless : (d : Option ℕ) → is_some d ≡ false → d ≡ None
doubtless None e = refl
doubtless (Some n) e = absurd (true≢false e)

-- ---- one transaction, in doubt or not

module _ {f table : Bytes} {t m : ℕ} {v' g' : Bytes} {o : Over} {w : Walk} {v g : Bytes} (owes : Owes f table t m v' g' o w v g)
    (r : Bytes) (first : ℕ) (left : rest_at f w.at ≡ r ∷ rest_at f first) (its : is_head cwr22 r ≡ true) (here : Here f first head (rest_at f first))
    (at index : ℕ) (position : Position f m at index head (after (is_detail cwr22) (rest_at f first))) where
  abbrev details : List Bytes
  details = span (is_detail cwr22) (rest_at f first)

  -- past it, with that number of transactions before
  abbrev walk : ℕ → Walk
  walk number = record {
    at = at;
    index = index;
    number = number;
    over = w.over;
    header = w.index;
  }

  abbrev sought : Bool → ℕ → Sought
  sought fits number = record { walk = walk number; doubt = then_some (not fits) first }

  module _ (v₁ g₁ : Bytes) (verdicts : v₁ ≡ raised_if (any (is48 (territories_in table)) details) w.index (index - w.index) v)
      (findings : g₁ ≡ marked48 (territories_in table) (w.index + 1) details g) where
    in-doubt : Doubts f table t m v' g' o (walk w.number) first v₁ g₁
    in-doubt =
        let end = ends owes r first left its here (walk w.number) position refl refl (λ later. refl) in
        let long : index - w.index ≡ suc (length details) = omega (arith, end) in
        let next : w.index + 1 ≡ suc w.index = omega arith in
        rw (verdicts, findings, long, next) (past-transaction owes r first left its here (walk w.number) position refl refl (λ later. refl))

    pub judged : (fits : Bool) (number : ℕ) → number ≡ cond fits (w.number + 1) w.number
        → (fits ≡ true → (is47 (territories_in table) t details ≡ false) × (first_over (territories_in table) t details ≡ none))
        → Judged f table t m v' g' o (sought fits number) v₁ g₁
    judged true number is none_over =
        let (not-over, nothing) = none_over refl in
        record {
          doubts = λ k e. absurd (none-some e);
          goes =
              λ e.
              rw is (subst (λ (u : Bytes). Owes f table t m v' g' o (walk (w.number + 1)) u g₁) (not-raised w.index (index - w.index) v₁)
              (settled in-doubt (walk (w.number + 1)) refl refl refl false (sym not-over) (λ later. rw nothing)));
        }
    judged false number is none_over =
        record { doubts = λ k e. rw is (subst (λ (n : ℕ). Doubts f table t m v' g' o (walk w.number) n v₁ g₁) (some-same e) in-doubt); goes = λ e. absurd (none-some (sym e)) }
