-- A smaller tolerance finds whatever a larger one finds, and the short form's, which is 0, lets no hundredth pass (`Tolerances` in
-- specs/Claims). Assumes nothing.
use Prim.Native.Nat.{ℕ, suc, ◌+◌, ◌-◌, ◌≤◌}
use native.Mathlib.Omega.{arith}
use mathlib.Core.Path.{◌≡◌, refl}
use mathlib.Core.Bool.{Bool, true, false, cond, not, false≢true, ◌&&◌, ◌||◌, or-true}
use mathlib.Core.List.{List, [], ◌∷◌, ◌++◌, map}
use mathlib.Core.Logic.{◌↔◌, ◌⊎◌, inl, inr}
use lib.Dec.{leb, eqb}
use lib.ListN.{drop, get_or}
use borrow.Author.Tests.{leb-true, le-leb, eqb-true, not-false}
use Rattle.format.specs.Bytes.{Bytes}
use Rattle.format.specs.Doc.{Group, Transaction}
use Rattle.format.specs.Tree.{Tree}
use Rattle.format.proofs.Tests.{by_cases, both}
use Rattle.rules.specs.Tables.{Tables}
use Rattle.rules.specs.Values.{full_share, half_share, largest_tolerance}
use Rattle.rules.specs.Records.{any}
use Rattle.rules.specs.Totals.{Right, PR, MR, SR, publishers_total, writers_total, whole_total, exceeds, zero_or_full, is1, is2, is3}
use Rattle.rules.specs.Findings.{TR, GR, level, verdict, verdict_of, larger, worst_from, worst}
use Rattle.rules.specs.Works.{named_type, is0, header_findings, details_from, transaction_findings}
use Rattle.rules.specs.Verdicts.{joined, rejects_from, rejects, raised, is_stray, group_findings, group_findings_by, file_findings, file_findings_by, transaction_verdicts, transaction_verdicts_by, group_verdicts, group_verdicts_by, file_verdicts, file_verdicts_by}
use Rattle.rules.specs.Outcome.{admission, answer, check, short_tolerance}
use Rattle.rules.specs.Claims.{Tolerances}
use Rattle.rules.proofs.Placewise.{Placewise, alike, at_place, enclosed, mapped}
use Rattle.rules.proofs.Counts.{larger-max}

-- ---- tests

abbrev Implies : Bool → Bool → Type 0
Implies a b = a ≡ true → b ≡ true

itself : (b : Bool) → Implies b b
itself b e = e

either : (a : Bool) {b c d : Bool} → Implies a c → Implies b d → Implies (a || b) (c || d)
either true f g e = rw (f refl) refl
either false {b} {c} f g e = rw (g e) (or-true c)

and_both : (a : Bool) {b c d : Bool} → Implies a c → Implies b d → Implies (a && b) (c && d)
and_both true f g e = rw (f refl) (g e)
and_both false f g e = absurd (false≢true e)

turned : (a : Bool) {b : Bool} → Implies a b → Implies (not b) (not a)
turned true f e = rw (f refl) at e
turned false f e = refl

-- ---- findings 1 to 3

module _ {s t : ℕ} (less : s ≤ t) where
  at_most : (total most : ℕ) → Implies (leb total (most + s)) (leb total (most + t))
  at_most total most e = le-leb total (most + t) (omega (arith, leb-true total (most + s) e, less))

  at_least : (total least : ℕ) → Implies (leb (least - s) total) (leb (least - t) total)
  at_least total least e = le-leb (least - t) total (omega (arith, leb-true (least - s) total e, less))

  over : (most total : ℕ) → Implies (exceeds t most total) (exceeds s most total)
  over most total = turned (leb total (most + s)) (at_most total most)

  about : (total : ℕ) → Implies (zero_or_full s total) (zero_or_full t total)
  about total =
      either (eqb total 0) (itself (eqb total 0)) (and_both (leb (full_share - s) total) (at_least total full_share) (at_most total full_share))

  module _ (ds : List Bytes) where
    more-1 : Implies (is1 t ds) (is1 s ds)
    unfolding is1
    more-1 =
        let total : Right → ℕ = λ right. publishers_total right ds in
        let pr = exceeds t half_share (total PR) in
        either (pr || exceeds t full_share (total MR)) (either pr (over half_share (total PR)) (over full_share (total MR))) (over full_share (total SR))

    more-2 : Implies (is2 t ds) (is2 s ds)
    unfolding is2
    more-2 =
        let total : Right → ℕ = λ right. writers_total right ds in
        let nothing = leb (total PR) (0 + s) in
        let little = not (leb (total PR) (0 + t) || leb (half_share - t) (total PR)) in
        let pr = exceeds t full_share (total PR) in
        either (little || pr || exceeds t full_share (total MR))
        (either (little || pr)
        (either little
        (turned (nothing || leb (half_share - s) (total PR)) (either nothing (at_most (total PR) 0) (at_least (total PR) half_share)))
        (over full_share (total PR)))
        (over full_share (total MR)))
        (over full_share (total SR))

    more-3 : Implies (is3 t ds) (is3 s ds)
    unfolding is3
    more-3 =
        let fits : Right → Bool = λ right. zero_or_full s (whole_total right ds) in
        turned (fits PR && fits MR && fits SR)
        (and_both (fits PR && fits MR) (and_both (fits PR) (about (whole_total PR ds)) (about (whole_total MR ds))) (about (whole_total SR ds)))

-- ---- the sets of a file's records, each among that of a smaller tolerance

abbrev Among : List Bool → List Bool → Type 0
Among a b = Placewise Implies a b

among-itself : (set : List Bool) → Among set set
among-itself set = alike Implies itself set

module _ (tables : Tables) {s t : ℕ} (less : s ≤ t) where
  in-header : (named : Bytes) (x : Transaction) → Among (header_findings tables t named x) (header_findings tables s named x)
  unfolding header_findings
  in-header named x =
      let ds = x.details in
      (itself (is0 named x.header), (more-1 less ds, (more-2 less ds, (more-3 less ds, among-itself (drop 4 (header_findings tables t named x))))))

  in-transaction : (named : Bytes) (x : Transaction) → Placewise Among (transaction_findings tables t named x) (transaction_findings tables s named x)
  unfolding transaction_findings
  in-transaction named x = (in-header named x, alike Among among-itself (details_from tables [] x.details))

  in_group : (g : Group) → Placewise Among (group_findings tables t g) (group_findings tables s g)
  unfolding group_findings_by
  in_group g =
      let named = named_type g.opening in
      enclosed Among tt (transaction_findings tables t named) (transaction_findings tables s named) (in-transaction named) g.transactions

  in-file : (d : Tree) → Placewise Among (file_findings tables t d) (file_findings tables s d)
  unfolding file_findings_by
  in-file d = enclosed Among tt (group_findings tables t) (group_findings tables s) in_group d.groups

-- ---- and their verdicts, none smaller

abbrev NoMore : ℕ → ℕ → Type 0
NoMore m n = m ≤ n

no_more : (n : ℕ) → NoMore n n
no_more n = omega arith

larger-more : {a b c d : ℕ} → a ≤ c → b ≤ d → larger a b ≤ larger c d
larger-more {a} {b} {c} {d} h k = omega (arith, larger-max a b, larger-max c d, h, k)

choice-more : (b c : Bool) (v : ℕ) → Implies b c → cond b v 0 ≤ cond c v 0
choice-more true true v h = omega arith
choice-more true false v h = absurd (false≢true (h refl))
choice-more false c v h = omega arith

worst-more : (n : ℕ) (a b : List Bool) → Among a b → worst_from n a ≤ worst_from n b
worst-more n [] [] h = omega arith
worst-more n [] (y ∷ b) h = absurd h
worst-more n (x ∷ a) [] h = absurd h
worst-more n (x ∷ a) (y ∷ b) h = larger-more (choice-more x y (verdict_of (level n)) h.0) (worst-more (suc n) a b h.1)

rejects-more : (n : ℕ) (a b : List Bool) → Among a b → Implies (rejects_from n a) (rejects_from n b)
rejects-more n [] [] h = λ e. e
rejects-more n [] (y ∷ b) h = absurd h
rejects-more n (x ∷ a) [] h = absurd h
rejects-more n (x ∷ a) (y ∷ b) h =
    let is = eqb (verdict_of (level n)) (verdict TR) in
    either (x && is) (and_both x h.0 (itself is)) (rejects-more (suc n) a b h.1)

any-more : (xs ys : List (List Bool)) → Placewise Among xs ys → Implies (any rejects xs) (any rejects ys)
unfolding rejects
any-more [] [] h = λ e. e
any-more [] (y ∷ ys) h = absurd h
any-more (x ∷ xs) [] h = absurd h
any-more (x ∷ xs) (y ∷ ys) h = either (rejects_from 0 x) (rejects-more 0 x y h.0) (any-more xs ys h.1)

worsts-more : (xs ys : List (List Bool)) → Placewise Among xs ys → Placewise NoMore (map worst xs) (map worst ys)
unfolding worst
worsts-more = mapped Among NoMore worst worst (worst-more 0)

raised-more : {m n : ℕ} → m ≤ n → (us vs : List ℕ) → Placewise NoMore us vs → Placewise NoMore (raised m us) (raised n vs)
unfolding raised
raised-more {m} {n} h = mapped NoMore NoMore (larger m) (larger n) (λ u v k. larger-more h k)

module _ (tables : Tables) {s t : ℕ} (less : s ≤ t) where
  of-transaction : (named : Bytes) (x : Transaction) → Placewise NoMore (transaction_verdicts tables t named x) (transaction_verdicts tables s named x)
  unfolding transaction_verdicts_by
  of-transaction named x =
      let wide = transaction_findings tables t named x in
      let narrow = transaction_findings tables s named x in
      let h = in-transaction tables less named x in
      raised-more (choice-more (any rejects wide) (any rejects narrow) (verdict TR) (any-more wide narrow h)) (map worst wide) (map worst narrow)
      (worsts-more wide narrow h)

  of-group : (g : Group) → Placewise NoMore (group_verdicts tables t g) (group_verdicts tables s g)
  unfolding group_verdicts_by
  of-group g =
      let named = named_type g.opening in
      let wide = transaction_verdicts tables t named in
      let narrow = transaction_verdicts tables s named in
      raised-more (no_more (cond (is_stray g) (verdict GR) 0)) (0 ∷ joined wide g.transactions ++ 0 ∷ []) (0 ∷ joined narrow g.transactions ++ 0 ∷ [])
      (enclosed NoMore (no_more 0) wide narrow (of-transaction named) g.transactions)

  of-file : (d : Tree) → Placewise NoMore (file_verdicts tables t d) (file_verdicts tables s d)
  unfolding file_verdicts_by
  of-file d = enclosed NoMore (no_more 0) (group_verdicts tables t) (group_verdicts tables s) of-group d.groups

-- ---- answers

same-admission : (tables : Tables) (s t : ℕ) (f : Bytes) → s ≤ largest_tolerance → t ≤ largest_tolerance → admission tables s f ≡ admission tables t f
unfolding admission
same-admission tables s t f h k = rw (le-leb s largest_tolerance h, le-leb t largest_tolerance k) refl

-- ---- no tolerance

exactly : (total : ℕ) → zero_or_full short_tolerance total ≡ true ↔ ((total ≡ 0) ⊎ (total ≡ full_share))
exactly total = (
  λ e.
      by_cases (eqb total 0)
      (λ q. inl (eqb-true total 0 q))
      (λ q.
      let (least, most) = both (leb full_share total) (leb total full_share) (rw q at e) in
      inr (omega (arith, leb-true full_share total least, leb-true total full_share most))),
  settle,
)
  where
    settle : (total ≡ 0) ⊎ (total ≡ full_share) → zero_or_full short_tolerance total ≡ true
    settle (inl e) = rw e refl
    settle (inr e) = rw e refl

module _ (ds : List Bytes) where
  abbrev fits : Right → Bool
  fits right = zero_or_full short_tolerance (whole_total right ds)

  abbrev Settled : Right → Type 0
  Settled right = (whole_total right ds ≡ 0) ⊎ (whole_total right ds ≡ full_share)

  each_right : Settled PR → Settled MR → Settled SR → (right : Right) → Settled right
  each_right pr mr sr PR = pr
  each_right pr mr sr MR = mr
  each_right pr mr sr SR = sr

  exact-3 : is3 short_tolerance ds ≡ false ↔ ((right : Right) → Settled right)
  unfolding is3
  exact-3 = (
    λ e.
        let (others, sr) = both (fits PR && fits MR) (fits SR) (not-false _ e) in
        let (pr, mr) = both (fits PR) (fits MR) others in
        each_right ((exactly (whole_total PR ds)).0 pr) ((exactly (whole_total MR ds)).0 mr) ((exactly (whole_total SR ds)).0 sr),
    λ h. rw ((exactly (whole_total PR ds)).1 (h PR), (exactly (whole_total MR ds)).1 (h MR), (exactly (whole_total SR ds)).1 (h SR)) refl,
  )

pub tolerances : Tolerances
unfolding check answer
tolerances = record {
  same_answer = λ tables s t f v g h k. rw (same-admission tables s t f h k) refl;
  findings = λ tables s t d k n less.
      let sets = at_place Among among-itself [] (file_findings tables t d) (file_findings tables s d) (in-file tables less d) k in
      at_place Implies itself false (get_or (file_findings tables t d) k []) (get_or (file_findings tables s d) k []) sets n;
  verdicts = λ tables s t d k less. at_place NoMore no_more 0 (file_verdicts tables t d) (file_verdicts tables s d) (of-file tables less d) k;
  exact = exact-3;
}
