-- Findings with a territory table beside those without: 47 and 48 are found only with one, all others as without, and where no record is a
-- claim nothing else. Assumes nothing.
use Prim.Native.Nat.{ℕ, zero, suc, ◌+◌, ◌*◌, ◌≤◌, ◌<◌}
use native.Mathlib.Omega.{arith}
use mathlib.Core.Path.{◌≡◌, refl, ap}
use mathlib.Core.Bool.{Bool, true, false, cond, not, ◌&&◌, ◌||◌, and-false}
use mathlib.Core.Option.{none}
use mathlib.Core.List.{List, [], ◌∷◌, ◌++◌, map}
use borrow.Author.Tests.{not-true}
use lib.Dec.{eqb, leb-zero}
use lib.ListN.{length, get_or, replicate, get_or-append, get_or-eq_default}
use Rattle.format.specs.Bytes.{Bytes, All, every}
use Rattle.format.specs.Doc.{Group, Transaction}
use Rattle.format.specs.Tree.{Tree, span, records_in_t, records_in_g, leaves}
use Rattle.format.proofs.Tests.{by_cases, both}
use Rattle.rules.specs.Tables.{Tables}
use Rattle.rules.specs.Values.{full_share}
use Rattle.rules.specs.Records.{only, any}
use Rattle.rules.specs.Totals.{Right, PR, MR, SR}
use Rattle.rules.specs.Findings.{TR, GR, level, verdict, verdict_of, set_of, worst, own_findings}
use Rattle.rules.specs.Works.{named_type, header_findings, details_from, transaction_findings}
use Rattle.rules.specs.Verdicts.{joined, finding_bytes, rejects_from, rejects, raised, is_stray}
use Rattle.rules.specs.Verdicts.{group_findings, group_findings_by, file_findings, file_findings_by}
use Rattle.rules.specs.Verdicts.{transaction_verdicts, transaction_verdicts_by, group_verdicts, group_verdicts_by, file_verdicts, file_verdicts_by}
use Rattle.rules.specs.Sheet.{carries}
use Rattle.rules.specs.Territories.{Territory, names, has_members}
use Rattle.rules.specs.Collection.{is_party, is_claim, is47, is48, share_in, total_in, is_over, over_from, first_over}
use Rattle.rules.specs.WithTerritories.{added, claimed_findings}
use Rattle.rules.proofs.Placewise.{always, all_then, all-at, Placewise, at_place, enclosed, enclosed-where}
use Rattle.rules.proofs.Each.{own-long, header-long}
use Rattle.rules.proofs.ReadOff.{small-file}
use Rattle.rules.proofs.Bits.{worst-padded}

-- ---- without a table

pub never : (tables : Tables) (t : ℕ) (d : Tree) (k n : ℕ) → 47 ≤ n → carries n (get_or (file_findings tables t d) k []) ≡ false
never tables t d k n h =
    let set = get_or (file_findings tables t d) k [] in
    let few = all-at (λ (s : List Bool). length s ≤ 47) {a = []} (omega arith) (file_findings tables t d) (small-file tables t 47 (omega arith) d) k in
    get_or-eq_default set false (omega (arith, few, h))

-- ---- with one

-- as many sets as without
module _ (tables : Tables) (xs : List Territory) (t : ℕ) where
  abbrev more : Bytes → List Bool
  more r = false ∷ is48 xs r ∷ []

  pub added-each : (before ds : List Bytes) → length (added more ds (details_from tables before ds)) ≡ length ds
  added-each before [] = refl
  added-each before (r ∷ ds) = ap suc (added-each (before ++ r ∷ []) ds)

  pub claimed-findings : (named : Bytes) (x : Transaction) → length (claimed_findings tables xs t named x) ≡ suc (length x.details)
  unfolding claimed_findings
  claimed-findings named x = ap suc (added-each [] x.details)

  -- what holds between the sets of each record of a transaction with and without
  module _ (R : List Bool → List Bool → Type 0) where
    abbrev ForDetail : Bytes → Type 0
    ForDetail r = (before : List Bytes) → R (own_findings tables before r ++ more r) (own_findings tables before r)

    of-details : (before ds : List Bytes) → All ForDetail ds → Placewise R (added more ds (details_from tables before ds)) (details_from tables before ds)
    of-details before [] h = tt
    of-details before (r ∷ ds) h = (h.0 before, of-details (before ++ r ∷ []) ds h.1)

    of-transaction : (named : Bytes) (x : Transaction)
        → R (header_findings tables t named x ++ is47 xs t x.details ∷ []) (header_findings tables t named x) → All ForDetail x.details
        → Placewise R (claimed_findings tables xs t named x) (transaction_findings tables t named x)
    unfolding claimed_findings transaction_findings
    of-transaction named x h k = (h, of-details [] x.details k)

  -- all below 47 are the same
  abbrev Same : List Bool → List Bool → Type 0
  Same a b = (n : ℕ) → n < 47 → carries n a ≡ carries n b

  longer : (set rest : List Bool) → length set ≡ 47 → Same (set ++ rest) set
  longer set rest e n h = get_or-append set rest false n (omega (arith, e, h))

  same-transaction : (named : Bytes) (x : Transaction) → Placewise Same (claimed_findings tables xs t named x) (transaction_findings tables t named x)
  same-transaction named x =
      of-transaction Same named x (longer (header_findings tables t named x) (is47 xs t x.details ∷ []) (header-long tables t named x))
      (always (ForDetail Same) (λ r before. longer (own_findings tables before r) (more r) (own-long tables t before r)) x.details)

  same-group : (g : Group) → Placewise Same (group_findings_by (claimed_findings tables xs t) g) (group_findings tables t g)
  unfolding group_findings_by
  same-group g =
      let named = named_type g.opening in
      enclosed Same (λ n h. refl) (claimed_findings tables xs t named) (transaction_findings tables t named) (same-transaction named) g.transactions

  same-file : (d : Tree) → Placewise Same (file_findings_by (claimed_findings tables xs t) d) (file_findings tables t d)
  unfolding file_findings_by
  same-file d =
      enclosed Same (λ n h. refl) (group_findings_by (claimed_findings tables xs t)) (group_findings tables t) same-group d.groups

  pub beside : (d : Tree) (k n : ℕ) → n < 47
      → carries n (get_or (file_findings_by (claimed_findings tables xs t) d) k []) ≡ carries n (get_or (file_findings tables t d) k [])
  beside d k =
      at_place Same (λ set n h. refl) [] (file_findings_by (claimed_findings tables xs t) d) (file_findings tables t d) (same-file d) k

-- ---- where no record is a claim

abbrev no_claim : Bytes → Bool
no_claim r = not (is_claim r)

abbrev Free : Transaction → Type 0
Free x = every no_claim x.details ≡ true

every_append : {A : Type 0} (p : A → Bool) (us vs : List A) → every p (us ++ vs) ≡ true → (every p us ≡ true) × (every p vs ≡ true)
every_append p [] vs e = (refl, e)
every_append p (u ∷ us) vs e =
    let (this, those) = both (p u) (every p (us ++ vs)) e in
    let (front, back) = every_append p us vs those in
    (rw this front, back)

free-transactions : (ts : List Transaction) → every no_claim (records_in_t ts) ≡ true → All Free ts
free-transactions [] e = tt
free-transactions (x ∷ ts) e =
    let (own, others) = every_append no_claim x.details (records_in_t ts) (both (no_claim x.header) _ e).1 in
    (own, free-transactions ts others)

abbrev FreeGroup : Group → Type 0
FreeGroup g = All Free g.transactions

free-groups : (gs : List Group) → every no_claim (records_in_g gs) ≡ true → All FreeGroup gs
free-groups [] e = tt
free-groups (g ∷ gs) e =
    let (own, others) = every_append no_claim (records_in_t g.transactions) (g.closing ∷ records_in_g gs) (both (no_claim g.opening) _ e).1 in
    (free-transactions g.transactions own, free-groups gs (both (no_claim g.closing) _ others).1)

free-file : (d : Tree) → every no_claim (leaves d) ≡ true → All FreeGroup d.groups
unfolding leaves
free-file d e =
    free-groups d.groups (every_append no_claim (records_in_g d.groups) (d.trailer ∷ []) (both (no_claim d.header) _ e).1).0

-- no party has one, so that no territory is over
no-claim : (p : Bytes → Bool) (ds : List Bytes) → every no_claim ds ≡ true → only is_claim (span p ds) ≡ []
no-claim p [] e = refl
no-claim p (r ∷ ds) e =
    let (this, those) = both (no_claim r) (every no_claim ds) e in
    by_cases (p r) (λ q. rw (q, not-true (is_claim r) this) (no-claim p ds those)) (λ q. rw q refl)

module _ (xs : List Territory) where
  no-total : (right : Right) (ns ds : List Bytes) → every no_claim ds ≡ true → total_in xs right ns ds ≡ 0
  unfolding total_in share_in
  no-total right ns [] e = refl
  no-total right ns (r ∷ ds) e =
      let rest = (both (no_claim r) (every no_claim ds) e).1 in
      by_cases (is_party r)
      (λ q. rw (q, no-claim (λ (s : Bytes). not (is_party s)) ds rest) (omega (arith, no-total right ns ds rest)))
      (λ q. rw q (no-total right ns ds rest))

  not-over : (t : ℕ) (ns ds : List Bytes) → every no_claim ds ≡ true → is_over xs t ns ds ≡ false
  unfolding is_over
  not-over t ns ds e = rw (no-total PR ns ds e, no-total MR ns ds e, no-total SR ns ds e, leb-zero (full_share + t)) refl

  nowhere-over : (t i : ℕ) (nss : List (List Bytes)) (ds : List Bytes) → every no_claim ds ≡ true → over_from xs t i nss ds ≡ none
  nowhere-over t i [] ds e = refl
  nowhere-over t i (ns ∷ nss) ds e = rw (not-over t ns ds e, and-false (not (has_members xs i))) (nowhere-over t (suc i) nss ds e)

  not-47 : (t : ℕ) (ds : List Bytes) → every no_claim ds ≡ true → is47 xs t ds ≡ false
  unfolding is47 first_over
  not-47 t ds e = rw (nowhere-over t 0 (names xs) ds e) refl

  not-48 : (r : Bytes) → no_claim r ≡ true → is48 xs r ≡ false
  unfolding is48
  not-48 r e = rw (not-true (is_claim r) e) refl

-- sets that are alike for all that is left of them: the number, the largest verdict, whether they reject the transaction
abbrev Like : List Bool → List Bool → Type 0
Like a b = (set_of a ≡ set_of b) × (worst a ≡ worst b) × (rejects a ≡ rejects b)

set-padded : (set : List Bool) (k : ℕ) → set_of (set ++ replicate k false) ≡ set_of set
unfolding set_of
set-padded [] zero = refl
set-padded [] (suc k) = omega (arith, set-padded [] k)
set-padded (b ∷ set) k = ap (λ n. cond b 1 0 + 2 * n) (set-padded set k)

rejects-padded : (n : ℕ) (set : List Bool) (k : ℕ) → rejects_from n (set ++ replicate k false) ≡ rejects_from n set
rejects-padded n [] zero = refl
rejects-padded n [] (suc k) = rejects-padded (suc n) [] k
rejects-padded n (b ∷ set) k = ap (λ c. (b && eqb (verdict_of (level n)) (verdict TR)) || c) (rejects-padded (suc n) set k)

padded : (set : List Bool) (k : ℕ) → Like (set ++ replicate k false) set
unfolding rejects
padded set k = (set-padded set k, worst-padded set k, rejects-padded 0 set k)

alike-itself : (set : List Bool) → Like set set
alike-itself set = (refl, refl, refl)

like-bytes : (us vs : List (List Bool)) → Placewise Like us vs → finding_bytes us ≡ finding_bytes vs
unfolding finding_bytes
like-bytes [] [] h = refl
like-bytes [] (v ∷ vs) h = absurd h
like-bytes (u ∷ us) [] h = absurd h
like-bytes (u ∷ us) (v ∷ vs) h = rw (h.0.0, like-bytes us vs h.1) refl

like-worst : (us vs : List (List Bool)) → Placewise Like us vs → map worst us ≡ map worst vs
like-worst [] [] h = refl
like-worst [] (v ∷ vs) h = absurd h
like-worst (u ∷ us) [] h = absurd h
like-worst (u ∷ us) (v ∷ vs) h = rw (h.0.1, like-worst us vs h.1) refl

like-rejects : (us vs : List (List Bool)) → Placewise Like us vs → any rejects us ≡ any rejects vs
like-rejects [] [] h = refl
like-rejects [] (v ∷ vs) h = absurd h
like-rejects (u ∷ us) [] h = absurd h
like-rejects (u ∷ us) (v ∷ vs) h = rw (h.0.2, like-rejects us vs h.1) refl

joined_same : {A B : Type 0} (f g : A → List B) (ys : List A) → All (λ y. f y ≡ g y) ys → joined f ys ≡ joined g ys
joined_same f g [] h = refl
joined_same f g (y ∷ ys) h = rw (h.0, joined_same f g ys h.1) refl

module _ (tables : Tables) (xs : List Territory) (t : ℕ) where
  abbrev claimed : Bytes → Transaction → List (List Bool)
  claimed = claimed_findings tables xs t

  like-detail : (r : Bytes) → no_claim r ≡ true → ForDetail tables xs t Like r
  like-detail r e before = rw (not-48 xs r e) (padded (own_findings tables before r) 2)

  every-all : (ds : List Bytes) → every no_claim ds ≡ true → All (ForDetail tables xs t Like) ds
  every-all [] e = tt
  every-all (r ∷ ds) e = let (this, those) = both (no_claim r) (every no_claim ds) e in (like-detail r this, every-all ds those)

  like-transaction : (named : Bytes) (x : Transaction) → Free x → Placewise Like (claimed named x) (transaction_findings tables t named x)
  like-transaction named x e =
      of-transaction tables xs t Like named x (rw (not-47 xs t x.details e) (padded (header_findings tables t named x) 1)) (every-all x.details e)

  like-group : (g : Group) → FreeGroup g → Placewise Like (group_findings_by claimed g) (group_findings tables t g)
  unfolding group_findings_by
  like-group g h =
      let named = named_type g.opening in
      enclosed-where Like (claimed named) (transaction_findings tables t named) (alike-itself []) g.transactions
      (all_then (like-transaction named) g.transactions h)

  like-file : (d : Tree) → All FreeGroup d.groups → Placewise Like (file_findings_by claimed d) (file_findings tables t d)
  unfolding file_findings_by
  like-file d h =
      enclosed-where Like (group_findings_by claimed) (group_findings tables t) (alike-itself []) d.groups (all_then like-group d.groups h)

  verdicts-transaction : (named : Bytes) (x : Transaction) → Free x → transaction_verdicts_by claimed named x ≡ transaction_verdicts tables t named x
  unfolding transaction_verdicts_by
  verdicts-transaction named x e =
      let like = like-transaction named x e in
      let sets = claimed named x in
      let without = transaction_findings tables t named x in
      rw (like-rejects sets without like, like-worst sets without like) refl

  verdicts-group : (g : Group) → FreeGroup g → group_verdicts_by claimed g ≡ group_verdicts tables t g
  unfolding group_verdicts_by
  verdicts-group g h =
      let named = named_type g.opening in
      ap (λ vs. raised (cond (is_stray g) (verdict GR) 0) (0 ∷ vs ++ 0 ∷ []))
      (joined_same (transaction_verdicts_by claimed named) (transaction_verdicts tables t named) g.transactions
      (all_then (verdicts-transaction named) g.transactions h))

  verdicts-file : (d : Tree) → All FreeGroup d.groups → file_verdicts_by claimed d ≡ file_verdicts tables t d
  unfolding file_verdicts_by
  verdicts-file d h =
      ap (λ vs. 0 ∷ vs ++ 0 ∷ [])
      (joined_same (group_verdicts_by claimed) (group_verdicts tables t) d.groups (all_then verdicts-group d.groups h))

  pub no_claims : (d : Tree) → every no_claim (leaves d) ≡ true
      → (finding_bytes (file_findings_by claimed d) ≡ finding_bytes (file_findings tables t d)) × (file_verdicts_by claimed d ≡ file_verdicts tables t d)
  no_claims d e =
      let free = free-file d e in
      (like-bytes (file_findings_by claimed d) (file_findings tables t d) (like-file d free), verdicts-file d free)
