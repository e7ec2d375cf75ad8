-- The verdicts of a transaction with findings 47 and 48: those without them, raised to that of TR where one of them holds. Assumes nothing.
use Prim.Native.Nat.{ℕ, suc, ◌+◌, ◌≤◌}
use native.Mathlib.Omega.{arith}
use mathlib.Core.Path.{◌≡◌, refl, sym, ap, ◌∙◌}
use mathlib.Core.Bool.{Bool, true, false, cond, ◌&&◌, ◌||◌, or_assoc}
use mathlib.Core.List.{List, [], ◌∷◌, ◌++◌, map}
use lib.Dec.{eqb}
use lib.ListN.{length, take, drop}
use lib.Seq.{take_at, drop_at, drop-append-add}
use Rattle.format.specs.Bytes.{Bytes}
use Rattle.format.specs.Doc.{Transaction}
use Rattle.format.specs.Lent.{splice}
use Rattle.rules.specs.Tables.{Tables}
use Rattle.rules.specs.Territories.{Territory}
use Rattle.rules.specs.Records.{any}
use Rattle.rules.specs.Collection.{is47, is48}
use Rattle.rules.specs.Findings.{TR, own_findings, level, verdict, verdict_of, larger, worst_from, worst}
use Rattle.rules.specs.Works.{header_findings, details_from, transaction_findings}
use Rattle.rules.specs.Verdicts.{rejects_from, rejects, raised, transaction_verdicts_by}
use Rattle.rules.specs.WithTerritories.{added, claimed_findings}
use Rattle.rules.proofs.Counts.{larger-max}
use Rattle.rules.proofs.Each.{own-long, header-long}
use Rattle.findings.proofs.Laws.{worst-after}
use Rattle.buffers.proofs.Raised.{length-raised}
use Rattle.collection.specs.Marked.{raised_if, raised_t}

-- ---- the larger of some

larger-again : (a b c : ℕ) → larger a (larger b c) ≡ larger (larger a b) c
larger-again a b c = omega (arith, larger-max a (larger b c), larger-max b c, larger-max (larger a b) c, larger-max a b)

larger-least : (m w c : ℕ) → c ≤ m → larger m (larger w c) ≡ larger m w
larger-least m w c h = omega (arith, larger-max m (larger w c), larger-max w c, larger-max m w)

larger-turned : (l a p q : ℕ) → larger l (larger a (larger p q)) ≡ larger p (larger q (larger l a))
larger-turned l a p q =
    omega (
      arith,
      larger-max l (larger a (larger p q)),
      larger-max a (larger p q),
      larger-max p q,
      larger-max p (larger q (larger l a)),
      larger-max q (larger l a),
      larger-max l a,
    )

-- ---- verdicts raised

pub raised-again : (m n : ℕ) (vs : List ℕ) → raised m (raised n vs) ≡ raised (larger m n) vs
unfolding raised
raised-again m n [] = refl
raised-again m n (v ∷ vs) = rw (larger-again m n v) (ap (λ (l : List ℕ). larger (larger m n) v ∷ l) (raised-again m n vs))

-- where they stand in a buffer
raised-if : (b : Bool) (i n : ℕ) (a us z : Bytes) → length a ≡ i → length us ≡ n
    → raised_if b i n (a ++ (us ++ z)) ≡ a ++ (raised (cond b (verdict TR) 0) us ++ z)
unfolding raised_if splice
raised-if b i n a us z e q =
    let least = cond b (verdict TR) 0 in
    let here : take n (drop i (a ++ (us ++ z))) ≡ us = rw (drop_at a (us ++ z) i e) (take_at us z n q) in
    let beyond : drop (i + length (raised least us)) (a ++ (us ++ z)) ≡ z =
    rw (length-raised least us, ← e, drop-append-add a (us ++ z) (length us)) (drop_at us z (length us) refl) in
    rw (here, take_at a (us ++ z) i e, beyond)

-- those of a transaction, for 48 and for 47
pub raised-turn : (T : List Territory) (t i : ℕ) (ds : List Bytes) (a us z : Bytes) → length a ≡ i → length us ≡ suc (length ds)
    → raised_t T t i ds (a ++ (us ++ z))
    ≡ a ++ (raised (cond (is47 T t ds) (verdict TR) 0) (raised (cond (any (is48 T) ds) (verdict TR) 0) us) ++ z)
raised-turn T t i ds a us z e q =
    let b = any (is48 T) ds in
    let more = raised (cond b (verdict TR) 0) us in
    ap (raised_if (is47 T t ds) i (suc (length ds))) (raised-if b i (suc (length ds)) a us z e q)
    ∙ raised-if (is47 T t ds) i (suc (length ds)) a more z e (length-raised (cond b (verdict TR) 0) us ∙ q)

-- ---- 47 and 48 in a set

rejects-after : (n : ℕ) (bs cs : List Bool) → rejects_from n (bs ++ cs) ≡ (rejects_from n bs || rejects_from (n + length bs) cs)
rejects-after n [] cs = ap (λ (x : ℕ). rejects_from x cs) (let e : n ≡ n + 0 = omega arith in e)
rejects-after n (b ∷ bs) cs =
    let e : suc n + length bs ≡ n + suc (length bs) = omega arith in
    let here = b && eqb (verdict_of (level n)) (verdict TR) in
    ap (λ (x : Bool). here || x) (rejects-after (suc n) bs cs)
    ∙ sym (or_assoc here (rejects_from (suc n) bs) (rejects_from (suc n + length bs) cs))
    ∙ ap (λ (x : ℕ). here || rejects_from (suc n) bs || rejects_from x cs) e

abbrev bring : Bool → ℕ
bring b = cond b (verdict TR) 0

-- findings from 47 on that reject the transaction where b
record Tells (cs : List Bool) (b : Bool) : Type 0 where
  brings : worst_from 47 cs ≡ bring b
  rejecting : rejects_from 47 cs ≡ b

tells-47 : (b : Bool) → Tells (b ∷ []) b
unfolding level
tells-47 true = record { brings = refl; rejecting = refl }
tells-47 false = record { brings = refl; rejecting = refl }

tells-48 : (b : Bool) → Tells (false ∷ b ∷ []) b
unfolding level
tells-48 true = record { brings = refl; rejecting = refl }
tells-48 false = record { brings = refl; rejecting = refl }

module _ (s : List Bool) (long : length s ≡ 47) {cs : List Bool} {b : Bool} (tells : Tells cs b) where
  worst-with : worst (s ++ cs) ≡ larger (worst s) (bring b)
  unfolding worst
  worst-with = worst-after 0 s cs ∙ rw long (ap (larger (worst_from 0 s)) tells.brings)

  rejects-with : rejects (s ++ cs) ≡ (rejects s || b)
  unfolding rejects
  rejects-with = rejects-after 0 s cs ∙ rw long (ap (λ (x : Bool). rejects_from 0 s || x) tells.rejecting)

-- ---- in the sets of a transaction

or_turned : (a b c d : Bool) → (a || b || (c || d)) ≡ (a || c || (b || d))
or_turned true b c d = refl
or_turned false true true d = refl
or_turned false true false d = refl
or_turned false false c d = refl

bring-or : (a b : Bool) → bring (a || b) ≡ larger (bring a) (bring b)
bring-or true true = refl
bring-or true false = refl
bring-or false true = refl
bring-or false false = refl

module _ (tables : Tables) (T : List Territory) where
  abbrev more : Bytes → List Bool
  more r = false ∷ is48 T r ∷ []

  rejects-details : (before ds : List Bytes)
      → any rejects (added more ds (details_from tables before ds)) ≡ (any rejects (details_from tables before ds) || any (is48 T) ds)
  rejects-details before [] = refl
  rejects-details before (r ∷ rs) =
      let s = own_findings tables before r in
      let rest = details_from tables (before ++ r ∷ []) rs in
      rw (rejects-with s (own-long tables 0 before r) (tells-48 (is48 T r)), rejects-details (before ++ r ∷ []) rs)
      (or_turned (rejects s) (is48 T r) (any rejects rest) (any (is48 T) rs))

  -- what they bring is no more than what all are raised to
  worst-details : (m : ℕ) (before ds : List Bytes) → bring (any (is48 T) ds) ≤ m
      → raised m (map worst (added more ds (details_from tables before ds))) ≡ raised m (map worst (details_from tables before ds))
  unfolding raised
  worst-details m before [] h = refl
  worst-details m before (r ∷ rs) h =
      let s = own_findings tables before r in
      let both = larger-max (bring (is48 T r)) (bring (any (is48 T) rs)) in
      let most : larger (bring (is48 T r)) (bring (any (is48 T) rs)) ≤ m = rw bring-or at h in
      rw (worst-with s (own-long tables 0 before r) (tells-48 (is48 T r)), larger-least m (worst s) (bring (is48 T r)) (omega arith))
      (ap (λ (l : List ℕ). larger m (worst s) ∷ l) (worst-details m (before ++ r ∷ []) rs (omega arith)))

  module _ (t : ℕ) (named : Bytes) (x : Transaction) where
    abbrev over : Bool
    over = is47 T t x.details

    abbrev wrong : Bool
    wrong = any (is48 T) x.details

    abbrev plain : List (List Bool)
    plain = transaction_findings tables t named x

    abbrev full : List (List Bool)
    full = claimed_findings tables T t named x

    rejects-full : any rejects full ≡ (any rejects plain || (over || wrong))
    unfolding transaction_findings claimed_findings
    rejects-full =
        let h = header_findings tables t named x in
        rw (rejects-with h (header-long tables t named x) (tells-47 over), rejects-details [] x.details)
        (or_turned (rejects h) over (any rejects (details_from tables [] x.details)) wrong)

    least : bring (any rejects full) ≡ larger (bring (any rejects plain)) (larger (bring over) (bring wrong))
    least = ap bring rejects-full ∙ bring-or (any rejects plain) (over || wrong) ∙ ap (larger (bring (any rejects plain))) (bring-or over wrong)

    worst-full : (m : ℕ) → bring over ≤ m → bring wrong ≤ m → raised m (map worst full) ≡ raised m (map worst plain)
    unfolding transaction_findings claimed_findings raised
    worst-full m p q =
        let h = header_findings tables t named x in
        rw (worst-with h (header-long tables t named x) (tells-47 over), larger-least m (worst h) (bring over) p)
        (ap (λ (l : List ℕ). larger m (worst h) ∷ l) (worst-details m [] x.details q))

    -- also where the verdicts of its whole group are raised
    pub verdicts-claimed : (l : ℕ) → raised l (transaction_verdicts_by (claimed_findings tables T t) named x)
        ≡ raised (cond (is47 T t x.details) (verdict TR) 0)
        (raised (cond (any (is48 T) x.details) (verdict TR) 0) (raised l (transaction_verdicts_by (transaction_findings tables t) named x)))
    unfolding transaction_verdicts_by
    verdicts-claimed l =
        let a = bring (any rejects plain) in
        let p = bring over in
        let q = bring wrong in
        let ws = map worst plain in
        let most = larger-max a (larger p q) in
        let inner = larger-max p q in
        ap (λ (n : ℕ). raised l (raised n (map worst full))) least
        ∙ ap (raised l) (worst-full (larger a (larger p q)) (omega arith) (omega arith))
        ∙ raised-again l (larger a (larger p q)) ws
        ∙ ap (λ (n : ℕ). raised n ws) (larger-turned l a p q)
        ∙ sym (ap (λ (us : List ℕ). raised p (raised q us)) (raised-again l a ws)
        ∙ ap (raised p) (raised-again q (larger l a) ws)
        ∙ raised-again p (larger q (larger l a)) ws)
