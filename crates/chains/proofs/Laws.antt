-- The tallies: what they are at the start and with one record more, that a record in no chain leaves them as they are, that they stay
-- small, and what is read off them. Assumes nothing.
use Prim.Native.Nat.{ℕ, zero, suc, ◌+◌, ◌≤◌, ◌<◌}
use native.Mathlib.Omega.{arith}
use mathlib.Core.Path.{◌≡◌, refl, sym, ap, ◌∙◌}
use mathlib.Core.Bool.{Bool, true, false, not, cond, ◌&&◌, ◌||◌, and-eq-true_iff, and-false, and_assoc, or_comm}
use mathlib.Core.Logic.{◌⊎◌, inl, inr}
use mathlib.Core.List.{List, [], ◌∷◌, ◌++◌}
use lib.Dec.{ltb, eqb}
use lib.ListN.{length, get_or, set, replicate, get_or-replicate, length-set, length-replicate}
use lib.Seq.{get_or-set_same, get_or-set_other}
use borrow.Author.Tests.{eqb-true, eq-eqb, lt-ltb}
use Rattle.std.specs.Int.{from_bool}
use Rattle.format.specs.Bytes.{Bytes}
use Rattle.format.specs.Fields.{are_digits, number_of}
use Rattle.rules.specs.Records.{is_type, is_publisher, only, any}
use Rattle.rules.specs.Publisher.{sequence_number, in_chain, chain, is_e, is_aq, e_spu, earlier_e}
use Rattle.rules.specs.Totals.{PR, MR, SR, publisher_share}
use Rattle.rules.specs.Chains.{any_below, any_chain, many_e, joined_by_opu, aq_after_paid_e, all_shares, counts_spu, paid_e, begun_by_spu, shareless}
use Rattle.rules.specs.Chains.{is11, is12, is13, is14}
use Rattle.rules.proofs.Lists.{any_last, count-last, sum-only-last, only-fewer, sum-most}
use Rattle.rules.proofs.Fields.{all-shares-most}
use Rattle.edits.specs.Readings.{PublisherReads}
use Rattle.edits.specs.declared.publisher.Publisher.{Publisher}
use Rattle.edits.specs.declared.publisher.Sequence.{Sequence}
use Rattle.edits.proofs.Sequences.{is_number, number-here, none_here}
use Rattle.chains.specs.declared.Chains.{Chains}
use Rattle.chains.specs.Tallies.{begun_by, own_shares, TallyOf, Tallied, Small}
use Rattle.chains.proofs.Growth.{chain-kept, chain_left, elsewhere, same_or_not, below_left, flag-more, many_more, joined-more, paid-more, begun_more}

-- ---- one record more

-- the entry of the chain that a record joins is set to what it is of that chain then; the other entries stand
tally-more : {A : Type 0} (l : List A) (beyond : A) (f : List Bytes → A) (k : ℕ) (ds : List Bytes) (r : Bytes) (v : A)
    → k < 100 → in_chain k r ≡ true → TallyOf l beyond f ds → v ≡ f (chain k ds ++ r ∷ []) → TallyOf (set l k v) beyond f (ds ++ r ∷ [])
tally-more l beyond f k ds r v h inside t e =
    record {
      long = length-set l k v ∙ t.long;
      at =
          λ j hj. same_or_not j k
          (λ q. rw (q, get_or-set_same l k v beyond (omega (arith, t.long)), chain-kept k ds r inside) e)
          (λ n. get_or-set_other l k j v beyond n ∙ t.at j hj ∙ ap f (sym (chain_left j ds r (elsewhere j k r inside n))));
    }

tally-left : {A : Type 0} (l : List A) (beyond : A) (f : List Bytes → A) (ds : List Bytes) (r : Bytes)
    → ((k : ℕ) → k < 100 → in_chain k r ≡ false) → TallyOf l beyond f ds → TallyOf l beyond f (ds ++ r ∷ [])
tally-left l beyond f ds r out t = record { long = t.long; at = λ k h. t.at k h ∙ ap f (sym (chain_left k ds r (out k h))) }

has-share : (a b c : ℕ) → ltb 0 (a + b + c) ≡ (ltb 0 a || ltb 0 b || ltb 0 c)
has-share (suc a) b c = rw (lt-ltb 0 (suc a + b + c) (omega arith), lt-ltb 0 (suc a) (omega arith))
has-share zero (suc b) c = rw (lt-ltb 0 (0 + suc b + c) (omega arith), lt-ltb 0 (suc b) (omega arith))
has-share zero zero c = let e : 0 + 0 + c ≡ c = omega arith in rw e

publisher-in : (k : ℕ) (r : Bytes) → in_chain k r ≡ true → is_publisher r ≡ true
publisher-in k r e = ((and-eq-true_iff _ _).0 ((and-eq-true_iff (is_publisher r && are_digits (sequence_number r)) _).0 e).0).0

in-chain : (k : ℕ) (r : Bytes) → is_publisher r ≡ true → are_digits (sequence_number r) ≡ true → number_of (sequence_number r) ≡ k
    → in_chain k r ≡ true
in-chain k r p d n = rw (p, d) (eq-eqb (number_of (sequence_number r)) k n)

-- a record as it was read: in the chain of its number, or in none
module _ (p : Publisher) (r : Bytes) (reads : PublisherReads p r) where
  pub chained : (k : ℕ) → p.sequence ≡ Sequence.Number k → in_chain k r ≡ true
  chained k e = let (d, n) = number-here r k (sym reads.sequence ∙ e) in in-chain k r reads.kind.1 d n

  pub unchained : is_number p.sequence ≡ false → are_digits (sequence_number r) ≡ false
  unchained e = none_here r (ap is_number (sym reads.sequence) ∙ e)

  pub summed : all_shares r ≡ p.shares.pr + p.shares.mr + p.shares.sr
  summed = rw reads.shares

-- no number: not two digits, or no record before it
pub numberless : {s : Sequence} → (s ≡ Sequence.NotDigits) ⊎ (s ≡ Sequence.NoRecord) → is_number s ≡ false
numberless (inl e) = ap is_number e
numberless (inr e) = ap is_number e

-- 1 for a flag that holds
pub flag_number : (b : Bool) → from_bool b ≡ cond b 1 0
flag_number true = refl
flag_number false = refl

-- as `join_chain` writes it
abbrev pub joined_by : Chains → ℕ → Bool → Bool → Bool → ℕ → Chains
joined_by c k spu e aq shares =
    record {
      begun = set c.begun k (cond (eqb (get_or c.begun k 0) 0) (cond spu 1 2) (get_or c.begun k 0));
      es = set c.es k (get_or c.es k 0 + cond e 1 0);
      own = set c.own k (get_or c.own k false || (spu && e));
      paid = set c.paid k (get_or c.paid k false || (e && ltb 0 shares));
      sums = set c.sums k (get_or c.sums k 0 + cond (spu && (e || aq)) shares 0);
      many = c.many || (e && ltb 0 (get_or c.es k 0));
      joined = c.joined || (not spu && eqb (get_or c.begun k 0) 1);
      kept = c.kept || (get_or c.paid k false && spu && aq);
    }

module _ (c : Chains) (k : ℕ) (h : k < 100) (ds : List Bytes) (r : Bytes) (t : Tallied c ds) (inside : in_chain k r ≡ true) where
  abbrev before : List Bytes
  before = chain k ds

  many-then : (c.many || (is_e r && ltb 0 (get_or c.es k 0))) ≡ is11 (ds ++ r ∷ [])
  unfolding is11
  many-then = flag-more many_e k ds r _ inside (rw (t.es.at k h) (many_more before r)) c.many h t.many

  joined-then : (c.joined || (not (is_type "SPU" r) && eqb (get_or c.begun k 0) 1)) ≡ is13 (ds ++ r ∷ [])
  unfolding is13
  joined-then = flag-more joined_by_opu k ds r _ inside (rw (t.begun.at k h) (joined-more before r (publisher-in k r inside))) c.joined h t.joined

  kept_then : (c.kept || (get_or c.paid k false && is_type "SPU" r && is_aq r)) ≡ is14 (ds ++ r ∷ [])
  unfolding is14
  kept_then =
      flag-more aq_after_paid_e k ds r _ inside
      (rw (t.paid.at k h, and_assoc (any paid_e before) (is_type "SPU" r) (is_aq r)) (paid-more before r)) c.kept h t.kept

  paid-then : (get_or c.paid k false || (is_e r && ltb 0 (all_shares r))) ≡ any paid_e (before ++ r ∷ [])
  paid-then =
      ap (λ (b : Bool). get_or c.paid k false || (is_e r && b)) (has-share (publisher_share PR r) (publisher_share MR r) (publisher_share SR r))
      ∙ ap (λ (b : Bool). b || paid_e r) (t.paid.at k h)
      ∙ sym (any_last paid_e before r)

  pub more : Tallied (joined_by c k (is_type "SPU" r) (is_e r) (is_aq r) (all_shares r)) (ds ++ r ∷ [])
  more =
      record {
        begun = tally-more c.begun 0 begun_by k ds r _ h inside t.begun (rw (t.begun.at k h) (sym (begun_more before r)));
        es = tally-more c.es 0 (λ rs. length (only is_e rs)) k ds r _ h inside t.es (rw (t.es.at k h) (sym (count-last is_e before r)));
        own = tally-more c.own false (any e_spu) k ds r _ h inside t.own (rw (t.own.at k h) (sym (any_last e_spu before r)));
        paid = tally-more c.paid false (any paid_e) k ds r _ h inside t.paid paid-then;
        sums =
            tally-more c.sums 0 own_shares k ds r _ h inside t.sums
            (rw (t.sums.at k h) (sym (sum-only-last counts_spu all_shares before r)));
        many = many-then;
        joined = joined-then;
        kept = kept_then;
      }

-- the same, with the record's properties as the walk knows them
pub with-more : (c : Chains) (k : ℕ) (ds : List Bytes) (r : Bytes) (spu e aq : Bool) (shares : ℕ) → k < 100 → Tallied c ds → in_chain k r ≡ true
    → is_type "SPU" r ≡ spu → is_e r ≡ e → is_aq r ≡ aq → all_shares r ≡ shares → Tallied (joined_by c k spu e aq shares) (ds ++ r ∷ [])
with-more c k ds r spu e aq shares h t inside p q s n = rw (← p, ← q, ← s, ← n) (more c k h ds r t inside)

-- ---- a record in no chain

module _ (c : Chains) (ds : List Bytes) (r : Bytes) (t : Tallied c ds) where
  flag-left : (p : List Bytes → Bool) (flag : Bool) → ((k : ℕ) → k < 100 → in_chain k r ≡ false) → flag ≡ any_chain p ds
      → flag ≡ any_chain p (ds ++ r ∷ [])
  flag-left p flag out e = e ∙ sym (below_left p ds r 100 out)

  pub outside : ((k : ℕ) → k < 100 → in_chain k r ≡ false) → Tallied c (ds ++ r ∷ [])
  unfolding is11 is13 is14
  outside out =
      record {
        begun = tally-left c.begun 0 begun_by ds r out t.begun;
        es = tally-left c.es 0 (λ rs. length (only is_e rs)) ds r out t.es;
        own = tally-left c.own false (any e_spu) ds r out t.own;
        paid = tally-left c.paid false (any paid_e) ds r out t.paid;
        sums = tally-left c.sums 0 own_shares ds r out t.sums;
        many = flag-left many_e c.many out t.many;
        joined = flag-left joined_by_opu c.joined out t.joined;
        kept = flag-left aq_after_paid_e c.kept out t.kept;
      }

  -- it is no publisher
  pub no-publisher : is_publisher r ≡ false → Tallied c (ds ++ r ∷ [])
  no-publisher e = outside (λ k h. rw e)

  -- its sequence number is not two digits
  pub no_number : are_digits (sequence_number r) ≡ false → Tallied c (ds ++ r ∷ [])
  no_number e = outside (λ k h. rw (e, and-false (is_publisher r)))

-- ---- no records yet

tally-none : {A : Type 0} (x : A) (f : List Bytes → A) → f [] ≡ x → TallyOf (replicate 100 x) x f []
unfolding chain
tally-none {A} x f e = record { long = length-replicate 100 x; at = λ k h. get_or-replicate {A = A} 100 k x x h ∙ sym e }

pub begins : Tallied
    (record {
      begun = replicate 100 0;
      es = replicate 100 0;
      own = replicate 100 false;
      paid = replicate 100 false;
      sums = replicate 100 0;
      many = false;
      joined = false;
      kept = false;
    })
    []
unfolding chain is11 is13 is14
begins =
    record {
      begun = tally-none 0 begun_by refl;
      es = tally-none 0 (λ rs. length (only is_e rs)) refl;
      own = tally-none false (any e_spu) refl;
      paid = tally-none false (any paid_e) refl;
      sums = tally-none 0 own_shares refl;
      many = refl;
      joined = refl;
      kept = refl;
    }

-- ---- the tallies of a file's records are small

chain-fewer : (k : ℕ) (ds : List Bytes) → length (chain k ds) ≤ length ds
unfolding chain
chain-fewer k ds = only-fewer (in_chain k) ds

pub small : (c : Chains) (ds : List Bytes) → Tallied c ds → length ds ≤ 131072 → Small c
small c ds t h =
    record {
      es≤ = λ k b. rw (t.es.at k b) (omega (arith, only-fewer is_e (chain k ds), chain-fewer k ds));
      sums≤ =
          λ k b. rw (t.sums.at k b)
          (omega (arith, sum-most all_shares 299997 all-shares-most (only counts_spu (chain k ds)), only-fewer counts_spu (chain k ds), chain-fewer k ds));
    }

-- ---- an E SPU in the chain of a record, for 32

pub knows : (k : ℕ) (r : Bytes) → in_chain k r ≡ true → (own : List Bool) (ds : List Bytes) → k < 100 → TallyOf own false (any e_spu) ds
    → get_or own k false ≡ earlier_e ds r
unfolding earlier_e
knows k r inside own ds h t =
    let b = (and-eq-true_iff (is_publisher r && are_digits (sequence_number r)) (eqb (number_of (sequence_number r)) k)).0 inside in
    let d : are_digits (sequence_number r) ≡ true = ((and-eq-true_iff (is_publisher r) (are_digits (sequence_number r))).0 b.0).1 in
    rw (d, eqb-true (number_of (sequence_number r)) k b.1) (t.at k h)

-- a record in no chain
pub knows-none : (r : Bytes) (ds : List Bytes) → are_digits (sequence_number r) ≡ false → earlier_e ds r ≡ false
unfolding earlier_e
knows-none r ds e = rw e

-- ---- 12, as `shareless` looks for it

-- some chain of a number below n
abbrev pub is_found_below : List ℕ → List ℕ → ℕ → Bool
is_found_below begun sums zero = false
is_found_below begun sums (suc n) = is_found_below begun sums n || (eqb (get_or begun n 0) 1 && eqb (get_or sums n 0) 0)

begun-spu : (c : List Bytes) → eqb (begun_by c) 1 ≡ begun_by_spu c
begun-spu [] = refl
begun-spu (r ∷ c) = one-or-two (is_type "SPU" r)
  where
    one-or-two : (s : Bool) → eqb (cond s 1 2) 1 ≡ s
    one-or-two true = refl
    one-or-two false = refl

found_below : (begun sums : List ℕ) (ds : List Bytes) → TallyOf begun 0 begun_by ds → TallyOf sums 0 own_shares ds → (n : ℕ) → n ≤ 100
    → is_found_below begun sums n ≡ any_below n shareless ds
found_below begun sums ds b t zero h = refl
found_below begun sums ds b t (suc n) h =
    rw (b.at n h, t.at n h, begun-spu (chain n ds), found_below begun sums ds b t n (omega arith))
    (or_comm (any_below n shareless ds) (shareless (chain n ds)))

pub found-is : (begun sums : List ℕ) (ds : List Bytes) → TallyOf begun 0 begun_by ds → TallyOf sums 0 own_shares ds
    → is_found_below begun sums 100 ≡ is12 ds
unfolding is12
found-is begun sums ds b t = found_below begun sums ds b t 100 (omega arith)
