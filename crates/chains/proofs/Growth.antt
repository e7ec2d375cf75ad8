-- One publisher record more: which chain it joins, and what findings 11, 13 and 14 ask of that chain then.
-- Assumes nothing.
use Prim.Native.Nat.{ℕ, zero, suc, ◌+◌, ◌<◌}
use native.Mathlib.Omega.{arith}
use mathlib.Core.Path.{◌≡◌, refl, sym, ap, ◌∙◌}
use mathlib.Core.Bool.{Bool, true, false, not, cond, ◌&&◌, ◌||◌, and-eq-true_iff, and-true, and-false, or-true, or-false, or_assoc, or_comm}
use mathlib.Core.List.{List, [], ◌∷◌, ◌++◌}
use lib.Dec.{ltb, eqb}
use lib.ListN.{length}
use borrow.Author.Tests.{eqb-true, eqb-false, ne_eqb, lt-ltb}
use Rattle.format.specs.Ascii.{ascii}
use Rattle.format.specs.Bytes.{Bytes, same_bytes}
use Rattle.format.specs.Fields.{are_digits, number_of}
use Rattle.rules.specs.Records.{is_type, is_publisher, only, any}
use Rattle.rules.specs.Publisher.{sequence_number, in_chain, chain, is_e, aq_spu}
use Rattle.rules.specs.Chains.{any_below, any_chain, many_e, joined_by_opu, paid_e, aq_after_paid_e}
use Rattle.rules.proofs.Lists.{only_kept, only-left, any_last, count-last}
use Rattle.rules.proofs.Types.{of_two}
use Rattle.chains.specs.Tallies.{begun_by}

-- ---- the chain that a record joins, and the others

pub chain-kept : (k : ℕ) (ds : List Bytes) (r : Bytes) → in_chain k r ≡ true → chain k (ds ++ r ∷ []) ≡ chain k ds ++ r ∷ []
unfolding chain
chain-kept k ds r e = only_kept (in_chain k) ds r e

pub chain_left : (k : ℕ) (ds : List Bytes) (r : Bytes) → in_chain k r ≡ false → chain k (ds ++ r ∷ []) ≡ chain k ds
unfolding chain
chain_left k ds r e = only-left (in_chain k) ds r e

-- a record in chain k is in no other
in-other : (a : Bool) (n k j : ℕ) → (a && eqb n k) ≡ true → (j ≡ k → ⊥) → (a && eqb n j) ≡ false
in-other a n k j e d =
    let q : n ≡ k = eqb-true n k ((and-eq-true_iff a (eqb n k)).0 e).1 in
    rw (ne_eqb n j (λ p. d (sym p ∙ q))) (and-false a)

pub elsewhere : (j k : ℕ) (r : Bytes) → in_chain k r ≡ true → (j ≡ k → ⊥) → in_chain j r ≡ false
elsewhere j k r e d = in-other (is_publisher r && are_digits (sequence_number r)) (number_of (sequence_number r)) k j e d

pub same_or_not : {P : Type 0} (j k : ℕ) → (j ≡ k → P) → ((j ≡ k → ⊥) → P) → P
same_or_not {P} j k f g = go (eqb j k) refl
  where
    go : (b : Bool) → eqb j k ≡ b → P
    go true e = f (eqb-true j k e)
    go false e = g (eqb-false j k e)

-- ---- a property that some chain has

module _ (p : List Bytes → Bool) (ds : List Bytes) (r : Bytes) where
  -- a record in none of the chains below n changes nothing there
  pub below_left : (n : ℕ) → ((j : ℕ) → j < n → in_chain j r ≡ false) → any_below n p (ds ++ r ∷ []) ≡ any_below n p ds
  below_left zero out = refl
  below_left (suc n) out = rw (chain_left n ds r (out n (omega arith)), below_left n (λ j h. out j (omega arith)))

-- Where a record more gives its chain the property p just where q holds, some chain has p then just where some had it before or q holds.
module _ (p : List Bytes → Bool) (k : ℕ) (ds : List Bytes) (r : Bytes) (q : Bool) (inside : in_chain k r ≡ true)
    (grown : p (chain k ds ++ r ∷ []) ≡ (p (chain k ds) || q)) where
  below : any_below k p (ds ++ r ∷ []) ≡ any_below k p ds
  below = below_left p ds r k (λ j h. elsewhere j k r inside (λ e. omega arith))

  through : (n : ℕ) → k < n → any_below n p (ds ++ r ∷ []) ≡ (any_below n p ds || q)
  through zero h = absurd (omega arith)
  through (suc n) h =
      same_or_not n k
      (λ e. rw (e, chain-kept k ds r inside, grown, below) (swapped (p (chain k ds)) q (any_below k p ds)))
      (λ d. rw (chain_left n ds r (elsewhere n k r inside d), through n (omega (arith, d))) (sym (or_assoc (p (chain n ds)) (any_below n p ds) q)))
    where
      swapped : (a b c : Bool) → ((a || b) || c) ≡ ((a || c) || b)
      swapped a b c = or_assoc a b c ∙ ap (λ x. a || x) (or_comm b c) ∙ sym (or_assoc a c b)

  -- so a flag that says whether some chain has it need only be told of q
  pub flag-more : (flag : Bool) → k < 100 → flag ≡ any_chain p ds → (flag || q) ≡ any_chain p (ds ++ r ∷ [])
  flag-more flag h e = ap (λ (b : Bool). b || q) e ∙ sym (through 100 h)

-- ---- what a record more makes of its chain

-- 11
more-than-one : (b : Bool) (n : ℕ) → ltb 1 (n + cond b 1 0) ≡ (ltb 1 n || (b && ltb 0 n))
more-than-one true zero = refl
more-than-one true (suc n) = rw (lt-ltb 1 (suc n + 1) (omega arith), lt-ltb 0 (suc n) (omega arith)) (sym (or-true (ltb 1 (suc n))))
more-than-one false n = let e : n + 0 ≡ n = omega arith in rw e (sym (or-false (ltb 1 n)))

pub many_more : (c : List Bytes) (r : Bytes) → many_e (c ++ r ∷ []) ≡ (many_e c || (is_e r && ltb 0 (length (only is_e c))))
many_more c r = rw (count-last is_e c r) (more-than-one (is_e r) (length (only is_e c)))

-- 13
opu-is : (r : Bytes) → is_publisher r ≡ true → is_type "OPU" r ≡ not (is_type "SPU" r)
opu-is r e = of_two "SPU" "OPU" r (λ t. same_bytes (ascii "OPU") t ≡ not (same_bytes (ascii "SPU") t)) refl refl e

joins : (b a s : Bool) → (b && (a || not s)) ≡ (b && a || (not s && eqb (cond b 1 2) 1))
joins true a s = rw (and-true (not s))
joins false a s = sym (and-false (not s))

pub joined-more : (c : List Bytes) (r : Bytes) → is_publisher r ≡ true
    → joined_by_opu (c ++ r ∷ []) ≡ (joined_by_opu c || (not (is_type "SPU" r) && eqb (begun_by c) 1))
joined-more [] r e = rw (opu-is r e) (alone (is_type "SPU" r))
  where
    alone : (s : Bool) → (s && (not s || false)) ≡ (not s && false)
    alone true = refl
    alone false = refl
joined-more (q ∷ c) r e =
    ap (λ (a : Bool). is_type "SPU" q && a) (any_last (is_type "OPU") (q ∷ c) r ∙ ap (λ (o : Bool). any (is_type "OPU") (q ∷ c) || o) (opu-is r e))
    ∙ joins (is_type "SPU" q) (any (is_type "OPU") (q ∷ c)) (is_type "SPU" r)

-- 14
pub paid-more : (c : List Bytes) (r : Bytes) → aq_after_paid_e (c ++ r ∷ []) ≡ (aq_after_paid_e c || (any paid_e c && aq_spu r))
paid-more [] r = or-false (paid_e r && false) ∙ and-false (paid_e r)
paid-more (q ∷ c) r =
    rw (any_last aq_spu c r, paid-more c r) (regrouped (paid_e q) (any aq_spu c) (aq_spu r) (aq_after_paid_e c) (any paid_e c))
  where
    regrouped : (p a s b e : Bool) → (p && (a || s) || (b || e && s)) ≡ (p && a || b || (p || e) && s)
    regrouped true true s b e = refl
    regrouped true false true b e = sym (or-true b)
    regrouped true false false b e = ap (λ x. b || x) (and-false e)
    regrouped false a s b e = refl

pub begun_more : (c : List Bytes) (r : Bytes) → begun_by (c ++ r ∷ []) ≡ cond (eqb (begun_by c) 0) (cond (is_type "SPU" r) 1 2) (begun_by c)
begun_more [] r = refl
begun_more (q ∷ c) r = stays (is_type "SPU" q)
  where
    stays : (s : Bool) → ◌≡◌ {A = ℕ} (cond s 1 2) (cond (eqb (cond s 1 2) 0) (cond (is_type "SPU" r) 1 2) (cond s 1 2))
    stays true = refl
    stays false = refl
