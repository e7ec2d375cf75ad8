-- The bits of a number counted and searched, the set of a list read back, and findings that do not hold after a list.
-- Assumes nothing.
use mathlib.Core.Path.{◌≡◌, refl, sym, ap, ◌∙◌}
use mathlib.Core.Bool.{Bool, true, false, cond}
use mathlib.Core.List.{List, [], ◌∷◌, ◌++◌}
use Prim.Native.Nat.{ℕ, zero, suc, max, ◌+◌, ◌-◌, ◌*◌, ◌/◌, ◌%◌, ◌^◌, ◌<◌, ◌≤◌}
use native.Mathlib.Numerals.{add-one}
use mir.Val.{bool_byte}
use native.Mathlib.Nat.{pow-suc, pow-le-pow_right, mul-add, mul-le-mul_left, mul_assoc, mul_comm, mul-one, not-suc-le-zero, le_of_suc-le-suc}
use native.Mathlib.Omega.{arith}
use lib.Dec.{leb, eqb, lit<, leb-suc-zero}
use lib.Count.{ones, count_trailing_zeros, ones_step, under}
use lib.ListN.{length, replicate, drop, get_or, drop_of_length-le, length-append, length-replicate}
use lib.Seq.{drop-cons}
use borrow.Author.Tests.{leb-true, leb-false, le-leb, lt-leb}
use Rattle.format.proofs.Tests.{by_cases}
use Rattle.rules.specs.Findings.{set_of, places, count_of, lowest_of, verdict_of, level, larger, worst_from, worst}
use Rattle.rules.proofs.Verdicts.{larger-zero}
use Rattle.rules.proofs.Bits.{places-set}
use Rattle.findings.specs.Many.{many}

-- ---- counted and searched, by the lowest bit and the others

bit : (m : ℕ) → m < 2 → m ≡ cond (eqb m 1) 1 0
bit zero h = refl
bit (suc zero) h = refl
bit (suc (suc m)) h = absurd (omega arith)

under-bit : (m t : ℕ) → m < 2 → under m t ≡ cond (eqb m 1) 0 (suc t)
under-bit zero t h = refl
under-bit (suc zero) t h = refl
under-bit (suc (suc m)) t h = absurd (omega arith)

pub ones-count : (k n : ℕ) → n < 2 ^ k → ones n ≡ count_of (places k n)
unfolding ones places count_of
ones-count zero n h = let e : n ≡ 0 = omega arith in rw e refl
ones-count (suc k) n h =
    let g : n < 2 ^ k * 2 = rw pow-suc at h in
    ones_step n ∙ rw (ones-count k (n / 2) (omega arith)) (ap (λ (x : ℕ). x + count_of (places k (n / 2))) (bit (n % 2) (omega arith)))

pub zeros-lowest : (k n : ℕ) → count_trailing_zeros k n ≡ lowest_of (places k n)
unfolding count_trailing_zeros places lowest_of
zeros-lowest zero n = refl
zeros-lowest (suc k) n = rw (zeros-lowest k (n / 2)) (under-bit (n % 2) (lowest_of (places k (n / 2))) (omega arith))

-- ---- the set of a list, read back

count_none : (k : ℕ) → count_of (replicate k false) ≡ 0
unfolding count_of
count_none zero = refl
count_none (suc k) = omega (arith, count_none k)

count-padded : (bs : List Bool) (k : ℕ) → count_of (bs ++ replicate k false) ≡ count_of bs
unfolding count_of
count-padded [] k = count_none k
count-padded (b ∷ bs) k = ap (λ (n : ℕ). cond b 1 0 + n) (count-padded bs k)

lowest-padded : (bs : List Bool) (k : ℕ) → 0 < set_of bs → lowest_of (bs ++ replicate k false) ≡ lowest_of bs
unfolding lowest_of set_of
lowest-padded [] k h = absurd (not-suc-le-zero h)
lowest-padded (true ∷ bs) k h = refl
lowest-padded (false ∷ bs) k h = ap suc (lowest-padded bs k (omega arith))

-- so `count` and `lowest` of a set say what holds in the list
module _ (bs : List Bool) (fits : length bs ≤ 64) where
  pub count-of-set : count_of (places 64 (set_of bs)) ≡ count_of bs
  count-of-set = ap count_of (places-set 64 bs fits) ∙ count-padded bs (64 - length bs)

  pub lowest-of-set : 0 < set_of bs → lowest_of (places 64 (set_of bs)) ≡ lowest_of bs
  lowest-of-set h = ap lowest_of (places-set 64 bs fits) ∙ lowest-padded bs (64 - length bs) h

-- ---- findings after a list that do not hold leave its set as it is

set-none : (k : ℕ) → set_of (replicate k false) ≡ 0
unfolding set_of
set-none zero = refl
set-none (suc k) = omega (arith, set-none k)

pub set-padded : (bs : List Bool) (k : ℕ) → set_of (bs ++ replicate k false) ≡ set_of bs
unfolding set_of
set-padded [] k = set-none k
set-padded (b ∷ bs) k = ap (λ (s : ℕ). cond b 1 0 + 2 * s) (set-padded bs k)

-- ---- a row of findings packed from its end, and moved up by the places before it

bit-most : (b : Bool) → cond b 1 0 ≤ 1
bit-most true = omega arith
bit-most false = omega arith

pub set_below : (k : ℕ) (bs : List Bool) → length bs ≤ k → set_of bs < 2 ^ k
unfolding set_of
set_below zero [] h = omega arith
set_below zero (b ∷ bs) h = absurd (not-suc-le-zero h)
set_below (suc k) [] h = rw pow-suc (omega (arith, set_below k [] (omega arith)))
set_below (suc k) (b ∷ bs) h = rw pow-suc (omega (arith, set_below k bs (le_of_suc-le-suc h), bit-most b))

moved_up : (k : ℕ) (bs : List Bool) → set_of bs * 2 ^ k ≡ set_of (replicate k false ++ bs)
unfolding set_of
moved_up zero bs = mul-one (set_of bs)
moved_up (suc k) bs = rw pow-suc (sym (mul_assoc (set_of bs) (2 ^ k) 2) ∙ omega (arith, moved_up k bs))

-- ---- the largest verdict of a row of findings, from its end

-- what the findings from n on bring
abbrev verdicts_from : ℕ → ℕ → List ℕ
verdicts_from n zero = []
verdicts_from n (suc k) = verdict_of (level n) ∷ verdicts_from (suc n) k

verdict-from : (n k i : ℕ) → i < k → get_or (verdicts_from n k) i 0 ≡ verdict_of (level (n + i))
verdict-from n zero i h = absurd (not-suc-le-zero h)
verdict-from n (suc k) zero h = ap (λ (x : ℕ). verdict_of (level x)) (let e : n ≡ n + 0 = omega arith in e)
verdict-from n (suc k) (suc i) h =
    verdict-from (suc n) k i (le_of_suc-le-suc h) ∙ ap (λ (x : ℕ). verdict_of (level x)) (let e : suc n + i ≡ n + suc i = omega arith in e)

-- a table of all of them
pub verdict-at : (table : List ℕ) → table ≡ verdicts_from 0 many → (n : ℕ) → n < many → get_or table n 0 ≡ verdict_of (level n)
verdict-at table e n h =
    ap (λ (x : List ℕ). get_or x n 0) e ∙ verdict-from 0 many n h ∙ ap (λ (x : ℕ). verdict_of (level x)) (let z : 0 + n ≡ n = omega arith in z)

pub worst-late : (n k : ℕ) (bs : List Bool) → worst_from n (replicate k false ++ bs) ≡ worst_from (n + k) bs
worst-late n zero bs = ap (λ (x : ℕ). worst_from x bs) (let e : n ≡ n + 0 = omega arith in e)
worst-late n (suc k) bs =
    larger-zero (worst_from (suc n) (replicate k false ++ bs))
    ∙ worst-late (suc n) k bs
    ∙ ap (λ (x : ℕ). worst_from x bs) (let e : suc n + k ≡ n + suc k = omega arith in e)

-- ---- one row of findings after another

pub set_after : (bs cs : List Bool) → set_of (bs ++ cs) ≡ set_of bs + 2 ^ length bs * set_of cs
unfolding set_of
set_after [] cs = omega arith
set_after (b ∷ bs) cs =
    let e : 2 ^ length bs * 2 * set_of cs ≡ 2 * (2 ^ length bs * set_of cs) =
    ap (λ (x : ℕ). x * set_of cs) (mul_comm (2 ^ length bs) 2) ∙ mul_assoc 2 (2 ^ length bs) (set_of cs) in
    rw pow-suc (omega (arith, e, set_after bs cs))

pub one-or-none : (b : Bool) → bool_byte b ≡ cond b 1 0
one-or-none true = refl
one-or-none false = refl

pub one-most : (b : Bool) → bool_byte b ≤ 1
one-most true = omega arith
one-most false = omega arith

pub none-left : (bs : List Bool) → length bs ≡ 0 → bs ≡ []
none-left [] h = refl
none-left (b ∷ bs) h = absurd (omega arith)

-- the set of those taken, from the last on, and the others make the set of all
abbrev pub Packs : List Bool → ℕ → List Bool → Type 0
Packs bs set left = set_of left + 2 ^ length left * set ≡ set_of bs

module _ (bs : List Bool) (set : ℕ) where
  pub packs-none : Packs bs 0 bs
  packs-none = omega arith

  pub packs-one : (left : List Bool) (b : Bool) → Packs bs set (left ++ b ∷ []) → Packs bs (2 * set + cond b 1 0) left
  unfolding set_of
  packs-one left b inv =
      let p = 2 ^ length left in
      let long : length (left ++ b ∷ []) ≡ suc (length left) = simp length-append (omega arith) in
      let twice : p * 2 * set ≡ p * (2 * set) = mul_assoc p 2 set in
      let sum : p * (2 * set + cond b 1 0) ≡ p * (2 * set) + p * cond b 1 0 = mul-add p (2 * set) (cond b 1 0) in
      omega (arith, sum, twice, rw (long, pow-suc, set_after left (b ∷ [])) at inv)

  pub packs-fit : (left : List Bool) → length bs ≤ 62 → Packs bs set left → set < 2 ^ 62
  packs-fit left fits inv =
      let one : 1 ≤ 2 ^ length left = pow-le-pow_right {n = 2} (lit< tt) {i = 0} {j = length left} (omega arith) in
      omega (arith, set_below 62 bs fits, inv, mul-le-mul_left {m = 1} {n = 2 ^ length left} set one, mul_comm set (2 ^ length left))

pub packed : (bs : List Bool) (set first : ℕ) → first + length bs ≤ 64 → Packs bs set [] → set * 2 ^ first % 2 ^ 64 ≡ set_of (replicate first false ++ bs)
unfolding set_of
packed bs set first fits inv =
    let below = set_below 64 (replicate first false ++ bs) (omega (arith, length-append (replicate first false) bs, length-replicate first false)) in
    let all : set ≡ set_of bs = omega (arith, inv) in
    rw (all, moved_up first bs) (omega (arith, below))

larger-assoc : (a b c : ℕ) → larger (larger a b) c ≡ larger a (larger b c)
larger-assoc a b c =
    by_cases (leb a b)
    (λ p. by_cases (leb b c)
    (λ q. rw (p, q, le-leb a c (omega (arith, leb-true a b p, leb-true b c q))))
    (λ q. rw (q, p) (rw q)))
    (λ p. by_cases (leb b c)
    (λ q. rw (p, q))
    (λ q. rw (p, q, lt-leb a c (omega (arith, leb-false a b p, leb-false b c q))) (rw p)))

pub worst-after : (n : ℕ) (bs cs : List Bool) → worst_from n (bs ++ cs) ≡ larger (worst_from n bs) (worst_from (n + length bs) cs)
worst-after n [] cs =
    ap (λ (x : ℕ). worst_from x cs) (let e : n ≡ n + 0 = omega arith in e) ∙ sym (larger-zero (worst_from (n + 0) cs))
worst-after n (b ∷ bs) cs =
    let e : suc n + length bs ≡ n + suc (length bs) = omega arith in
    let here = cond b (verdict_of (level n)) 0 in
    ap (larger here) (worst-after (suc n) bs cs ∙ ap (λ (x : ℕ). larger (worst_from (suc n) bs) (worst_from x cs)) e)
    ∙ sym (larger-assoc here (worst_from (suc n) bs) (worst_from (n + suc (length bs)) cs))

-- ---- the largest verdict of a row, from its first finding on

larger-zero-right : (a : ℕ) → larger a 0 ≡ a
larger-zero-right zero = refl
larger-zero-right (suc a) = rw (leb-suc-zero a)

-- with the largest of the others it is the largest of all
abbrev pub Brings : ℕ → List Bool → ℕ → ℕ → Type 0
Brings first bs most i = (i ≤ length bs) × (larger most (worst_from (first + i) (drop i bs)) ≡ worst_from first bs)

module _ (first : ℕ) (bs : List Bool) (most i : ℕ) where
  pub brings-none : Brings first bs 0 0
  brings-none =
      (omega arith, larger-zero (worst_from (first + 0) bs) ∙ ap (λ (x : ℕ). worst_from x bs) (let e : first + 0 ≡ first = omega arith in e))

  pub brings-one : (v : ℕ) → i < length bs → v ≡ verdict_of (level (first + i)) → Brings first bs most i
      → Brings first bs (larger most (cond (get_or bs i false) v 0)) (i + 1)
  brings-one v h e inv =
      let q : suc (first + i) ≡ first + suc i = omega arith in
      (omega arith, rw (add-one, larger-assoc, e, ← q) (rw (drop-cons bs i false h) at inv.1))

  pub brought : length bs ≤ i → Brings first bs most i → most ≡ worst (replicate first false ++ bs)
  unfolding worst
  brought h inv =
      sym (larger-zero-right most) ∙ (rw (drop_of_length-le bs h) at inv.1) ∙ ap (λ (x : ℕ). worst_from x bs) (let e : first ≡ 0 + first = omega arith in e)
      ∙ sym (worst-late 0 first bs)

pub max-larger : (a b : ℕ) → max a b ≡ larger a b
max-larger a b = by_cases (leb a b) (λ p. rw p (omega (arith, leb-true a b p))) (λ p. rw p (omega (arith, leb-false a b p)))
