-- Counts of records by finding and by level, with one record more. Assumes nothing.
use Prim.Native.Nat.{ℕ, zero, suc, ◌+◌, ◌-◌, ◌*◌, ◌/◌, ◌%◌, ◌^◌, ◌≤◌, ◌<◌}
use native.Mathlib.Omega.{arith}
use mathlib.Core.Path.{◌≡◌, refl, sym, ap, ◌∙◌, subst}
use mathlib.Core.Bool.{Bool, true, false, cond}
use mathlib.Core.List.{List, [], ◌∷◌, ◌++◌}
use native.Mathlib.Nat.{pow-suc, not-suc-le-zero, le_of_suc-le-suc}
use lib.Count.{under, count_trailing_zeros}
use lib.Dec.{eqb, eqb-zero-suc, eqb-suc-zero, eqb-suc-suc}
use lib.ListN.{length, replicate, set, get_or, length-set}
use Rattle.format.specs.Bytes.{All}
use Rattle.format.specs.Structure.{most_records}
use Rattle.rules.specs.Findings.{set_of, places, worst}
use Rattle.rules.specs.Sheet.{how_many, each, carries, counts_by_finding}
use Rattle.rules.proofs.Bits.{places-set}
use Rattle.rules.proofs.Lists.{count-last}
use Rattle.rules.proofs.Counts.{how_many-most, each_same}
use Rattle.rules.proofs.Verdicts.{no-finding}
use Rattle.figures.specs.Counted.{counts_by_level, Counts, Few, plus_bits}

-- none is more than a file may have
pub few-at : (ns : List ℕ) → All (λ n. n ≤ most_records) ns → (k : ℕ) → get_or ns k 0 ≤ most_records
few-at [] few k = omega arith
few-at (n ∷ ns) few zero = few.0
few-at (n ∷ ns) few (suc k) = few-at ns few.1 k

-- ---- by finding

-- one more where the set has the place
plus_none : (ns : List ℕ) (k : ℕ) → plus_bits ns (replicate k false) ≡ ns
unfolding plus_bits
plus_none [] k = refl
plus_none (n ∷ ns) zero = refl
plus_none (n ∷ ns) (suc k) = rw (plus_none ns k) (ap (λ m. m ∷ ns) (let e : n + 0 ≡ n = omega arith in e))

plus-each : (n : ℕ) (f : ℕ → ℕ) (s : List Bool) → plus_bits (each n f) s ≡ each n (λ k. f k + cond (get_or s k false) 1 0)
unfolding plus_bits
plus-each zero f s = refl
plus-each (suc n) f [] = each_same (suc n) f (λ k. f k + 0) (λ k. omega arith)
plus-each (suc n) f (b ∷ s) = ap (λ l. (f 0 + cond b 1 0) ∷ l) (plus-each n (λ k. f (suc k)) s)

-- places beyond a list are empty
padded : (ns : List ℕ) (s : List Bool) (k : ℕ) → plus_bits ns (s ++ replicate k false) ≡ plus_bits ns s
unfolding plus_bits
padded [] s k = refl
padded (n ∷ ns) [] k = plus_none (n ∷ ns) k ∙ sym (empty (n ∷ ns))
  where
    empty : (ns : List ℕ) → plus_bits ns [] ≡ ns
    empty [] = refl
    empty (n ∷ ns) = refl
padded (n ∷ ns) (b ∷ s) k = ap (λ l. (n + cond b 1 0) ∷ l) (padded ns s k)

pub finding-more : (sets : List (List Bool)) (s : List Bool) → length s ≤ 64
    → plus_bits (counts_by_finding sets) (places 64 (set_of s)) ≡ counts_by_finding (sets ++ s ∷ [])
unfolding counts_by_finding
finding-more sets s short =
    ap (plus_bits (counts_by_finding sets)) (places-set 64 s short)
    ∙ padded (counts_by_finding sets) s (64 - length s)
    ∙ plus-each 64 (λ n. how_many (carries n) sets) s
    ∙ each_same 64 _ _ (λ n. sym (count-last (carries n) sets s))

pub length-bits : (ns : List ℕ) (bs : List Bool) → length (plus_bits ns bs) ≡ length ns
unfolding plus_bits
length-bits [] bs = refl
length-bits (n ∷ ns) [] = refl
length-bits (n ∷ ns) (b ∷ bs) = ap suc (length-bits ns bs)

-- ---- the loop over a set, from its lowest finding on: what is left of it is still owed

pub record Owing (fs₀ : List ℕ) (bits : ℕ) (fs : List ℕ) (left : ℕ) : Type 0 where
  pub length : length fs ≡ 64
  pub below : left < 2 ^ 64
  pub owed : plus_bits fs (places 64 left) ≡ plus_bits fs₀ (places 64 bits)

-- the lowest place of a number that is not 0 is one of its places, and can be taken off
lowest-place : (w n : ℕ) → n < 2 ^ w → 0 < n → (count_trailing_zeros w n < w) × (2 ^ count_trailing_zeros w n ≤ n)
unfolding count_trailing_zeros
lowest-place zero n h some = absurd (omega (arith, h))
lowest-place (suc w) n h some = lowest (λ more. lowest-place w (n / 2) half more) (n % 2) refl
  where
    half : n / 2 < 2 ^ w
    half = let g : n < 2 ^ w * 2 = rw (pow-suc 2 w) at h in omega (arith, g)

    lowest : (0 < n / 2 → (count_trailing_zeros w (n / 2) < w) × (2 ^ count_trailing_zeros w (n / 2) ≤ n / 2)) → (m : ℕ) → n % 2 ≡ m → (under m (count_trailing_zeros w (n / 2)) < suc w) × (2 ^ under m (count_trailing_zeros w (n / 2)) ≤ n)
    lowest inner zero e =
        let (low, le) = inner (omega (arith, e)) in
        (omega (arith, low), rw (pow-suc 2 (count_trailing_zeros w (n / 2))) (omega (arith, le)))
    lowest inner (suc m) e = (omega arith, omega arith)

-- counted, it is no longer owed
lowest-counted : (w : ℕ) (fs : List ℕ) (n : ℕ) → n < 2 ^ w → 0 < n
    → plus_bits (set fs (count_trailing_zeros w n) (get_or fs (count_trailing_zeros w n) 0 + 1)) (places w (n - 2 ^ count_trailing_zeros w n)) ≡ plus_bits fs (places w n)
unfolding plus_bits places count_trailing_zeros
lowest-counted zero fs n h some = absurd (omega (arith, h))
lowest-counted (suc w) [] n h some = refl
lowest-counted (suc w) (f ∷ fs) n h some = counted (λ more. lowest-counted w fs (n / 2) half more) (n % 2) refl
  where
    half : n / 2 < 2 ^ w
    half = let g : n < 2 ^ w * 2 = rw (pow-suc 2 w) at h in omega (arith, g)

    counted : (0 < n / 2 → plus_bits (set fs (count_trailing_zeros w (n / 2)) (get_or fs (count_trailing_zeros w (n / 2)) 0 + 1))
        (places w (n / 2 - 2 ^ count_trailing_zeros w (n / 2))) ≡ plus_bits fs (places w (n / 2))) → (m : ℕ) → n % 2 ≡ m
        → plus_bits (set (f ∷ fs) (under m (count_trailing_zeros w (n / 2))) (get_or (f ∷ fs) (under m (count_trailing_zeros w (n / 2))) 0 + 1))
        (places (suc w) (n - 2 ^ under m (count_trailing_zeros w (n / 2))))
        ≡ (f + cond (eqb (n % 2) 1) 1 0) ∷ plus_bits fs (places w (n / 2))
    counted inner zero e =
        let k = count_trailing_zeros w (n / 2) in
        let le = (lowest-place w (n / 2) half (omega (arith, e))).1 in
        let even : (n - 2 ^ k * 2) % 2 ≡ 0 = omega (arith, e, le) in
        let rest : (n - 2 ^ k * 2) / 2 ≡ n / 2 - 2 ^ k = omega (arith, e, le) in
        rw (pow-suc 2 k, even, rest, e) (ap (λ l. (f + 0) ∷ l) (inner (omega (arith, e))))
    counted inner (suc zero) e =
        let even : (n - 1) % 2 ≡ 0 = omega (arith, e) in
        let rest : (n - 1) / 2 ≡ n / 2 = omega (arith, e) in
        rw (even, rest, e) (ap (λ m. m ∷ plus_bits fs (places w (n / 2))) (let q : f + 1 + 0 ≡ f + 1 = omega arith in q))
    counted inner (suc (suc m)) e = absurd (omega (arith, e))

none-set : (k : ℕ) → places k 0 ≡ replicate k false
unfolding places
none-set zero = refl
none-set (suc k) = ap (λ (bs : List Bool). false ∷ bs) (none-set k)

-- no place has more than one
no_less : (fs : List ℕ) (bs : List Bool) (k : ℕ) → get_or fs k 0 ≤ get_or (plus_bits fs bs) k 0
unfolding plus_bits
no_less [] bs k = omega arith
no_less (f ∷ fs) [] k = omega arith
no_less (f ∷ fs) (b ∷ bs) zero = omega arith
no_less (f ∷ fs) (b ∷ bs) (suc k) = no_less fs bs k

one_at_most : (fs : List ℕ) (bs : List Bool) (k : ℕ) → get_or (plus_bits fs bs) k 0 ≤ get_or fs k 0 + 1
unfolding plus_bits
one_at_most [] bs k = omega arith
one_at_most (f ∷ fs) [] k = omega arith
one_at_most (f ∷ fs) (true ∷ bs) zero = omega arith
one_at_most (f ∷ fs) (false ∷ bs) zero = omega arith
one_at_most (f ∷ fs) (b ∷ bs) (suc k) = one_at_most fs bs k

pub bit-some : (left : ℕ) → 1 ≤ 2 ^ count_trailing_zeros 64 left
bit-some left = one-at-least (count_trailing_zeros 64 left)
  where
    one-at-least : (k : ℕ) → 1 ≤ 2 ^ k
    one-at-least zero = omega arith
    one-at-least (suc k) = rw (pow-suc 2 k) (omega (arith, one-at-least k))

pub owing-all : (fs : List ℕ) (bits : ℕ) → length fs ≡ 64 → bits < 2 ^ 64 → Owing fs bits fs bits
owing-all fs bits e h = record { length = e; below = h; owed = refl }

module _ {fs₀ fs : List ℕ} {bits left : ℕ} (o : Owing fs₀ bits fs left) where
  pub few-yet : All (λ n. n ≤ most_records) fs₀ → (k : ℕ) → get_or fs k 0 ≤ most_records + 1
  few-yet few k =
      let whole = ap (λ l. get_or l k 0) o.owed in
      omega (arith, no_less fs (places 64 left) k, whole, one_at_most fs₀ (places 64 bits) k, few-at fs₀ few k)

  module _ (some : 0 < left) where
    pub lowest-in : count_trailing_zeros 64 left < 64
    lowest-in = (lowest-place 64 left o.below some).0

    -- the number that has this place alone
    pub bit-of : 1 * 2 ^ count_trailing_zeros 64 left % 2 ^ 64 ≡ 2 ^ count_trailing_zeros 64 left
    bit-of = omega (arith, (lowest-place 64 left o.below some).1, o.below)

    pub bit_in : 2 ^ count_trailing_zeros 64 left ≤ left
    bit_in = (lowest-place 64 left o.below some).1

    pub owing-more : Owing fs₀ bits (set fs (count_trailing_zeros 64 left) (get_or fs (count_trailing_zeros 64 left) 0 + 1)) (left - 1 * 2 ^ count_trailing_zeros 64 left % 2 ^ 64)
    owing-more = rw bit-of (record {
      length = length-set fs (count_trailing_zeros 64 left) (get_or fs (count_trailing_zeros 64 left) 0 + 1) ∙ o.length;
      below = omega (arith, o.below);
      owed = lowest-counted 64 fs left o.below some ∙ o.owed;
    })

  pub owing-none : left ≤ 0 → fs ≡ plus_bits fs₀ (places 64 bits)
  owing-none h =
      let e : left ≡ 0 = omega arith in
      sym (plus_none fs 64) ∙ ap (plus_bits fs) (sym (none-set 64) ∙ ap (places 64) (sym e)) ∙ o.owed

-- ---- by level

-- one more at a place
set-each : (n : ℕ) (f : ℕ → ℕ) (v : ℕ) → v < n → set (each n f) v (get_or (each n f) v 0 + 1) ≡ each n (λ k. f k + cond (eqb k v) 1 0)
set-each zero f v h = absurd (not-suc-le-zero h)
set-each (suc n) f zero h =
    ap (λ l. (f 0 + 1) ∷ l) (each_same n (λ k. f (suc k)) (λ k. f (suc k) + cond (eqb (suc k) 0) 1 0) (λ k. rw (eqb-suc-zero k) (omega arith)))
set-each (suc n) f (suc v) h =
    rw (eqb-zero-suc v, set-each n (λ k. f (suc k)) v (le_of_suc-le-suc h))
    (same (let e : f 0 ≡ f 0 + 0 = omega arith in e)
    (each_same n (λ k. f (suc k) + cond (eqb k v) 1 0) (λ k. f (suc k) + cond (eqb (suc k) (suc v)) 1 0) (λ k. rw (eqb-suc-suc k v))))
  where
    same : {a b : ℕ} {ks ns : List ℕ} → a ≡ b → ks ≡ ns → a ∷ ks ≡ b ∷ ns
    same e es = rw (e, es)

-- a record with a verdict above 0, and one with 0
module _ (vs : List ℕ) where
  level-more : (l : ℕ) → l < 4 → set (counts_by_level vs) l (get_or (counts_by_level vs) l 0 + 1) ≡ counts_by_level (vs ++ suc l ∷ [])
  unfolding counts_by_level
  level-more l h =
      set-each 4 (λ n. how_many (eqb (suc n)) vs) l h
      ∙ each_same 4 (λ n. how_many (eqb (suc n)) vs + cond (eqb n l) 1 0) (λ n. how_many (eqb (suc n)) (vs ++ suc l ∷ []))
      (λ n. sym (count-last (eqb (suc n)) vs (suc l) ∙ ap (λ b. how_many (eqb (suc n)) vs + cond b 1 0) (eqb-suc-suc n l)))

  level-same : counts_by_level (vs ++ 0 ∷ []) ≡ counts_by_level vs
  unfolding counts_by_level
  level-same =
      each_same 4 (λ n. how_many (eqb (suc n)) (vs ++ 0 ∷ [])) (λ n. how_many (eqb (suc n)) vs)
      (λ n. count-last (eqb (suc n)) vs 0 ∙ rw (eqb-suc-zero n) (omega arith))

-- ---- both

length-each : (n : ℕ) (f : ℕ → ℕ) → length (each n f) ≡ n
length-each zero f = refl
length-each (suc n) f = ap suc (length-each n (λ k. f (suc k)))

few-each : (n : ℕ) (f : ℕ → ℕ) → ((k : ℕ) → f k ≤ most_records) → All (λ m. m ≤ most_records) (each n f)
few-each zero f h = tt
few-each (suc n) f h = (h 0, few-each n (λ k. f (suc k)) (λ k. h (suc k)))

fewer : {A : Type 0} (p : A → Bool) (xs : List A) → length xs ≤ most_records → how_many p xs ≤ most_records
fewer p xs h = omega (arith, how_many-most p xs)

pub few_levels : (vs : List ℕ) → length vs ≤ most_records → All (λ n. n ≤ most_records) (counts_by_level vs)
unfolding counts_by_level
few_levels vs h = few-each 4 (λ n. how_many (eqb (suc n)) vs) (λ n. fewer (eqb (suc n)) vs h)

module _ {sets : List (List Bool)} {verdicts fs ls : List ℕ} (counts : Counts sets verdicts fs ls) where
  -- with one record more
  pub one_more : {fs' ls' : List ℕ} (s : List Bool) (v : ℕ) → length s ≤ 64 → 0 < v → v ≤ 4 → fs' ≡ plus_bits fs (places 64 (set_of s))
      → ls' ≡ set ls (v - 1) (get_or ls (v - 1) 0 + 1) → Counts (sets ++ s ∷ []) (verdicts ++ v ∷ []) fs' ls'
  one_more s v short some low f g =
      let e : suc (v - 1) ≡ v = omega arith in
      record {
        by_finding = f ∙ ap (λ l. plus_bits l (places 64 (set_of s))) counts.by_finding ∙ finding-more sets s short;
        by_level =
            g
            ∙ ap (λ l. set l (v - 1) (get_or l (v - 1) 0 + 1)) counts.by_level
            ∙ level-more verdicts (v - 1) (omega (arith, some, low))
            ∙ ap (λ n. counts_by_level (verdicts ++ n ∷ [])) e;
      }

  -- .. that has no finding, and so the verdict 0
  pub none_more : (s : List Bool) → length s ≤ 47 → worst s ≡ 0 → Counts (sets ++ s ∷ []) (verdicts ++ 0 ∷ []) fs ls
  unfolding counts_by_finding worst
  none_more s short e = record {
    by_finding =
        counts.by_finding
        ∙ each_same 64 (λ n. how_many (carries n) sets) (λ n. how_many (carries n) (sets ++ s ∷ []))
        (λ n. sym (count-last (carries n) sets s ∙ rw (no-finding 0 s (omega (arith, short)) e n) (omega arith)));
    by_level = counts.by_level ∙ sym (level-same verdicts);
  }

  pub length-counts : (length fs ≡ 64) × (length ls ≡ 4)
  unfolding counts_by_finding counts_by_level
  length-counts = (ap length counts.by_finding ∙ length-each 64 (λ n. how_many (carries n) sets), ap length counts.by_level)

  -- counts of no more records than a file has
  pub few-counts : length sets ≤ most_records → length verdicts ≤ most_records → Few fs ls
  unfolding counts_by_finding
  few-counts f v = record {
    findings = length-counts.0;
    few_findings = subst (All (λ n. n ≤ most_records)) (sym counts.by_finding) (few-each 64 (λ n. how_many (carries n) sets) (λ n. fewer (carries n) sets f));
    levels = length-counts.1;
    few_levels = subst (All (λ n. n ≤ most_records)) (sym counts.by_level) (few_levels verdicts v);
  }
