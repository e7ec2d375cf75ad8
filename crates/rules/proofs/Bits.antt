-- The bits of a set of findings, and the bytes that hold them. Assumes nothing.
use Prim.Native.Nat.{ℕ, zero, suc, ◌+◌, ◌-◌, ◌*◌, ◌/◌, ◌%◌, ◌^◌, ◌≤◌}
use native.Mathlib.Nat.{pow-suc, mul_assoc, mul_comm, not-suc-le-zero, le_of_suc-le-suc}
use native.Mathlib.Omega.{arith}
use mathlib.Core.Path.{◌≡◌, refl, sym, ap, ◌∙◌}
use mathlib.Core.Bool.{Bool, true, false, cond}
use mathlib.Core.List.{List, [], ◌∷◌, ◌++◌}
use lib.Dec.{eqb}
use lib.ListN.{length, replicate}
use Rattle.format.specs.Bytes.{bytes_of}
use Rattle.rules.specs.Findings.{set_of, places, verdict_of, level, larger, worst_from, worst}
use Rattle.rules.specs.Verdicts.{joined}

-- ---- the set of a list, read back

odd : (b : Bool) (s : ℕ) → eqb ((cond b 1 0 + 2 * s) % 2) 1 ≡ b
odd true s = let e : (1 + 2 * s) % 2 ≡ 1 = omega arith in rw e
odd false s = let e : (0 + 2 * s) % 2 ≡ 0 = omega arith in rw e

half : (b : Bool) (s : ℕ) → (cond b 1 0 + 2 * s) / 2 ≡ s
half true s = omega arith
half false s = omega arith

none : (k : ℕ) → places k 0 ≡ replicate k false
unfolding places
none zero = refl
none (suc k) = ap (λ (bs : List Bool). false ∷ bs) (none k)

-- the list, and the places beyond it are empty
pub places-set : (k : ℕ) (bs : List Bool) → length bs ≤ k → places k (set_of bs) ≡ bs ++ replicate (k - length bs) false
unfolding places set_of
places-set k [] h = none k ∙ ap (λ (n : ℕ). replicate n false) (let e : k ≡ k - 0 = omega arith in e)
places-set zero (b ∷ bs) h = absurd (not-suc-le-zero h)
places-set (suc k) (b ∷ bs) h =
    rw (odd b (set_of bs), half b (set_of bs), places-set k bs (le_of_suc-le-suc h))
    (ap (λ (n : ℕ). b ∷ (bs ++ replicate n false)) (let e : k - length bs ≡ suc k - suc (length bs) = omega arith in e))

-- ---- findings after a list that do not hold leave its largest verdict

worst-none : (n k : ℕ) → worst_from n (replicate k false) ≡ 0
worst-none n zero = refl
worst-none n (suc k) = ap (larger 0) (worst-none (suc n) k)

worst-from-padded : (n : ℕ) (bs : List Bool) (k : ℕ) → worst_from n (bs ++ replicate k false) ≡ worst_from n bs
worst-from-padded n [] k = worst-none n k
worst-from-padded n (b ∷ bs) k = ap (larger (cond b (verdict_of (level n)) 0)) (worst-from-padded (suc n) bs k)

pub worst-padded : (bs : List Bool) (k : ℕ) → worst (bs ++ replicate k false) ≡ worst bs
unfolding worst
worst-padded bs k = worst-from-padded 0 bs k

-- ---- the bits of a number's bytes are its bits

-- what stands above the places does not matter
below : (k n q : ℕ) → places k (n + 2 ^ k * q) ≡ places k n
unfolding places
below zero n q = refl
below (suc k) n q =
    let x = 2 ^ k * q in
    let e : 2 ^ suc k * q ≡ 2 * x = rw pow-suc (ap (λ y. y * q) (mul_comm (2 ^ k) 2) ∙ mul_assoc 2 (2 ^ k) q) in
    let half : (n + 2 * x) / 2 ≡ n / 2 + x = omega arith in
    let lowest : (n + 2 * x) % 2 ≡ n % 2 = omega (arith, half) in
    rw (e, half, lowest, below k (n / 2) q)

-- eight places, and those above them
eight : (k n : ℕ) → places 8 (n % 256) ++ places k (n / 256) ≡ places (suc (suc (suc (suc (suc (suc (suc (suc k)))))))) n
unfolding places
eight k n =
    let all : n ≡ n % 256 + 2 ^ 8 * (n / 256) = omega arith in
    let above : n / 256 ≡ n / 2 / 2 / 2 / 2 / 2 / 2 / 2 / 2 = omega arith in
    ap (λ (bs : List Bool). bs ++ places k (n / 256)) (sym (below 8 (n % 256) (n / 256)) ∙ ap (places 8) (sym all)) ∙ rw above

pub places-bytes : (k n : ℕ) → joined (places 8) (bytes_of k n) ≡ places (8 * k) n
unfolding bytes_of places
places-bytes zero n = refl
places-bytes (suc k) n =
    let e : suc (suc (suc (suc (suc (suc (suc (suc (8 * k)))))))) ≡ 8 * suc k = omega arith in
    ap (λ (bs : List Bool). places 8 (n % 256) ++ bs) (places-bytes k (n / 256)) ∙ eight (8 * k) n ∙ ap (λ (w : ℕ). places w n) e
