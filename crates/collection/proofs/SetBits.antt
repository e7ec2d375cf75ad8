-- What findings 47 and 48 change in the eight bytes of a set of 47 findings, wherever these stand in a buffer. Assumes nothing.
use Prim.Native.Nat.{ℕ, suc, ◌+◌, ◌*◌, ◌/◌, ◌%◌, ◌<◌}
use native.Mathlib.Nat.{zero-add, suc-add}
use native.Mathlib.Omega.{arith}
use mathlib.Core.Path.{◌≡◌, refl, sym, ap, ◌∙◌}
use mathlib.Core.Bool.{Bool, true, false, cond}
use mathlib.Core.List.{List, [], ◌∷◌, ◌++◌}
use lib.ListN.{length, take, get_or, set}
use lib.Seq.{get_or-append-add}
use Rattle.format.specs.Bytes.{Bytes, bytes_of}
use Rattle.rules.specs.Findings.{set_of}
use Rattle.findings.proofs.Laws.{set_after, set_below}
use Rattle.collection.specs.Marked.{with47, with48}

-- ---- bytes of a sum

-- what is added above a byte leaves it
peel : (k n x : ℕ) → bytes_of (suc k) (n + 256 * x) ≡ n % 256 ∷ bytes_of k (n / 256 + x)
unfolding bytes_of
peel k n x =
    let low : (n + 256 * x) % 256 ≡ n % 256 = omega arith in
    let high : (n + 256 * x) / 256 ≡ n / 256 + x = omega arith in
    rw (low, high)

-- the first five bytes, and what stands above them
abbrev above5 : ℕ → ℕ
above5 n = n / 256 / 256 / 256 / 256 / 256

five : (n x : ℕ) → bytes_of 8 (n + 1099511627776 * x) ≡ take 5 (bytes_of 8 n) ++ bytes_of 3 (above5 n + x)
unfolding bytes_of
five n x =
    let a : n + 1099511627776 * x ≡ n + 256 * (256 * (256 * (256 * (256 * x)))) = omega arith in
    ap (bytes_of 8) a
    ∙ peel 7 n (256 * (256 * (256 * (256 * x))))
    ∙ ap (λ (l : Bytes). n % 256 ∷ l)
    (peel 6 (n / 256) (256 * (256 * (256 * x)))
    ∙ ap (λ (l : Bytes). n / 256 % 256 ∷ l)
    (peel 5 (n / 256 / 256) (256 * (256 * x))
    ∙ ap (λ (l : Bytes). n / 256 / 256 % 256 ∷ l)
    (peel 4 (n / 256 / 256 / 256) (256 * x)
    ∙ ap (λ (l : Bytes). n / 256 / 256 / 256 % 256 ∷ l) (peel 3 (n / 256 / 256 / 256 / 256) x))))

-- 47 findings reach into the sixth byte
small : (n : ℕ) → n < 140737488355328 → above5 n < 128
small n h = omega arith

-- bit 47 in the sixth byte, bit 48 in the seventh
top-47 : (m : ℕ) → m < 128 → (m % 256 % 128 + 128) ∷ bytes_of 2 (m / 256) ≡ bytes_of 3 (m + 128)
unfolding bytes_of
top-47 m h =
    let a : m % 256 % 128 + 128 ≡ (m + 128) % 256 = omega arith in
    let b : m / 256 ≡ (m + 128) / 256 = omega arith in
    rw (a, b)

top-48 : (m : ℕ) → m < 128 → m % 256 ∷ (m / 256 % 256 / 2 * 2 + 1) ∷ bytes_of 1 (m / 256 / 256) ≡ bytes_of 3 (m + 256)
unfolding bytes_of
top-48 m h =
    let low : m % 256 ≡ (m + 256) % 256 = omega arith in
    let none : m / 256 ≡ 0 = omega arith in
    let one : (m + 256) / 256 ≡ 1 = omega arith in
    rw (low, none, one)

-- ---- of a set at the front of a buffer

abbrev bytes : List Bool → Bytes
bytes s = bytes_of 8 (set_of s)

module _ (s : List Bool) (long : length s ≡ 47) (z : Bytes) where
  below : set_of s < 140737488355328
  below = set_below 47 s (omega arith)

  one : (b : Bool) → set_of (b ∷ []) ≡ cond b 1 0
  unfolding set_of
  one b = omega arith

  two : (b : Bool) → set_of (false ∷ b ∷ []) ≡ 2 * cond b 1 0
  unfolding set_of
  two b = omega arith

  more-47 : (b : Bool) → set_of (s ++ b ∷ []) ≡ set_of s + 1099511627776 * (128 * cond b 1 0)
  more-47 b = set_after s (b ∷ []) ∙ rw (long, one b) (omega arith)

  more-48 : (b : Bool) → set_of (s ++ false ∷ b ∷ []) ≡ set_of s + 1099511627776 * (256 * cond b 1 0)
  more-48 b = set_after s (false ∷ b ∷ []) ∙ rw (long, two b) (omega arith)

  set-47 : (b : Bool) → cond b (set (bytes s ++ z) 5 (get_or (bytes s ++ z) 5 0 % 128 + 128)) (bytes s ++ z) ≡ bytes (s ++ b ∷ []) ++ z
  unfolding bytes_of
  set-47 true =
      sym (ap (λ (n : ℕ). bytes_of 8 n ++ z) (more-47 true)
      ∙ ap (λ (l : Bytes). l ++ z) (five (set_of s) 128)
      ∙ ap (λ (l : Bytes). take 5 (bytes s) ++ (l ++ z)) (sym (top-47 (above5 (set_of s)) (small (set_of s) below))))
  set-47 false = let e : set_of (s ++ false ∷ []) ≡ set_of s = omega (arith, more-47 false) in ap (λ (n : ℕ). bytes_of 8 n ++ z) (sym e)

  set-48 : (b : Bool) → cond b (set (bytes s ++ z) 6 (get_or (bytes s ++ z) 6 0 / 2 * 2 + 1)) (bytes s ++ z) ≡ bytes (s ++ false ∷ b ∷ []) ++ z
  unfolding bytes_of
  set-48 true =
      sym (ap (λ (n : ℕ). bytes_of 8 n ++ z) (more-48 true)
      ∙ ap (λ (l : Bytes). l ++ z) (five (set_of s) 256)
      ∙ ap (λ (l : Bytes). take 5 (bytes s) ++ (l ++ z)) (sym (top-48 (above5 (set_of s)) (small (set_of s) below))))
  set-48 false = let e : set_of (s ++ false ∷ false ∷ []) ≡ set_of s = omega (arith, more-48 false) in ap (λ (n : ℕ). bytes_of 8 n ++ z) (sym e)

-- ---- of record i, in a buffer with the bytes of the records before it

set_past : (a l : Bytes) (n x : ℕ) → set (a ++ l) (length a + n) x ≡ a ++ set l n x
set_past [] l n x = ap (λ (k : ℕ). set l k x) (zero-add n)
set_past (y ∷ a) l n x = ap (λ (k : ℕ). set (y ∷ (a ++ l)) k x) (suc-add (length a) n) ∙ ap (λ (q : Bytes). y ∷ q) (set_past a l n x)

change : (a l : Bytes) (i j : ℕ) (f : ℕ → ℕ) → length a ≡ 8 * i
    → set (a ++ l) (8 * i + j) (f (get_or (a ++ l) (8 * i + j) 0)) ≡ a ++ set l j (f (get_or l j 0))
change a l i j f e = rw (← e, get_or-append-add a l j 0) (set_past a l j (f (get_or l j 0)))

past : (b : Bool) (a x y : Bytes) → cond b (a ++ x) (a ++ y) ≡ a ++ cond b x y
past true a x y = refl
past false a x y = refl

module _ (a : Bytes) (i : ℕ) (before : length a ≡ 8 * i) (s : List Bool) (long : length s ≡ 47) (z : Bytes) (b : Bool) where
  pub marked-47 : cond b (with47 i (a ++ (bytes_of 8 (set_of s) ++ z))) (a ++ (bytes_of 8 (set_of s) ++ z)) ≡ a ++ (bytes_of 8 (set_of (s ++ b ∷ [])) ++ z)
  marked-47 =
      ap (λ (l : Bytes). cond b l (a ++ (bytes s ++ z))) (change a (bytes s ++ z) i 5 (λ n. n % 128 + 128) before)
      ∙ past b a _ (bytes s ++ z)
      ∙ ap (λ (l : Bytes). a ++ l) (set-47 s long z b)

  pub marked-48 : cond b (with48 i (a ++ (bytes_of 8 (set_of s) ++ z))) (a ++ (bytes_of 8 (set_of s) ++ z))
      ≡ a ++ (bytes_of 8 (set_of (s ++ false ∷ b ∷ [])) ++ z)
  marked-48 =
      ap (λ (l : Bytes). cond b l (a ++ (bytes s ++ z))) (change a (bytes s ++ z) i 6 (λ n. n / 2 * 2 + 1) before)
      ∙ past b a _ (bytes s ++ z)
      ∙ ap (λ (l : Bytes). a ++ l) (set-48 s long z b)
