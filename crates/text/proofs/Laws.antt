-- What one turn of each loop keeps: a test of every byte, a number read digit by digit, a number written or compared from its last
-- digit. And the parts of a record that may be too short.
use mathlib.Core.Path.{◌≡◌, refl, sym, ap, ◌∙◌}
use mathlib.Core.Bool.{Bool, true, false, ◌&&◌, and-true, and-false, and_assoc}
use mathlib.Core.List.{List, [], ◌∷◌, ◌++◌}
use Prim.Native.Nat.{ℕ, zero, suc, ◌+◌, ◌-◌, ◌*◌, ◌/◌, ◌%◌, ◌^◌, ◌<◌, ◌≤◌}
use native.Mathlib.Nat.{pow-suc, pow-le-pow_right}
use native.Mathlib.Numerals.{add-one}
use native.Mathlib.Omega.{arith}
use lib.Dec.{eqb, lit<}
use lib.ListN.{length, take, drop, get_or, set, drop_of_length-le, length-drop, length-append}
use lib.Seq.{length-take-le, take_all, take-nil, append_snoc, drop-cons, drop_at, set_split}
use Rattle.std.specs.Bool.{MatchBool}
use Rattle.std.specs.List.{AllWithin, HoldsAt}
use Rattle.std.specs.Cmp.Lexicographic.{pointwise}
use Rattle.format.specs.Bytes.{every, same_bytes, decimal}
use Rattle.format.specs.Fields.{digit, number_from, number_of}
use Rattle.format.proofs.Decimal.{length-decimal}

-- what `all` answered is whether every element passes
module _ (p : ℕ → Bool) where
  every-all : (l : List ℕ) → AllWithin (λ x. p x ≡ true) l 0 (length l) → true ≡ every p l
  every-all [] h = refl
  every-all (x ∷ l) h = rw (h 0 0 (omega arith) (omega arith)) (every-all l (λ k d a b. h (suc k) d (omega arith) (omega arith)))

  every-but : (l : List ℕ) (k : ℕ) → k < length l → HoldsAt (λ x. p x ≡ false) l k → false ≡ every p l
  every-but [] k h e = absurd (omega arith)
  every-but (x ∷ l) zero h e = rw (e 0)
  every-but (x ∷ l) (suc k) h e = rw (← every-but l k (omega arith) e, and-false)

  pub every-answered : (r : Bool) (l : List ℕ)
      → MatchBool r (AllWithin (λ x. p x ≡ true) l 0 (length l)) ((k : ℕ) × (k < length l) × HoldsAt (λ x. p x ≡ false) l k)
      → r ≡ every p l
  every-answered true l h = every-all l h
  every-answered false l h = every-but l h.0 h.1 h.2

-- the i bytes before write n, and after n the bytes from i on write the whole number
abbrev pub Reads : List ℕ → ℕ → ℕ → Type 0
Reads l n i = (i ≤ length l) × (n < 10 ^ i) × (number_from n (drop i l) ≡ number_of l)

module _ (l : List ℕ) (n i : ℕ) (inv : Reads l n i) where
  -- at most eighteen digits are read, so that ten times n and one digit more fit a u64
  pub number_small : length l ≤ 19 → i < length l → n < 1000000000000000000
  number_small k h = omega (arith, pow-le-pow_right {n = 10} (lit< tt) {i = i} {j = 18} (omega arith))

  pub number-on : (d : ℕ) → i < length l → d ≡ digit (get_or l i 0) → d ≤ 9 → Reads l (10 * n + d) (i + 1)
  number-on d h e k = (omega arith, rw (add-one, pow-suc) (omega arith), rw (e, ← inv.2, add-one, drop-cons l i 0))

  pub number-end : length l ≤ i → (n ≡ number_of l) × (n < 10 ^ length l)
  number-end h =
      (rw (drop_of_length-le l h) at inv.2, omega (arith, pow-le-pow_right {n = 10} (lit< tt) inv.0))

drop-set : (l : List ℕ) (i a : ℕ) → i < length l → drop i (set l i a) ≡ a ∷ drop (suc i) l
drop-set l i a h = rw set_split (drop_at (take i l) _ i (length-take-le i l (omega arith)))

-- with the last digit of n at i - 1, only the digits of n / 10 are left to write
pub decimal-on : (n i : ℕ) (l : List ℕ) → 0 < i → i ≤ length l
    → decimal (i - 1) (n / 10) ++ drop (i - 1) (set l (i - 1) (48 + n % 10)) ≡ decimal i n ++ drop i l
unfolding decimal
decimal-on n zero l h k = absurd (omega arith)
decimal-on n (suc w) l h k = let e : suc w - 1 ≡ w = omega arith in rw (e, append_snoc, drop-set)

-- ---- two lists of one length are compared from their ends

same-snoc : (xs ys : List ℕ) (x y : ℕ) → length xs ≡ length ys → same_bytes (xs ++ x ∷ []) (ys ++ y ∷ []) ≡ (same_bytes xs ys && eqb x y)
same-snoc [] [] x y h = and-true (eqb x y)
same-snoc [] (b ∷ ys) x y h = absurd (omega arith)
same-snoc (a ∷ xs) [] x y h = absurd (omega arith)
same-snoc (a ∷ xs) (b ∷ ys) x y h = rw (same-snoc xs ys x y (omega arith)) (sym (and_assoc (eqb a b) (same_bytes xs ys) (eqb x y)))

swap : (a b c : Bool) → ((a && b) && c) ≡ (a && (c && b))
swap false b c = refl
swap true false c = sym (and-false c)
swap true true c = sym (and-true c)

-- where the bytes after `left` were the last digits, those left are to compare with the digits of rest
abbrev pub Compares : ℕ → List ℕ → Bool → ℕ → List ℕ → Type 0
Compares n l same rest left = (same && same_bytes left (decimal (length left) rest)) ≡ same_bytes l (decimal (length l) n)

pub same-on : (n : ℕ) (l : List ℕ) (s : Bool) (rest : ℕ) (left : List ℕ) (b : ℕ) → Compares n l s rest (left ++ b ∷ [])
    → Compares n l (s && eqb b (48 + rest % 10)) (rest / 10) left
unfolding decimal
same-on n l s rest left b inv =
    let digit = 48 + rest % 10 in
    let others = decimal (length left) (rest / 10) in
    let last = same-snoc left others b digit (rw length-decimal) in
    let more : length (left ++ b ∷ []) ≡ suc (length left) = simp length-append (omega arith) in
    swap s (eqb b digit) (same_bytes left others) ∙ (rw (more, last) at inv)

pub no-length : (l : List ℕ) → length l ≡ 0 → l ≡ []
no-length [] h = refl
no-length (b ∷ l) h = absurd (omega arith)

pub same_end : (n : ℕ) (l : List ℕ) (s : Bool) (rest : ℕ) → Compares n l s rest [] → s ≡ same_bytes l (decimal (length l) n)
unfolding decimal
same_end n l s rest inv = sym (and-true s) ∙ inv

-- ---- a field of a record that may be too short for it

module _ (l : List ℕ) (a size : ℕ) where
  pub beyond : length l < a → take (length l - length l) (drop (length l) l) ≡ take size (drop a l)
  beyond h =
      let p : length l - length l ≡ 0 = omega arith in
      rw (p, drop_of_length-le l {i = a} (omega arith)) (sym (take-nil size))

  pub cut_short : length l - a < size → take (length l - a) (drop a l) ≡ take size (drop a l)
  cut_short h =
      let e : length (drop a l) ≡ length l - a = length-drop a l in
      take_all (length l - a) (drop a l) (omega arith) ∙ sym (take_all size (drop a l) (omega arith))

  pub within : take (a + size - a) (drop a l) ≡ take size (drop a l)
  within = let p : a + size - a ≡ size = omega arith in rw p

-- ---- slices are compared as the format compares bytes

pub sliced : (x y : List ℕ) → pointwise eqb x y ≡ same_bytes x y
sliced [] [] = refl
sliced [] (b ∷ y) = refl
sliced (a ∷ x) [] = refl
sliced (a ∷ x) (b ∷ y) = ap (λ (t : Bool). eqb a b && t) (sliced x y)
