-- Words: that they keep their bytes, that two are the same where their bytes are, and how the word of a number's digits grows by one.
use mathlib.Core.Path.{◌≡◌, refl, sym, ap, ◌∙◌}
use mathlib.Core.Bool.{Bool, true, false, ◌&&◌, false≢true}
use mathlib.Core.List.{[], ◌∷◌, ◌++◌}
use Prim.Native.Nat.{ℕ, zero, suc, ◌+◌, ◌-◌, ◌*◌, ◌/◌, ◌%◌, ◌^◌, ◌<◌, ◌≤◌}
use native.Mathlib.Nat.{pow-suc, pow-succ', mul-add, mul_assoc, mul-one, mul-le-mul_left}
use native.Mathlib.Omega.{arith}
use lib.Dec.{ltb, leb, eqb}
use lib.ListN.{length, get_or}
use Rattle.std.specs.Int.{w64, to_le_bytes}
use borrow.Author.Tests.{eqb-true, eqb-false, eq-eqb, lt-ltb, leb-true, leb-false}
use Rattle.format.specs.Bytes.{Bytes, All, same_bytes, decimal, bytes_of}
use Rattle.format.proofs.Decimal.{length-decimal}
use Rattle.format.proofs.Logic.{All-append}
use Rattle.text.specs.Words.{word_of}

-- ---- bytes

abbrev pub AreBytes : Bytes → Type 0
AreBytes l = All (λ b. b < 256) l

pub are-bytes : (l : Bytes) → ((i : ℕ) → get_or l i 0 < 256) → AreBytes l
are-bytes [] h = tt
are-bytes (b ∷ l) h = (h 0, are-bytes l (λ i. h (suc i)))

digits-are-bytes : (w n : ℕ) → AreBytes (decimal w n)
unfolding decimal
digits-are-bytes zero n = tt
digits-are-bytes (suc w) n = All-append (λ b. b < 256) (decimal w (n / 10)) ((48 + n % 10) ∷ []) (digits-are-bytes w (n / 10)) (omega arith, tt)

-- a word has the bytes that it is made of
pub bytes-kept : (l : Bytes) → AreBytes l → bytes_of (length l) (word_of l) ≡ l
unfolding word_of bytes_of
bytes-kept [] h = refl
bytes-kept (b ∷ l) h =
    let first : (b + 256 * word_of l) % 256 ≡ b = omega (arith, h.0) in
    let others : (b + 256 * word_of l) / 256 ≡ word_of l = omega (arith, h.0) in
    rw (first, others, bytes-kept l h.1)

-- and a number that has room is the word of its bytes
pub word-of-bytes : (k n : ℕ) → n < 256 ^ k → word_of (bytes_of k n) ≡ n
unfolding word_of bytes_of
word-of-bytes zero n h = omega arith
word-of-bytes (suc k) n h =
    let g : n < 256 ^ k * 256 = rw pow-suc at h in
    rw (word-of-bytes k (n / 256) (omega arith)) (omega arith)

pub digits-kept : (x n : ℕ) → x ≡ word_of (decimal 8 n) → bytes_of 8 x ≡ decimal 8 n
digits-kept x n e = rw e (rw length-decimal at (bytes-kept (decimal 8 n) (digits-are-bytes 8 n)))

-- ---- eight bytes

eight_is : (l : Bytes) → length l ≡ 8
    → l ≡ get_or l 0 0 ∷ get_or l 1 0 ∷ get_or l 2 0 ∷ get_or l 3 0 ∷ get_or l 4 0 ∷ get_or l 5 0 ∷ get_or l 6 0 ∷ get_or l 7 0 ∷ []
eight_is [] h = absurd (omega arith)
eight_is (a ∷ []) h = absurd (omega arith)
eight_is (a ∷ b ∷ []) h = absurd (omega arith)
eight_is (a ∷ b ∷ c ∷ []) h = absurd (omega arith)
eight_is (a ∷ b ∷ c ∷ d ∷ []) h = absurd (omega arith)
eight_is (a ∷ b ∷ c ∷ d ∷ e ∷ []) h = absurd (omega arith)
eight_is (a ∷ b ∷ c ∷ d ∷ e ∷ f ∷ []) h = absurd (omega arith)
eight_is (a ∷ b ∷ c ∷ d ∷ e ∷ f ∷ g ∷ []) h = absurd (omega arith)
eight_is (a ∷ b ∷ c ∷ d ∷ e ∷ f ∷ g ∷ x ∷ []) h = refl
eight_is (a ∷ b ∷ c ∷ d ∷ e ∷ f ∷ g ∷ x ∷ y ∷ l) h = absurd (omega arith)

module _ (l : Bytes) (h : length l ≡ 8) where
  summed : get_or l 0 0 + get_or l 1 0 * 256 + get_or l 2 0 * 65536 + get_or l 3 0 * 16777216 + get_or l 4 0 * 4294967296
      + get_or l 5 0 * 1099511627776 + get_or l 6 0 * 281474976710656 + get_or l 7 0 * 72057594037927936
      ≡ word_of (get_or l 0 0 ∷ get_or l 1 0 ∷ get_or l 2 0 ∷ get_or l 3 0 ∷ get_or l 4 0 ∷ get_or l 5 0 ∷ get_or l 6 0 ∷ get_or l 7 0 ∷ [])
  unfolding word_of
  summed = omega arith

  pub eight-loaded : ((i : ℕ) → get_or l i 0 < 256) → (x : ℕ)
      → x ≡ get_or l 0 0 + get_or l 1 0 * 256 + get_or l 2 0 * 65536 + get_or l 3 0 * 16777216 + get_or l 4 0 * 4294967296
      + get_or l 5 0 * 1099511627776 + get_or l 6 0 * 281474976710656 + get_or l 7 0 * 72057594037927936
      → (x ≡ word_of l) × (bytes_of 8 x ≡ l)
  eight-loaded b x e =
      let word = e ∙ summed ∙ sym (ap word_of (eight_is l h)) in
      let kept = bytes-kept l (are-bytes l b) in
      (word, rw word (ap (λ (w : ℕ). bytes_of w (word_of l)) (sym h) ∙ kept))

pub taken-apart : (x : ℕ) → to_le_bytes w64 x ≡ bytes_of 8 x
unfolding bytes_of
taken-apart x =
    let two : x / 65536 ≡ x / 256 / 256 = omega arith in
    let three : x / 16777216 ≡ x / 256 / 256 / 256 = omega arith in
    let four : x / 4294967296 ≡ x / 256 / 256 / 256 / 256 = omega arith in
    let five : x / 1099511627776 ≡ x / 256 / 256 / 256 / 256 / 256 = omega arith in
    let six : x / 281474976710656 ≡ x / 256 / 256 / 256 / 256 / 256 / 256 = omega arith in
    let seven : x / 72057594037927936 ≡ x / 256 / 256 / 256 / 256 / 256 / 256 / 256 = omega arith in
    simp (two, three, four, five, six, seven)

-- ---- two words are the same where their bytes are

same_parts : (x y : ℕ) → eqb x y ≡ (eqb (x % 256) (y % 256) && eqb (x / 256) (y / 256))
same_parts x y = go (eqb x y) refl
  where
    differ : (p q : Bool) → eqb (x % 256) (y % 256) ≡ p → eqb (x / 256) (y / 256) ≡ q → (x ≡ y → ⊥) → false ≡ (p && q)
    differ false q e f n = refl
    differ true false e f n = refl
    differ true true e f n = absurd (n (omega (arith, eqb-true (x % 256) (y % 256) e, eqb-true (x / 256) (y / 256) f)))

    go : (t : Bool) → eqb x y ≡ t → t ≡ (eqb (x % 256) (y % 256) && eqb (x / 256) (y / 256))
    go true e =
        let same = eqb-true x y e in
        sym (rw (eq-eqb (x % 256) (y % 256) (ap (λ (k : ℕ). k % 256) same), eq-eqb (x / 256) (y / 256) (ap (λ (k : ℕ). k / 256) same)))
    go false e = differ (eqb (x % 256) (y % 256)) (eqb (x / 256) (y / 256)) refl refl (eqb-false x y e)

pub same-words : (w x y : ℕ) → x < 256 ^ w → y < 256 ^ w → eqb x y ≡ same_bytes (bytes_of w x) (bytes_of w y)
unfolding bytes_of
same-words zero x y h k = eq-eqb x y (omega arith)
same-words (suc w) x y h k =
    same_parts x y ∙ rw (same-words w (x / 256) (y / 256) (omega (arith, pow-succ' 256 w)) (omega (arith, pow-succ' 256 w)))

-- ---- the word of a number's digits, and of the next number's

-- what the last of w bytes counts; 0 where there is none
unfoldable pub unit_of : ℕ → ℕ
unit_of zero = 0
unit_of (suc zero) = 1
unit_of (suc (suc w)) = 256 * unit_of (suc w)

unit-down : (w : ℕ) → unit_of (suc w) / 256 ≡ unit_of w
unfolding unit_of
unit-down zero = refl
unit-down (suc w) = omega arith

word-snoc : (l : Bytes) (b : ℕ) → word_of (l ++ b ∷ []) ≡ word_of l + unit_of (suc (length l)) * b
unfolding word_of unit_of
word-snoc [] b = omega arith
word-snoc (a ∷ l) b = omega (arith, word-snoc l b, mul_assoc 256 (unit_of (suc (length l))) b)

digits-snoc : (w n : ℕ) → word_of (decimal (suc w) n) ≡ word_of (decimal w (n / 10)) + unit_of (suc w) * (48 + n % 10)
unfolding decimal
digits-snoc w n = word-snoc (decimal w (n / 10)) (48 + n % 10) ∙ rw (length-decimal w (n / 10))

-- digits count less than one more byte after them would
digits-below : (w n : ℕ) → word_of (decimal w n) < unit_of (suc w)
unfolding decimal word_of unit_of
digits-below zero n = omega arith
digits-below (suc w) n =
    omega (arith, digits-snoc w n, digits-below w (n / 10), mul-le-mul_left {m = 48 + n % 10} {n = 57} (unit_of (suc w)) (omega arith))

-- digits whose last is below 9 count less than a last 9 alone
digits-no-nine : (w n : ℕ) → n % 10 ≤ 8 → word_of (decimal (suc w) n) < 57 * unit_of (suc w)
digits-no-nine w n h =
    omega (arith, digits-snoc w n, digits-below w (n / 10), mul-le-mul_left {m = 48 + n % 10} {n = 56} (unit_of (suc w)) (omega arith))

-- a last 9
module _ (w n : ℕ) (nine : n % 10 ≡ 9) where
  digits-nine : word_of (decimal (suc w) n) ≡ word_of (decimal w (n / 10)) + unit_of (suc w) * 57
  digits-nine = digits-snoc w n ∙ ap (λ (d : ℕ). word_of (decimal w (n / 10)) + unit_of (suc w) * (48 + d)) nine

  next-nine : word_of (decimal (suc w) (n + 1)) ≡ word_of (decimal w (n / 10 + 1)) + unit_of (suc w) * 48
  next-nine =
      let others : (n + 1) / 10 ≡ n / 10 + 1 = omega arith in
      let last : (n + 1) % 10 ≡ 0 = omega arith in
      digits-snoc w (n + 1) ∙ rw (others, last)

-- a last digit that is no 9
next-plain : (w n : ℕ) → n % 10 ≤ 8 → word_of (decimal (suc w) (n + 1)) ≡ word_of (decimal (suc w) n) + unit_of (suc w)
next-plain w n h =
    let u = unit_of (suc w) in
    let others : (n + 1) / 10 ≡ n / 10 = omega arith in
    let last : 48 + (n + 1) % 10 ≡ 48 + n % 10 + 1 = omega arith in
    let more : u * (48 + (n + 1) % 10) ≡ u * (48 + n % 10) + u = ap (λ (d : ℕ). u * d) last ∙ mul-add u (48 + n % 10) 1 ∙ rw (mul-one u) in
    digits-snoc w (n + 1) ∙ rw others (omega (arith, more, digits-snoc w n))

-- ---- what the turns that carry keep: the digits that are left, grown by one, and the zeros after them are the next number's

pub record Carrying (n i number rest unit zeros : ℕ) : Type 0 where
  pub few : i ≤ 8
  pub counts : unit ≡ unit_of i
  pub small : unit ≤ 72057594037927936
  pub left : rest ≡ word_of (decimal i number)
  pub owed : zeros + word_of (decimal i (number + 1)) ≡ word_of (decimal 8 (n + 1))

pub carry-start : (n word : ℕ) → word ≡ word_of (decimal 8 n) → Carrying n 8 n word 72057594037927936 0
unfolding unit_of
carry-start n word e = record { few = omega arith; counts = refl; small = omega arith; left = e; owed = omega arith }

eight-below : (n : ℕ) → word_of (decimal 8 n) < 18446744073709551616
unfolding unit_of
eight-below n = digits-below 8 n

module _ (n number rest unit zeros : ℕ) where
  -- no digit is left
  none : Carrying n 0 number rest unit zeros → zeros + (unit + rest) ≡ word_of (decimal 8 (n + 1))
  unfolding decimal word_of unit_of
  none C = omega (arith, C.counts, C.left, C.owed)

  -- the test of a turn says whether there is a last digit, and it is 9
  is-nine : (w : ℕ) → Carrying n (suc w) number rest unit zeros → 57 * unit ≤ rest → number % 10 ≡ 9
  is-nine w C h = go (eqb (number % 10) 9) refl
    where
      go : (t : Bool) → eqb (number % 10) 9 ≡ t → number % 10 ≡ 9
      go true e = eqb-true (number % 10) 9 e
      go false e =
          let other = eqb-false (number % 10) 9 e in
          absurd (omega (arith, h, C.left, C.counts, digits-no-nine w number (omega (arith, other))))

  no_nine : (w : ℕ) → Carrying n (suc w) number rest unit zeros → rest < 57 * unit → number % 10 ≤ 8
  no_nine w C h = go (eqb (number % 10) 9) refl
    where
      go : (t : Bool) → eqb (number % 10) 9 ≡ t → number % 10 ≤ 8
      go true e = absurd (omega (arith, h, C.left, C.counts, digits-nine w number (eqb-true (number % 10) 9 e)))
      go false e = let other = eqb-false (number % 10) 9 e in omega (arith, other)

  last : (w : ℕ) {t : Bool} → (ltb 0 (suc w) && leb (57 * unit) rest) ≡ t → leb (57 * unit) rest ≡ t
  last w e = rw (lt-ltb 0 (suc w) (omega arith)) at e

  pub carry-on : (i : ℕ) → Carrying n i number rest unit zeros → (ltb 0 i && leb (57 * unit) rest) ≡ true
      → (1 ≤ i) × (57 * unit ≤ rest) × (zeros + 48 * unit < 18446744073709551616)
      × Carrying n (i - 1) (number / 10) (rest - 57 * unit) (unit / 256) (zeros + 48 * unit)
  carry-on zero C t = absurd (false≢true t)
  carry-on (suc w) C t =
      let h = leb-true (57 * unit) rest (last w t) in
      let nine = is-nine w C h in
      let down : suc w - 1 ≡ w = omega arith in
      let owed : zeros + 48 * unit + word_of (decimal w (number / 10 + 1)) ≡ word_of (decimal 8 (n + 1)) =
      omega (arith, C.owed, C.counts, next-nine w number nine) in (
        omega arith,
        h,
        omega (arith, owed, eight-below (n + 1)),
        rw down
            (record {
              few = omega (arith, C.few);
              counts = ap (λ (u : ℕ). u / 256) C.counts ∙ unit-down w;
              small = omega (arith, C.small);
              left = omega (arith, C.left, C.counts, digits-nine w number nine);
              owed = owed;
            }),
      )

  pub carry-end : (i : ℕ) → Carrying n i number rest unit zeros → (ltb 0 i && leb (57 * unit) rest) ≡ false
      → (zeros + (unit + rest) ≡ word_of (decimal 8 (n + 1))) × (zeros + (unit + rest) < 18446744073709551616)
  carry-end i C t = let e = go i C t in (e, omega (arith, e, eight-below (n + 1)))
    where
      go : (i : ℕ) → Carrying n i number rest unit zeros → (ltb 0 i && leb (57 * unit) rest) ≡ false
          → zeros + (unit + rest) ≡ word_of (decimal 8 (n + 1))
      go zero C t = none C
      go (suc w) C t =
          let h = leb-false (57 * unit) rest (last w t) in
          omega (arith, C.owed, C.left, C.counts, next-plain w number (no_nine w C h))
