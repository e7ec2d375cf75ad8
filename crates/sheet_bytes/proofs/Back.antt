-- The layout loses nothing. Assumes nothing.
use Prim.Native.Nat.{ℕ, zero, suc, ◌+◌, ◌*◌, ◌^◌, ◌<◌, ◌≤◌}
use native.Mathlib.Nat.{pow-suc}
use native.Mathlib.Omega.{arith}
use mathlib.Core.Path.{◌≡◌, refl, sym, ap, subst, ◌∙◌}
use mathlib.Core.List.{List, [], ◌∷◌, ◌++◌, append_assoc, append-nil}
use lib.ListN.{length, take, drop, get_or, replicate, length-drop, take-append-drop}
use lib.IntN.{ℤ, pos, negsuc}
use lib.Seq.{take_at, drop_at, drop-drop, length-take-le, get_or-append-add, take-append-add}
use lib.Signed.{mag}
use Rattle.format.specs.Bytes.{Bytes, All, bytes_of}
use Rattle.format.proofs.Decimal.{length-bytes}
use Rattle.format.proofs.Logic.{All-take, All-drop}
use Rattle.rules.specs.Verdicts.{joined}
use Rattle.rules.specs.Sheet.{each, Missed, Sheet, sheet_of, missed, missed_by, all_transactions, all_findings, all_verdicts, counts_by_finding, counts_by_verdict}
use Rattle.text.specs.Words.{word_of}
use Rattle.text.proofs.Words.{AreBytes, bytes-kept, word-of-bytes}
use Rattle.sheet_bytes.specs.Layout.{signed_of, unsigned_of, number_at, numbers_at, missed_at, sheet_in, front_numbers, sheet_numbers}
use Rattle.sheet_bytes.specs.Layout.{sheet_size, number_bytes, bytes_of_sheet}
use Rattle.sheet_bytes.specs.Claims.{Fits, BothWays}
use Rattle.sheet_bytes.proofs.Complement.{signed_back, unsigned_back}
use Rattle.sheet_bytes.proofs.Numbers.{length-numbers, sheet-long}

-- ---- zeros

fresh : sheet_in (replicate 664 0) ≡ sheet_of []
unfolding sheet_in number_at word_of sheet_of missed missed_by all_transactions all_findings all_verdicts counts_by_finding counts_by_verdict
fresh = refl

zeros : bytes_of_sheet (sheet_of []) ≡ replicate 664 0
unfolding bytes_of_sheet sheet_numbers number_bytes bytes_of sheet_of missed missed_by all_transactions all_findings all_verdicts counts_by_finding counts_by_verdict
zeros = refl

-- ---- number k of some bytes

-- eight bytes on
later : (bytes : Bytes) (k : ℕ) → number_at bytes (suc k) ≡ number_at (drop 8 bytes) k
unfolding number_at
later bytes k =
    let on : 8 * suc k ≡ 8 + 8 * k = omega arith in
    ap (λ (l : Bytes). word_of (take 8 l)) (ap (λ (n : ℕ). drop n bytes) on ∙ sym (drop-drop (8 * k) 8 bytes))

-- as many numbers, each the same
each_below : (n : ℕ) {f g : ℕ → ℕ} → ((k : ℕ) → k < n → f k ≡ g k) → each n f ≡ each n g
each_below zero h = refl
each_below (suc n) h = λ i. h 0 (omega arith) i ∷ each_below n (λ k p. h (suc k) (omega arith)) i

-- ---- written, then read

first_back : (n : ℕ) (rest : Bytes) → n < 2 ^ 64 → number_at (bytes_of 8 n ++ rest) 0 ≡ n
unfolding number_at
first_back n rest h = ap word_of (take_at (bytes_of 8 n) rest 8 (length-bytes 8 n)) ∙ word-of-bytes 8 n h

module _ (rest : Bytes) where
  number-back : (ns : List ℕ) → All (λ n. n < 2 ^ 64) ns → (k : ℕ) → k < length ns → number_at (number_bytes ns ++ rest) k ≡ get_or ns k 0
  unfolding number_bytes
  number-back [] h k p = absurd (omega arith)
  number-back (n ∷ ns) h zero p =
      ap (λ (l : Bytes). number_at l 0) (append_assoc (bytes_of 8 n) (joined (bytes_of 8) ns) rest)
      ∙ first_back n (joined (bytes_of 8) ns ++ rest) h.0
  number-back (n ∷ ns) h (suc k) p =
      later (number_bytes (n ∷ ns) ++ rest) k
      ∙ ap (λ (l : Bytes). number_at l k)
      (ap (drop 8) (append_assoc (bytes_of 8 n) (joined (bytes_of 8) ns) rest)
      ∙ drop_at (bytes_of 8 n) (joined (bytes_of 8) ns ++ rest) 8 (length-bytes 8 n))
      ∙ number-back ns h.1 k (omega arith)

-- those at the front of a list, and those after some
fronts : (xs ys : List ℕ) (n : ℕ) → length xs ≡ n → each n (λ i. get_or (xs ++ ys) i 0) ≡ xs
fronts [] ys zero e = refl
fronts [] ys (suc n) e = absurd (omega arith)
fronts (x ∷ xs) ys zero e = absurd (omega arith)
fronts (x ∷ xs) ys (suc n) e = ap (λ (l : List ℕ). x ∷ l) (fronts xs ys n (omega arith))

parts : (k n : ℕ) (ps xs ys : List ℕ) → length ps ≡ k → length xs ≡ n → each n (λ i. get_or (ps ++ (xs ++ ys)) (k + i) 0) ≡ xs
parts k n ps xs ys p e =
    each_below n (λ i h. ap (λ (j : ℕ). get_or (ps ++ (xs ++ ys)) (j + i) 0) (sym p) ∙ get_or-append-add ps (xs ++ ys) i 0)
    ∙ fronts xs ys n e

unsigned-below : (z : ℤ) → mag z < 2 ^ 63 → unsigned_of z < 2 ^ 64
unsigned-below (pos n) h = omega arith
unsigned-below (negsuc n) h = omega arith

module _ (s : Sheet) (fits : Fits s) where
  below : All (λ n. n < 2 ^ 64) (sheet_numbers s)
  unfolding sheet_numbers
  below =
      let (files, (refused, (a, (b, (c, (d, (e, (f, (g, (h, (i, counts))))))))))) = fits.unsigned in
      let (x, (y, (z, _))) = fits.signed in (
        files,
        (
          refused,
          (
            a,
            (
              b,
              (
                c,
                (
                  unsigned-below s.pr.sum x,
                  (
                    d,
                    (
                      e,
                      (
                        f,
                        (
                          unsigned-below s.mr.sum y,
                          (g, (h, (i, (unsigned-below s.sr.sum z, counts)))),
                        ),
                      ),
                    ),
                  ),
                ),
              ),
            ),
          ),
        ),
      )

  long : length (sheet_numbers s) ≡ 83
  long = sheet-long s fits.findings fits.verdicts

  size : length (bytes_of_sheet s) ≡ sheet_size
  unfolding bytes_of_sheet
  size = length-numbers (sheet_numbers s) ∙ ap (λ (n : ℕ). 8 * n) long

  module _ (rest : Bytes) where
    -- number k of what was written
    back : (k : ℕ) → k < 83 → number_at (bytes_of_sheet s ++ rest) k ≡ get_or (sheet_numbers s) k 0
    unfolding bytes_of_sheet
    back k h = number-back rest (sheet_numbers s) below k (rw long h)

    back-missed : (k : ℕ) → k < 80 → (m : Missed) → get_or (sheet_numbers s) k 0 ≡ m.transactions → get_or (sheet_numbers s) (k + 1) 0 ≡ m.shortfall
        → get_or (sheet_numbers s) (k + 2) 0 ≡ m.excess → get_or (sheet_numbers s) (k + 3) 0 ≡ unsigned_of m.sum → mag m.sum < 2 ^ 63
        → missed_at (bytes_of_sheet s ++ rest) k ≡ m
    back-missed k h m p q r t f = λ i. record {
      transactions = (back k (omega arith) ∙ p) i;
      shortfall = (back (k + 1) (omega arith) ∙ q) i;
      excess = (back (k + 2) (omega arith) ∙ r) i;
      sum = (ap signed_of (back (k + 3) (omega arith) ∙ t) ∙ signed_back m.sum f) i;
    }

    back-findings : numbers_at (bytes_of_sheet s ++ rest) 14 64 ≡ s.findings
    unfolding sheet_numbers
    back-findings =
        each_below 64 (λ k h. back (14 + k) (omega arith))
        ∙ parts 14 64 (front_numbers s) s.findings s.verdicts refl fits.findings

    back-verdicts : numbers_at (bytes_of_sheet s ++ rest) 78 5 ≡ s.verdicts
    unfolding sheet_numbers
    back-verdicts =
        each_below 5 (λ k h. back (78 + k) (omega arith))
        ∙ ap (λ (l : List ℕ). each 5 (λ i. get_or (front_numbers s ++ s.findings ++ l) (78 + i) 0)) (sym (append-nil s.verdicts))
        ∙ parts 78 5 (front_numbers s ++ s.findings) s.verdicts [] (omega (arith, fits.findings)) fits.verdicts

    read_back : sheet_in (bytes_of_sheet s ++ rest) ≡ s
    unfolding sheet_in sheet_numbers
    read_back = λ i. record {
      files = back 0 (omega arith) i;
      refused = back 1 (omega arith) i;
      pr = back-missed 2 (omega arith) s.pr refl refl refl refl fits.signed.0 i;
      mr = back-missed 6 (omega arith) s.mr refl refl refl refl fits.signed.1.0 i;
      sr = back-missed 10 (omega arith) s.sr refl refl refl refl fits.signed.1.1.0 i;
      findings = back-findings i;
      verdicts = back-verdicts i;
    }

-- ---- read, then written

word_below : (l : Bytes) → AreBytes l → word_of l < 256 ^ length l
unfolding word_of
word_below [] h = omega arith
word_below (b ∷ l) h = rw pow-suc (omega (arith, h.0, word_below l h.1))

-- the first eight bytes
eight : (bytes : Bytes) → AreBytes bytes → 8 ≤ length bytes → (number_at bytes 0 < 2 ^ 64) × (bytes_of 8 (number_at bytes 0) ≡ take 8 bytes)
unfolding number_at
eight bytes h long =
    let e : length (take 8 bytes) ≡ 8 = length-take-le 8 bytes long in
    let are : AreBytes (take 8 bytes) = All-take (λ b. b < 256) 8 bytes h in (
      subst (λ (n : ℕ). word_of (take 8 bytes) < 256 ^ n) e (word_below (take 8 bytes) are),
      subst (λ (n : ℕ). bytes_of n (word_of (take 8 bytes)) ≡ take 8 bytes) e (bytes-kept (take 8 bytes) are),
    )

-- those after them
rest-are : (bytes : Bytes) → AreBytes bytes → AreBytes (drop 8 bytes)
rest-are bytes h = All-drop (λ b. b < 256) 8 bytes h

number-below : (k : ℕ) (bytes : Bytes) → AreBytes bytes → 8 * suc k ≤ length bytes → number_at bytes k < 2 ^ 64
number-below zero bytes h long = (eight bytes h long).0
number-below (suc k) bytes h long = rw (later bytes k) (number-below k (drop 8 bytes) (rest-are bytes h) (simp length-drop (omega arith)))

bytes_back : (n : ℕ) (bytes : Bytes) → AreBytes bytes → 8 * n ≤ length bytes → number_bytes (each n (λ k. number_at bytes k)) ≡ take (8 * n) bytes
unfolding number_bytes
bytes_back zero bytes h long = refl
bytes_back (suc n) bytes h long =
    let e : length (take 8 bytes) ≡ 8 = length-take-le 8 bytes (omega arith) in
    let on : length (take 8 bytes) + 8 * n ≡ 8 * suc n = omega arith in
    let first = (eight bytes h (omega arith)).1 in
    let others =
    ap number_bytes (each_below n (λ k _. later bytes k)) ∙ bytes_back n (drop 8 bytes) (rest-are bytes h) (simp length-drop (omega arith))
    in
    (λ i. first i ++ others i) ∙ sym (take-append-add (take 8 bytes) (drop 8 bytes) (8 * n))
    ∙ (λ i. take (on i) (take-append-drop 8 bytes i))

module _ (bytes : Bytes) (room : sheet_size ≤ length bytes) (are : AreBytes bytes) where
  sum_back : (k : ℕ) → k < 83 → unsigned_of (signed_of (number_at bytes k)) ≡ number_at bytes k
  sum_back k h = unsigned_back (number_at bytes k) (number-below k bytes are (omega arith))

  numbers-back : sheet_numbers (sheet_in bytes) ≡ each 83 (λ k. number_at bytes k)
  unfolding sheet_numbers sheet_in
  numbers-back = rw (sum_back 5 (omega arith), sum_back 9 (omega arith), sum_back 13 (omega arith)) refl

  written_back : bytes_of_sheet (sheet_in bytes) ++ drop sheet_size bytes ≡ bytes
  unfolding bytes_of_sheet
  written_back =
      ap (λ (l : Bytes). l ++ drop sheet_size bytes) (ap number_bytes numbers-back ∙ bytes_back 83 bytes are room)
      ∙ take-append-drop sheet_size bytes

pub both_ways : BothWays
both_ways = record {
  fresh = fresh;
  zeros = zeros;
  read_back = λ s rest fits. read_back s fits rest;
  written_back = written_back;
  size = λ s fits. size s fits;
}
