-- A field of a fixed width byte by byte, and what its bytes make of it. Assumes nothing.
use mathlib.Core.Path.{◌≡◌, refl, sym, ap, ◌∙◌}
use mathlib.Core.Bool.{cond, ◌&&◌, and-true, and_assoc}
use mathlib.Core.List.{List, [], ◌∷◌}
use Prim.Native.Nat.{ℕ, zero, suc, ◌+◌, ◌-◌, ◌*◌, ◌/◌, ◌%◌, ◌<◌, ◌≤◌}
use native.Mathlib.Omega.{arith}
use lib.Dec.{leb, eqb}
use lib.ListN.{length, drop, get_or, drop_of_length-le}
use lib.Seq.{drop-cons}
use Rattle.format.specs.Ascii.{ascii}
use Rattle.format.specs.Bytes.{Bytes, same_bytes}
use Rattle.format.specs.Fields.{field_of, is_digit, are_digits, digit, number_of}
use Rattle.rules.specs.Values.{leap_year, month_lengths, days_in, is_day, is_date, is_duration, iswc_sum}

-- ---- values one by one

-- f of i, of i + 1 and so on, n in all
abbrev pub values_from : (ℕ → ℕ) → ℕ → ℕ → List ℕ
values_from f i zero = []
values_from f i (suc n) = f i ∷ values_from f (suc i) n

value-at : (f : ℕ → ℕ) (i n k : ℕ) → k < n → get_or (values_from f i n) k 0 ≡ f (i + k)
value-at f i zero k h = absurd (omega arith)
value-at f i (suc n) zero h = ap f (omega arith)
value-at f i (suc n) (suc k) h = value-at f (suc i) n k (omega arith) ∙ ap f (omega arith)

-- a list's own: the n from i on, and all of them
rest : (n i : ℕ) (l : Bytes) → length l ≡ i + n → drop i l ≡ values_from (λ j. get_or l j 0) i n
rest zero i l h = drop_of_length-le l {i = i} (omega arith)
rest (suc n) i l h = drop-cons l i 0 (omega arith) ∙ ap (λ (x : Bytes). get_or l i 0 ∷ x) (rest n (suc i) l (omega arith))

pub spelled : (n : ℕ) (l : Bytes) → length l ≡ n → values_from (λ j. get_or l j 0) 0 n ≡ l
spelled n l h = sym (rest n 0 l (omega arith))

-- ---- two bytes at a time

pub digits_two : (a b : ℕ) → (is_digit a && is_digit b) ≡ are_digits (a ∷ b ∷ [])
unfolding are_digits
digits_two a b = simp and-true

pub number_two : (a b : ℕ) → 10 * digit a + digit b ≡ number_of (a ∷ b ∷ [])
unfolding number_of
number_two a b = omega arith

digits-on : (a b : ℕ) (l : Bytes) → (are_digits (a ∷ b ∷ []) && are_digits l) ≡ are_digits (a ∷ b ∷ l)
unfolding are_digits
digits-on a b l = simp (and-true, and_assoc)

digits-one : (a : ℕ) → is_digit a ≡ are_digits (a ∷ [])
unfolding are_digits
digits-one a = sym (and-true (is_digit a))

number-four : (a b c d : ℕ) → 100 * number_of (a ∷ b ∷ []) + number_of (c ∷ d ∷ []) ≡ number_of (a ∷ b ∷ c ∷ d ∷ [])
unfolding number_of
number-four a b c d = omega arith

number-five : (a b c d e : ℕ) → 1000 * number_of (a ∷ b ∷ []) + 10 * number_of (c ∷ d ∷ []) + digit e ≡ number_of (a ∷ b ∷ c ∷ d ∷ e ∷ [])
unfolding number_of
number-five a b c d e = omega arith

-- ---- a date

-- a month's days as the code computes them
abbrev pub by_rule : ℕ → ℕ → ℕ
by_rule y m = cond (eqb m 2) (cond (leap_year y) 29 28) (30 + (m + m / 8) % 2)

-- one computation: in any year, rule and list agree on all twelve months
twelve : (y : ℕ) → values_from (by_rule y) 1 12 ≡ month_lengths y
twelve y = refl

pub month : (y m : ℕ) → 1 ≤ m → m ≤ 12 → by_rule y m ≡ days_in y m
unfolding days_in
month y m g h = rw (← twelve y, value-at (by_rule y) 1 12 (m - 1) (omega arith)) (ap (by_rule y) {x = m} {y = 1 + (m - 1)} (omega arith))

pub date_is : (l : Bytes) → length l ≡ 8
    → ((are_digits (get_or l 0 0 ∷ get_or l 1 0 ∷ [])
    && (are_digits (get_or l 2 0 ∷ get_or l 3 0 ∷ [])
    && (are_digits (get_or l 4 0 ∷ get_or l 5 0 ∷ []) && are_digits (get_or l 6 0 ∷ get_or l 7 0 ∷ []))))
    && is_day (100 * number_of (get_or l 0 0 ∷ get_or l 1 0 ∷ []) + number_of (get_or l 2 0 ∷ get_or l 3 0 ∷ []))
    (number_of (get_or l 4 0 ∷ get_or l 5 0 ∷ [])) (number_of (get_or l 6 0 ∷ get_or l 7 0 ∷ [])))
    ≡ is_date l
unfolding is_date field_of
date_is l h = rw (digits-on, digits-on, digits-on, number-four) (ap is_date (spelled 8 l h))

-- ---- a duration

pub duration_is : (l : Bytes) → length l ≡ 6
    → ((are_digits (get_or l 0 0 ∷ get_or l 1 0 ∷ []) && (are_digits (get_or l 2 0 ∷ get_or l 3 0 ∷ []) && are_digits (get_or l 4 0 ∷ get_or l 5 0 ∷ [])))
    && leb (number_of (get_or l 2 0 ∷ get_or l 3 0 ∷ [])) 59 && leb (number_of (get_or l 4 0 ∷ get_or l 5 0 ∷ [])) 59)
    ≡ is_duration l
unfolding is_duration field_of
duration_is l h = rw (digits-on, digits-on) (ap is_duration (spelled 6 l h))

-- ---- an ISWC

-- the sum by the ten digits, one by one
abbrev pub sum_of : (b c d e f g h i j k : ℕ) → ℕ
sum_of b c d e f g h i j k =
    1 + digit b + 2 * digit c + 3 * digit d + 4 * digit e + 5 * digit f + 6 * digit g + 7 * digit h + 8 * digit i + 9 * digit j + digit k

sum-of : (a b c d e f g h i j k : ℕ) → sum_of b c d e f g h i j k ≡ iswc_sum (a ∷ b ∷ c ∷ d ∷ e ∷ f ∷ g ∷ h ∷ i ∷ j ∷ k ∷ [])
unfolding iswc_sum field_of number_of
sum-of a b c d e f g h i j k = omega arith

pub sum_is : (l : Bytes) → length l ≡ 11
    → sum_of (get_or l 1 0) (get_or l 2 0) (get_or l 3 0) (get_or l 4 0) (get_or l 5 0) (get_or l 6 0) (get_or l 7 0) (get_or l 8 0) (get_or l 9 0) (get_or l 10 0) ≡ iswc_sum l
sum_is l h = sum-of _ _ _ _ _ _ _ _ _ _ _ ∙ ap iswc_sum (spelled 11 l h)

pub first_is : (l : Bytes) → length l ≡ 11 → eqb 84 (get_or l 0 0) ≡ same_bytes (ascii "T") (field_of 1 1 l)
unfolding field_of
first_is l h = sym (and-true (eqb 84 (get_or l 0 0))) ∙ ap (λ (x : Bytes). same_bytes (ascii "T") (field_of 1 1 x)) (spelled 11 l h)

pub ten_are : (l : Bytes) → length l ≡ 11
    → (are_digits (get_or l 1 0 ∷ get_or l 2 0 ∷ [])
    && (are_digits (get_or l 3 0 ∷ get_or l 4 0 ∷ [])
    && (are_digits (get_or l 5 0 ∷ get_or l 6 0 ∷ [])
    && (are_digits (get_or l 7 0 ∷ get_or l 8 0 ∷ []) && are_digits (get_or l 9 0 ∷ get_or l 10 0 ∷ [])))))
    ≡ are_digits (field_of 2 10 l)
unfolding field_of
ten_are l h = rw (digits-on, digits-on, digits-on, digits-on) (ap (λ (x : Bytes). are_digits (field_of 2 10 x)) (spelled 11 l h))

-- ---- a share

pub five_are : (l : Bytes) → length l ≡ 5
    → (are_digits (get_or l 0 0 ∷ get_or l 1 0 ∷ []) && (are_digits (get_or l 2 0 ∷ get_or l 3 0 ∷ []) && is_digit (get_or l 4 0))) ≡ are_digits l
five_are l h = rw (digits-one, digits-on, digits-on) (ap are_digits (spelled 5 l h))

pub five_number : (l : Bytes) → length l ≡ 5
    → 1000 * number_of (get_or l 0 0 ∷ get_or l 1 0 ∷ []) + 10 * number_of (get_or l 2 0 ∷ get_or l 3 0 ∷ []) + digit (get_or l 4 0) ≡ number_of l
five_number l h = number-five _ _ _ _ _ ∙ ap number_of (spelled 5 l h)
