-- What a field may hold: a date, a duration, an ISWC, a share.
use Rattle.std.specs.Prelude.{ℕ, suc, ◌+◌, ◌-◌, ◌*◌, ◌%◌, Bool, not, cond, ◌&&◌, ◌||◌, List, [], ◌∷◌, leb, eqb, get_or, replicate}
use Rattle.format.specs.Ascii.{ascii}
use Rattle.format.specs.Bytes.{Bytes, every, same_bytes}
use Rattle.format.specs.Fields.{field_of, is_blank, are_digits, digit, number_of}

-- ---- entered, zeros, spaces

-- not all spaces
abbrev pub entered : Bytes → Bool
entered f = not (is_blank f)

unfoldable pub are_zeros : Bytes → Bool
are_zeros f = every (λ b. eqb b 48) f

abbrev pub zeros : ℕ → Bytes
zeros size = replicate size 48

abbrev pub spaces : ℕ → Bytes
spaces size = replicate size 32

-- ---- a date, YYYYMMDD: year 1 or later, a month 1 to 12 and a day of that month, Gregorian

abbrev pub leap_year : ℕ → Bool
leap_year y = eqb (y % 4) 0 && (not (eqb (y % 100) 0) || eqb (y % 400) 0)

abbrev pub month_lengths : ℕ → List ℕ
month_lengths y = 31 ∷ cond (leap_year y) 29 28 ∷ 31 ∷ 30 ∷ 31 ∷ 30 ∷ 31 ∷ 31 ∷ 30 ∷ 31 ∷ 30 ∷ 31 ∷ []

-- of a month 1 to 12
unfoldable pub days_in : ℕ → ℕ → ℕ
days_in y m = get_or (month_lengths y) (m - 1) 0

abbrev pub is_day : ℕ → ℕ → ℕ → Bool
is_day y m d = leb 1 y && leb 1 m && leb m 12 && leb 1 d && leb d (days_in y m)

unfoldable pub is_date : Bytes → Bool
is_date f = are_digits f && is_day (number_of (field_of 1 4 f)) (number_of (field_of 5 2 f)) (number_of (field_of 7 2 f))

-- ---- a duration, HHMMSS: six digits, minutes and seconds at most 59

unfoldable pub is_duration : Bytes → Bool
is_duration f = are_digits f && leb (number_of (field_of 3 2 f)) 59 && leb (number_of (field_of 5 2 f)) 59

-- ---- an ISWC (ISO 15707): T and ten digits; 1 plus the first nine weighted 1 to 9 plus the last is a multiple of 10

-- digits weighted k, k + 1 and so on
abbrev pub weighted : ℕ → Bytes → ℕ
weighted k [] = 0
weighted k (b ∷ bs) = k * digit b + weighted (suc k) bs

unfoldable pub iswc_sum : Bytes → ℕ
iswc_sum f = 1 + weighted 1 (field_of 2 9 f) + number_of (field_of 11 1 f)

unfoldable pub is_iswc : Bytes → Bool
is_iswc f = same_bytes (ascii "T") (field_of 1 1 f) && are_digits (field_of 2 10 f) && eqb (iswc_sum f % 10) 0

-- ---- a share, in hundredths of a percent

abbrev pub full_share : ℕ
full_share = 10000

-- the publishers' half of performing rights
abbrev pub half_share : ℕ
half_share = 5000

abbrev pub largest_tolerance : ℕ
largest_tolerance = 6

-- what a share field counts: 0 where it isn't five digits
unfoldable pub share_of : Bytes → ℕ
share_of f = cond (are_digits f) (number_of f) 0

-- not five digits, or over the most
unfoldable pub bad_share : ℕ → Bytes → Bool
bad_share most f = not (are_digits f && leb (number_of f) most)
