-- A sheet in lent bytes: 83 numbers of eight bytes each, least significant byte first. A sum of differences has its sign in two's complement.
use Rattle.std.specs.Prelude.{ℕ, suc, ◌+◌, ◌-◌, ◌*◌, ◌^◌, cond, List, [], ◌∷◌, ◌++◌, ltb, ℤ, pos, negsuc, take, drop}
use Rattle.format.specs.Bytes.{Bytes, bytes_of}
use Rattle.rules.specs.Verdicts.{joined}
use Rattle.rules.specs.Sheet.{each, Missed, Sheet}
use Rattle.text.specs.Words.{word_of}

abbrev pub sheet_size : ℕ
sheet_size = 664

-- two's complement, both ways
abbrev pub signed_of : ℕ → ℤ
signed_of n = cond (ltb n (2 ^ 63)) (pos n) (negsuc (2 ^ 64 - suc n))

abbrev pub unsigned_of : ℤ → ℕ
unsigned_of (pos n) = n
unsigned_of (negsuc n) = 2 ^ 64 - suc n

-- ---- read

-- number k, and so many from number k on
unfoldable pub number_at : Bytes → ℕ → ℕ
number_at bytes k = word_of (take 8 (drop (8 * k) bytes))

abbrev pub numbers_at : Bytes → ℕ → ℕ → List ℕ
numbers_at bytes k n = each n (λ i. number_at bytes (k + i))

abbrev pub missed_at : Bytes → ℕ → Missed
missed_at bytes k = record {
  transactions = number_at bytes k;
  shortfall = number_at bytes (k + 1);
  excess = number_at bytes (k + 2);
  sum = signed_of (number_at bytes (k + 3));
}

unfoldable pub sheet_in : Bytes → Sheet
sheet_in bytes = record {
  files = number_at bytes 0;
  refused = number_at bytes 1;
  pr = missed_at bytes 2;
  mr = missed_at bytes 6;
  sr = missed_at bytes 10;
  findings = numbers_at bytes 14 64;
  verdicts = numbers_at bytes 78 5;
}

-- ---- written

abbrev pub missed_numbers : Missed → List ℕ
missed_numbers m = m.transactions ∷ m.shortfall ∷ m.excess ∷ unsigned_of m.sum ∷ []

abbrev pub front_numbers : Sheet → List ℕ
front_numbers s = s.files ∷ s.refused ∷ missed_numbers s.pr ++ missed_numbers s.mr ++ missed_numbers s.sr

unfoldable pub sheet_numbers : Sheet → List ℕ
sheet_numbers s = front_numbers s ++ s.findings ++ s.verdicts

unfoldable pub number_bytes : List ℕ → Bytes
number_bytes ns = joined (bytes_of 8) ns

unfoldable pub bytes_of_sheet : Sheet → Bytes
bytes_of_sheet s = number_bytes (sheet_numbers s)
