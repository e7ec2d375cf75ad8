-- The shares of a transaction: its totals over publishers and over writers, and findings 1 to 3 on them.
use Rattle.std.specs.Prelude.{ℕ, ◌+◌, ◌-◌, Bool, not, ◌&&◌, ◌||◌, List, [], ◌∷◌, leb, eqb}
use Rattle.format.specs.Bytes.{Bytes}
use Rattle.rules.specs.Values.{full_share, half_share, share_of}
use Rattle.rules.specs.Records.{is_publisher, is_writer, only}
use Rattle.rules.specs.Publisher as Publisher
use Rattle.rules.specs.Writer as Writer

-- performing, mechanical and synchronisation rights
pub data Right : Type 0 where
  PR MR SR : Right

-- what a record's share counts
abbrev pub publisher_share : Right → Bytes → ℕ
publisher_share PR r = share_of (Publisher.share_pr r)
publisher_share MR r = share_of (Publisher.share_mr r)
publisher_share SR r = share_of (Publisher.share_sr r)

abbrev pub writer_share : Right → Bytes → ℕ
writer_share PR r = share_of (Writer.share_pr r)
writer_share MR r = share_of (Writer.share_mr r)
writer_share SR r = share_of (Writer.share_sr r)

abbrev pub sum_of : {A : Type 0} → (A → ℕ) → List A → ℕ
sum_of f [] = 0
sum_of f (r ∷ rs) = f r + sum_of f rs

-- SPU and OPU; SWR and OWR; all four
unfoldable pub publishers_total : Right → List Bytes → ℕ
publishers_total right details = sum_of (publisher_share right) (only is_publisher details)

unfoldable pub writers_total : Right → List Bytes → ℕ
writers_total right details = sum_of (writer_share right) (only is_writer details)

abbrev pub whole_total : Right → List Bytes → ℕ
whole_total right details = publishers_total right details + writers_total right details

-- under the tolerance t: over the most; exactly 0 or about the most
abbrev pub exceeds : ℕ → ℕ → ℕ → Bool
exceeds t most total = not (leb total (most + t))

abbrev pub zero_or_full : ℕ → ℕ → Bool
zero_or_full t total = eqb total 0 || (leb (full_share - t) total && leb total (full_share + t))

-- T4, TR: the publishers' total is over 5000 for PR, over 10000 for MR or SR
unfoldable pub is1 : ℕ → List Bytes → Bool
is1 t ds = exceeds t half_share (publishers_total PR ds) || exceeds t full_share (publishers_total MR ds) || exceeds t full_share (publishers_total SR ds)

-- T9, TR: the writers' total for PR is neither 0 nor at least 5000, or that of any right is over 10000; the tolerance is for the zero too
unfoldable pub is2 : ℕ → List Bytes → Bool
is2 t ds =
    not (leb (writers_total PR ds) (0 + t) || leb (half_share - t) (writers_total PR ds))
    || exceeds t full_share (writers_total PR ds)
    || exceeds t full_share (writers_total MR ds)
    || exceeds t full_share (writers_total SR ds)

-- T11, TR: the total of all four for some right is neither exactly 0 nor 10000
unfoldable pub is3 : ℕ → List Bytes → Bool
is3 t ds = not (zero_or_full t (whole_total PR ds) && zero_or_full t (whole_total MR ds) && zero_or_full t (whole_total SR ds))
