-- The listing: what the program prints for its input.
use Rattle.std.specs.Prelude.{ℕ, suc, ◌*◌, Bool, cond, List, [], ◌∷◌, ◌++◌, leb, eqb, length, take}
use Rattle.format.specs.Ascii.{ascii}
use Rattle.format.specs.Bytes.{Bytes, decimal}
use Rattle.format.specs.Lines.{lines}
use Rattle.format.specs.Structure.{Answer, refused, passed, most_records}
use Rattle.format.specs.Numbering.{records_in}
use Rattle.rules.specs.Tables.{Tables}
use Rattle.rules.specs.Values.{largest_tolerance}
use Rattle.rules.specs.Findings.{count_of, lowest_of}
use Rattle.rules.specs.Verdicts.{file_findings, file_verdicts}
use Rattle.rules.specs.Outcome.{answer, content}

-- ---- one line

-- words with a space between, and LF after the last
abbrev pub spaced : List Bytes → Bytes
spaced [] = 10 ∷ []
spaced (w ∷ []) = w ++ 10 ∷ []
spaced (w ∷ x ∷ ws) = w ++ 32 ∷ spaced (x ∷ ws)

-- the last digit stays, whatever it is
abbrev pub without_zeros : Bytes → Bytes
without_zeros [] = []
without_zeros (b ∷ []) = b ∷ []
without_zeros (b ∷ c ∷ bs) = cond (eqb b 48) (without_zeros (c ∷ bs)) (b ∷ c ∷ bs)

-- a number below 10,000,000,000 in digits, no zero before them
unfoldable pub figure : ℕ → Bytes
figure n = without_zeros (decimal 10 n)

-- the lowest finding, or a dash
abbrev pub lowest_word : List Bool → Bytes
lowest_word set = cond (eqb (count_of set) 0) (ascii "-") (figure (lowest_of set))

-- a record's number, type, verdict, number of findings and lowest finding
unfoldable pub record_line : ℕ → Bytes → ℕ → List Bool → Bytes
record_line n r verdict set = spaced (figure n ∷ take 3 r ∷ figure verdict ∷ figure (count_of set) ∷ lowest_word set ∷ [])

unfoldable pub answer_line : Answer → Bytes
answer_line (refused n i) = spaced (ascii "REFUSED" ∷ figure n ∷ figure i ∷ [])
answer_line (passed g m n) = spaced (ascii "GROUPS" ∷ figure g ∷ ascii "TRANSACTIONS" ∷ figure m ∷ ascii "RECORDS" ∷ figure n ∷ [])

-- ---- all lines

-- a line for each record, from number n on
abbrev pub record_lines : ℕ → List Bytes → List ℕ → List (List Bool) → Bytes
record_lines n [] vs ss = []
record_lines n (r ∷ rs) [] ss = []
record_lines n (r ∷ rs) (v ∷ vs) [] = []
record_lines n (r ∷ rs) (v ∷ vs) (s ∷ ss) = record_line n r v s ++ record_lines (suc n) rs vs ss

-- after a refusal no record is listed
abbrev pub listed_after : Answer → Bytes → Bytes
listed_after (refused n i) text = []
listed_after (passed g m n) text = text

unfoldable pub listed : Tables → ℕ → Bytes → Bytes
listed tables t f =
    answer_line (answer tables t f most_records (8 * most_records))
    ++ listed_after (answer tables t f most_records (8 * most_records))
    (record_lines 0 (records_in (lines f)) (file_verdicts tables t (content f)) (file_findings tables t (content f)))

-- ---- the program

abbrev pub most_input : ℕ
most_input = 65536

abbrev pub listing_tables : Tables
listing_tables = record { languages = ascii "ENFRDE"; societies = ascii "035044058"; categories = ascii "POPJAZSER" }

-- what it prints for an input, which is checked with the largest tolerance and not in the short form (M-104)
unfoldable pub listing : Bytes → Bytes
listing f = cond (leb (length f) most_input) (listed listing_tables largest_tolerance f) (spaced (ascii "INPUT TOO LONG" ∷ []))
