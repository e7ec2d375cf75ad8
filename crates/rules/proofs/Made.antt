-- Records for worked examples, as they stand in a file, and their findings by number. Assumes nothing.
use Prim.Native.Nat.{ℕ, suc, ◌+◌, ◌-◌}
use Prim.Native.String.{String}
use mathlib.Core.Bool.{Bool, cond}
use mathlib.Core.List.{List, [], ◌∷◌, ◌++◌, map}
use lib.ListN.{length, take, drop, replicate}
use Rattle.format.specs.Ascii.{ascii}
use Rattle.format.specs.Bytes.{Bytes}
use Rattle.format.specs.Fields.{field_of, is_blank, are_digits, number_of}
use Rattle.format.specs.Stages.{stages, spots, begins}
use Rattle.rules.specs.Tables.{entries, is_in}
use Rattle.rules.specs.Values.{are_zeros, is_date, days_in, is_duration, is_iswc, iswc_sum, share_of, bad_share}
use Rattle.rules.specs.Header.{is16, is17, is18, is19, is20, is21, is22, is23}
use Rattle.rules.specs.Publisher.{chain, type_in_force, earlier_e, is25, is26, is27, is28, is29, is30, is31, is32, is33, is34, is35, is36, is37}
use Rattle.rules.specs.Writer.{designation_in_force, is38, is39, is40, is41, is42}
use Rattle.rules.specs.Other.{is24, is43, date_in_force, duration_in_force, is44, is45, is46}
use Rattle.rules.specs.Findings.{field_findings, own_findings}
use Rattle.rules.specs.Totals.{publishers_total, writers_total, is1, is2, is3}
use Rattle.rules.specs.Writers.{is4, is5, is6, is7, is10}
use Rattle.rules.specs.Order.{in_order, is8}
use Rattle.rules.specs.Chains.{is11, is12, is13, is14}
use Rattle.rules.specs.Works.{is0, is9, is15, header_findings, transaction_findings}
use Rattle.rules.specs.Listing.{listing_tables}

-- a field's start, counted from 1, and its text
infix 90 ◌is◌
pub data Entry : Type 0 where
  ◌is◌ : ℕ → String → Entry

abbrev pub written : Bytes → List Entry → Bytes
written r [] = r
written r ((start is text) ∷ es) = written (take (start - 1) r ++ ascii text ++ drop (start - 1 + length (ascii text)) r) es

-- a record of a type and a length, spaces where no text is given
unfoldable pub made : String → ℕ → List Entry → Bytes
made type n es = written (replicate n 32) ((1 is type) ∷ es)

-- ---- each with no finding of its own; entries put other text over it

unfoldable pub header : String → List Entry → Bytes
header type es = made type 260 (20 is "A" ∷ 82 is "1" ∷ 107 is "00000000" ∷ 127 is "POP000000" ∷ es)

unfoldable pub publisher : String → List Entry → Bytes
publisher type es =
    made type 183 (20 is "01" ∷ 22 is "1" ∷ 31 is "P" ∷ 77 is "E " ∷ 116 is "00000" ∷ 124 is "00000" ∷ 132 is "00000" ∷ es)

unfoldable pub writer : String → List Entry → Bytes
writer type es = made type 180 (20 is "1" ∷ 29 is "W" ∷ 105 is "C" ∷ 130 is "10000" ∷ 138 is "10000" ∷ 146 is "10000" ∷ es)

-- ---- what is found

-- the numbers of the findings that hold
unfoldable pub numbers_from : ℕ → List Bool → List ℕ
numbers_from n [] = []
numbers_from n (b ∷ bs) = cond b (n ∷ numbers_from (suc n) bs) (numbers_from (suc n) bs)

-- of a header and its details, in a group for NWR, under the tolerance t
unfoldable pub found_on : ℕ → Bytes → List Bytes → List (List ℕ)
unfolding numbers_from made header publisher writer transaction_findings header_findings field_findings own_findings
    is0 is1 is2 is3 is4 is5 is6 is7 is8 is9 is10 is11 is12 is13 is14 is15 is16 is17 is18 is19 is20 is21 is22 is23 is24
    is25 is26 is27 is28 is29 is30 is31 is32 is33 is34 is35 is36 is37 is38 is39 is40 is41 is42 is43 is44 is45 is46
    field_of is_blank are_digits number_of is_in entries are_zeros is_date days_in is_duration is_iswc iswc_sum share_of bad_share
    type_in_force earlier_e designation_in_force date_in_force duration_in_force publishers_total writers_total in_order spots stages begins chain
found_on t h ds = map (numbers_from 0) (transaction_findings listing_tables t (ascii "NWR") (record { header = h; details = ds }))
