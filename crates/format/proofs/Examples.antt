-- Worked examples in CWR 2.2: the definitions compute, and the theorems are not empty. Assumes nothing.
use Prim.Native.Nat.{ℕ, zero, suc, ◌≤◌, ◌<◌}
use mathlib.Core.Path.{◌≡◌, refl}
use mathlib.Core.List.{List, [], ◌∷◌, ◌++◌, map}
use lib.ListN.{length}
use lib.Dec.{leb, le→leb}
use borrow.Author.Tests.{lt-leb}
use Rattle.format.specs.Ascii.{ascii}
use Rattle.format.specs.Bytes.{Bytes, All, Text, is_text, decimal, inserted, put, unlines}
use Rattle.format.specs.Fields.{field_of, are_digits, number_of}
use Rattle.format.specs.Doc.{Doc, prefixed, opened, closed, written, write}
use Rattle.format.specs.Table.{start, width}
use Rattle.format.specs.Cwr22.{cwr22, rows22, version22}
use Rattle.format.specs.WellFormed.{Item, item, items}
use Rattle.format.specs.Lines.{lines}
use Rattle.format.specs.Structure.{refused, passed, most_bytes, most_records, judged, structure}
use Rattle.format.specs.Numbering.{placed, numbering, numbered_file}
use Rattle.format.proofs.Logic.{is_true}
use Rattle.format.proofs.Lines.{lines-unlines}

abbrev spaces : ℕ → Bytes
spaces zero = []
spaces (suc n) = 32 ∷ spaces n

-- version 2.2 (start 102), revision 002
hdr : Bytes
hdr = ascii "HDR" ++ spaces 98 ++ ascii "2.2002" ++ spaces 60

grh : Bytes
grh = ascii "GRHNWR" ++ spaces 17

-- title A (20), work number 1 (82), date zeros (107), category POP (127), duration zeros (130)
nwr : Bytes
nwr = ascii "NWRA" ++ spaces 61 ++ ascii "1" ++ spaces 24 ++ ascii "00000000" ++ spaces 12 ++ ascii "POP000000" ++ spaces 125

-- party 1 (20), name B (29), designation C (105), shares 10000 (130, 138, 146)
swr : Bytes
swr =
    ascii "SWR1" ++ spaces 8 ++ ascii "B" ++ spaces 75 ++ ascii "C" ++ spaces 24
    ++ ascii "10000" ++ spaces 3 ++ ascii "10000" ++ spaces 3 ++ ascii "10000" ++ spaces 30

grt : Bytes
grt = ascii "GRT" ++ spaces 13

trl : Bytes
trl = ascii "TRL"

-- file A of the scope, without its numbers
doc_a : Doc
doc_a =
    record {
      header = hdr;
      groups = record { opening = grh; transactions = record { header = nwr; details = swr ∷ [] } ∷ []; closing = grt } ∷ [];
      trailer = trl;
    }

unfoldable pub file_a : Bytes
unfolding doc_a hdr nwr swr grh grt trl write written decimal inserted
file_a = write doc_a

A-passes : structure cwr22 file_a ≡ passed 1 1 6
unfolding file_a structure judged lines is_text decimal rows22 version22 field_of are_digits number_of
A-passes = refl

-- file A with spaces at its number positions
blanked : Item → Bytes
unfolding inserted
blanked (item c s) = put (start c) (spaces (width c)) s

blank_a : Bytes
unfolding blanked doc_a hdr nwr swr grh grt trl items
blank_a = unlines (map blanked (items doc_a))

A-numbered : (numbering cwr22 blank_a ≡ passed 1 1 6) × (numbered_file cwr22 blank_a ≡ file_a)
unfolding blank_a file_a numbering numbered_file placed lines is_text decimal inserted rows22 version22 field_of are_digits number_of
A-numbered = (refl, refl)

blank-refused : structure cwr22 blank_a ≡ refused 8 1
unfolding blank_a structure judged lines is_text decimal rows22
blank-refused = refl

empty-refused : structure cwr22 [] ≡ refused 7 0
unfolding structure judged lines
empty-refused = refl

-- ---- refusals 3 and 5, of any file and any records

too_long : (f : Bytes) → most_bytes < length f → (structure cwr22 f ≡ refused 3 0) × (numbering cwr22 f ≡ refused 3 0)
unfolding structure numbering
too_long f h = let over = lt-leb (length f) most_bytes h in (rw over, rw over)

too_many : (rs : List Bytes) → All Text rs → length (unlines rs) ≤ most_bytes → most_records < length rs
    → (structure cwr22 (unlines rs) ≡ refused 5 131072) × (numbering cwr22 (unlines rs) ≡ refused 5 131072)
unfolding structure numbering
too_many rs h short many =
    let within = is_true (leb (length (unlines rs)) most_bytes) (le→leb (length (unlines rs)) most_bytes short) in
    let over = lt-leb (length rs) most_records many in
    (rw (within, lines-unlines rs h, over), rw (within, lines-unlines rs h, over))

-- ---- refusal 4 at the number of pairs before the fault; an empty line is a record, and is refused by 6

text-left : structure cwr22 (ascii "HDR") ≡ refused 4 0
unfolding structure judged lines is_text
text-left = refl

lone-lf : structure cwr22 (13 ∷ 10 ∷ 10 ∷ []) ≡ refused 4 1
unfolding structure judged lines is_text
lone-lf = refl

two-crs : structure cwr22 (13 ∷ 13 ∷ 10 ∷ []) ≡ refused 4 0
unfolding structure judged lines is_text
two-crs = refl

empty-line : structure cwr22 (13 ∷ 10 ∷ []) ≡ refused 6 0
unfolding structure judged lines is_text rows22
empty-line = refl

-- ---- refusals 6 and 7: each check runs over the whole file before the next

xrf : ℕ → Bytes
xrf n = ascii "XRF" ++ spaces n

-- a second HDR at 3, and a record 9 that is n bytes longer than its type
tenth : ℕ → Bytes
unfolding xrf hdr nwr
tenth n =
    unlines
    (hdr ∷ (ascii "GRHNWR" ++ spaces 22) ∷ (nwr ++ spaces 16) ∷ hdr
    ∷ xrf 35 ∷ xrf 35 ∷ xrf 35 ∷ xrf 35 ∷ xrf 35 ∷ (xrf 35 ++ spaces n) ∷ [])

length-first : structure cwr22 (tenth 1) ≡ refused 6 9
unfolding tenth structure judged lines is_text rows22
length-first = refl

then-place : structure cwr22 (tenth 0) ≡ refused 7 3
unfolding tenth structure judged lines is_text rows22
then-place = refl

-- ---- refusals 8, 9 and 10: file A with one number wrong, and with another version

with_numbers : ℕ → ℕ → ℕ → ℕ → ℕ → ℕ → Bytes → Bytes
unfolding grh nwr swr grt trl decimal inserted
with_numbers g t k h n m first =
    unlines (first ∷ opened g grh ∷ prefixed t 0 nwr ∷ prefixed t k swr ∷ closed h 1 n grt ∷ closed 1 1 m trl ∷ [])

right-numbers : with_numbers 1 0 1 1 4 6 hdr ≡ file_a
unfolding with_numbers file_a
right-numbers = refl

group-number : structure cwr22 (with_numbers 2 0 1 1 4 6 hdr) ≡ refused 8 1
unfolding with_numbers hdr structure judged lines is_text decimal rows22
group-number = refl

transaction-number : structure cwr22 (with_numbers 1 1 1 1 4 6 hdr) ≡ refused 8 2
unfolding with_numbers hdr structure judged lines is_text decimal rows22
transaction-number = refl

record-number : structure cwr22 (with_numbers 1 0 0 1 4 6 hdr) ≡ refused 8 3
unfolding with_numbers hdr structure judged lines is_text decimal rows22
record-number = refl

closing-group : structure cwr22 (with_numbers 1 0 1 2 4 6 hdr) ≡ refused 9 4
unfolding with_numbers hdr structure judged lines is_text decimal rows22
closing-group = refl

closing-records : structure cwr22 (with_numbers 1 0 1 1 3 6 hdr) ≡ refused 9 4
unfolding with_numbers hdr structure judged lines is_text decimal rows22
closing-records = refl

trailer-records : structure cwr22 (with_numbers 1 0 1 1 4 4 hdr) ≡ refused 9 5
unfolding with_numbers hdr structure judged lines is_text decimal rows22
trailer-records = refl

blank-version : structure cwr22 (with_numbers 1 0 1 1 4 6 (ascii "HDR" ++ spaces 164)) ≡ refused 10 0
unfolding with_numbers structure judged lines is_text decimal rows22 version22 field_of are_digits number_of
blank-version = refl
