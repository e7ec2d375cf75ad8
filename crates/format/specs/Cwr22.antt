-- CWR 2.2: the 38 record types with their lengths (001's tables: the last field's start plus size minus 1) and places, and HDR's
-- version and revision.
use Rattle.std.specs.Prelude.{ℕ, Bool, ◌&&◌, List, [], ◌∷◌, leb}
use Prim.Native.String.{String}
use Rattle.format.specs.Ascii.{ascii}
use Rattle.format.specs.Bytes.{Bytes, same_bytes}
use Rattle.format.specs.Fields.{field_of, are_digits, number_of}
use Rattle.format.specs.Table.{Class, hdr, grh, head, detail, grt, trl, Row, row, Table, table_of}

abbrev pub type : String → ℕ → Class → Row
type name len class = row (ascii name) len class

unfoldable pub rows22 : List Row
rows22 =
    type "HDR" 167 hdr
    ∷ type "GRH" 28 grh
    ∷ type "GRT" 37 grt
    ∷ type "TRL" 24 trl
    ∷ type "NWR" 260 head
    ∷ type "REV" 260 head
    ∷ type "TER" 24 detail
    ∷ type "IPA" 153 detail
    ∷ type "NPA" 350 detail
    ∷ type "SPU" 183 detail
    ∷ type "OPU" 183 detail
    ∷ type "NPN" 512 detail
    ∷ type "SPT" 58 detail
    ∷ type "OPT" 58 detail
    ∷ type "SWR" 180 detail
    ∷ type "OWR" 180 detail
    ∷ type "NWN" 350 detail
    ∷ type "SWT" 52 detail
    ∷ type "OWT" 52 detail
    ∷ type "PWR" 112 detail
    ∷ type "ALT" 83 detail
    ∷ type "NAT" 663 detail
    ∷ type "EWT" 364 detail
    ∷ type "VER" 364 detail
    ∷ type "PER" 118 detail
    ∷ type "NPR" 370 detail
    ∷ type "REC" 540 detail
    ∷ type "ORN" 348 detail
    ∷ type "INS" 75 detail
    ∷ type "IND" 25 detail
    ∷ type "COM" 308 detail
    ∷ type "MSG" 185 detail
    ∷ type "NET" 661 detail
    ∷ type "NCT" 661 detail
    ∷ type "NVT" 661 detail
    ∷ type "NOW" 342 detail
    ∷ type "ARI" 201 detail
    ∷ type "XRF" 38 detail
    ∷ []

-- 10: HDR's version (start 102, size 3) is 2.2, its revision (105, 3) three digits of value 0 to 2
unfoldable pub version22 : Bytes → Bool
version22 r = same_bytes (field_of 102 3 r) (ascii "2.2") && are_digits (field_of 105 3 r) && leb (number_of (field_of 105 3 r)) 2

abbrev pub cwr22 : Table
unfolding rows22
cwr22 = table_of rows22 version22 tt
