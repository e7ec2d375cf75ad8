-- Internal: the code's table of record types, made of the format's rows and stages, so that no type is written down a second time.
use Rattle.std.specs.Prelude.{ℕ, Bool, false, ◌||◌, cond, List, [], ◌∷◌, map, eqb, ltb, get_or}
use Rattle.format.specs.Ascii.{ascii}
use Rattle.format.specs.Bytes.{Bytes, same_bytes, among}
use Rattle.format.specs.Table.{Class as FormatClass, hdr, grh, head, detail, grt, trl, unknown, Row as FormatRow, row, row_of}
use Rattle.format.specs.Cwr22.{rows22}
use Rattle.format.specs.Stages.{Spot, spot, spots, begins, when}
use Rattle.kinds.specs.declared.Class.{Class}
use Rattle.kinds.specs.declared.Class.TheVariants.{Hdr, Grh, Head, Detail, Grt, Trl, Unknown}
use Rattle.kinds.specs.declared.Sort.{Sort}
use Rattle.kinds.specs.declared.Sort.TheVariants.{Nothing, Header, Publisher, Writer, Ewt, Ver, Per, Rec, Instrument, Misplaced, PublishersClaim, WritersClaim}
use Rattle.kinds.specs.declared.Row.{Row}
use Rattle.kinds.specs.declared.Shape.{Shape}

-- ---- a row of the format as the code has it

-- the type's spot of index i; stages are counted from 1, so that stage 0 says that there is none
abbrev pub spot_at : ℕ → Bytes → Spot
spot_at i type = get_or (spots type) i (spot 0 0)

-- the class of the code that stands for one of the format, and back
abbrev pub class_for : FormatClass → Class
class_for hdr = Hdr
class_for grh = Grh
class_for head = Head
class_for detail = Detail
class_for grt = Grt
class_for trl = Trl
class_for unknown = Unknown

abbrev pub class_in : Class → FormatClass
class_in Hdr = hdr
class_in Grh = grh
class_in Head = head
class_in Detail = detail
class_in Grt = grt
class_in Trl = trl
class_in Unknown = unknown

-- the types of each sort
abbrev pub types_of : Sort → List Bytes
types_of Nothing = []
types_of Header = ascii "NWR" ∷ ascii "REV" ∷ []
types_of Publisher = ascii "SPU" ∷ ascii "OPU" ∷ []
types_of Writer = ascii "SWR" ∷ ascii "OWR" ∷ []
types_of Ewt = ascii "EWT" ∷ []
types_of Ver = ascii "VER" ∷ []
types_of Per = ascii "PER" ∷ []
types_of Rec = ascii "REC" ∷ []
types_of Instrument = ascii "INS" ∷ ascii "IND" ∷ []
types_of Misplaced = ascii "TER" ∷ ascii "IPA" ∷ ascii "NPA" ∷ ascii "MSG" ∷ []
types_of PublishersClaim = ascii "SPT" ∷ ascii "OPT" ∷ []
types_of WritersClaim = ascii "SWT" ∷ ascii "OWT" ∷ []

-- the first of these sorts that has the type, and Nothing where none has it
abbrev pub sort_among : Bytes → List Sort → Sort
sort_among type [] = Nothing
sort_among type (s ∷ rest) = cond (among type (types_of s)) s (sort_among type rest)

abbrev pub sorts : List Sort
sorts =
    Header ∷ Publisher ∷ Writer ∷ Ewt ∷ Ver ∷ Per ∷ Rec ∷ Instrument ∷ Misplaced ∷ PublishersClaim ∷ WritersClaim ∷ []

unfoldable pub sort_of : Bytes → Sort
sort_of type = sort_among type sorts

-- whether two sorts are the same one
abbrev pub place_of : Sort → ℕ
place_of Nothing = 0
place_of Header = 1
place_of Publisher = 2
place_of Writer = 3
place_of Ewt = 4
place_of Ver = 5
place_of Per = 6
place_of Rec = 7
place_of Instrument = 8
place_of Misplaced = 9
place_of PublishersClaim = 10
place_of WritersClaim = 11

abbrev pub same_sort : Sort → Sort → Bool
same_sort a b = eqb (place_of a) (place_of b)

-- a party of its transaction begins with a record of the sort; and its records are claims
abbrev pub of_party : Sort → Bool
of_party s = same_sort s Publisher || same_sort s Writer

abbrev pub of_claim : Sort → Bool
of_claim s = same_sort s PublishersClaim || same_sort s WritersClaim

-- one rank serves for all spots of a type: no type has spots of two ranks
abbrev pub code_row : FormatRow → Row
code_row (row type n c) =
    record {
      a = get_or type 0 0;
      b = get_or type 1 0;
      c = get_or type 2 0;
      class = class_for c;
      length = n;
      first = (spot_at 0 type).stage;
      second = (spot_at 1 type).stage;
      third = (spot_at 2 type).stage;
      rank = (spot_at 0 type).rank;
      alone = begins type;
      sort = sort_of type;
    }

unfoldable pub kinds : List Row
kinds = map code_row rows22

-- the row of a type; where the format has no such type, that of `unknown`
unfoldable pub row_for : Bytes → Row
row_for type = code_row (row_of rows22 type)

-- ---- a search among the code's rows

abbrev pub type_of : Row → Bytes
type_of r = r.a ∷ r.b ∷ r.c ∷ []

abbrev pub no_row : Row
no_row = record { a = 0; b = 0; c = 0; class = Unknown; length = 0; first = 0; second = 0; third = 0; rank = 0; alone = false; sort = Nothing }

abbrev pub first_row : List Row → Bytes → Row
first_row [] type = no_row
first_row (r ∷ rs) type = cond (same_bytes (type_of r) type) r (first_row rs type)

-- ---- the spots that a row's columns say: a stage 0 is none

abbrev pub column : ℕ → ℕ → List Spot → List Spot
column stage rank rest = when (ltb 0 stage) (spot stage rank) rest

abbrev pub spots_of : Row → List Spot
spots_of r = column r.first r.rank (column r.second r.rank (column r.third r.rank []))

abbrev pub shape_of : Row → Shape
shape_of r = record { class = r.class; length = r.length }
