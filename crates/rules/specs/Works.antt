-- The findings of a whole transaction: the set of its header, and the set of each detail. They hang on the type that GRH names, the
-- transaction's records, the tables and the tolerance, and on nothing else.
use Rattle.std.specs.Prelude.{ℕ, Bool, not, ◌&&◌, ◌||◌, List, [], ◌∷◌, ◌++◌, ltb, length, take}
use Prim.Native.String.{String}
use Rattle.format.specs.Bytes.{Bytes, same_bytes}
use Rattle.format.specs.Doc.{Transaction}
use Rattle.format.specs.Fields.{field_of}
use Rattle.rules.specs.Tables.{Tables}
use Rattle.rules.specs.Records.{is_type, only, any}
use Rattle.rules.specs.Header.{is_serious}
use Rattle.rules.specs.Totals.{is1, is2, is3}
use Rattle.rules.specs.Writers.{is4, is5, is6, is7, is10}
use Rattle.rules.specs.Order.{is8}
use Rattle.rules.specs.Chains.{is11, is12, is13, is14}
use Rattle.rules.specs.Findings.{field_findings, own_findings}

-- the transaction type that a GRH names: start and size
abbrev pub named_type : Bytes → Bytes
named_type grh = field_of 4 3 grh

-- T22, GR: the header's type differs from the GRH's
unfoldable pub is0 : Bytes → Bytes → Bool
is0 named h = not (same_bytes named (take 3 h))

-- T53, TR: category SER without INS or IND
unfoldable pub is9 : Bytes → List Bytes → Bool
is9 h ds = is_serious h && not (any (λ r. is_type "INS" r || is_type "IND" r) ds)

-- TR: more than one EWT, or more than one VER
abbrev pub several : String → List Bytes → Bool
several type ds = ltb 1 (length (only (is_type type) ds))

unfoldable pub is15 : List Bytes → Bool
is15 ds = several "EWT" ds || several "VER" ds

-- ---- sets

-- of the header: 0 to 15 over the transaction, and its own fields' findings
unfoldable pub header_findings : Tables → ℕ → Bytes → Transaction → List Bool
header_findings tables t named x =
    is0 named x.header
    ∷ is1 t x.details
    ∷ is2 t x.details
    ∷ is3 t x.details
    ∷ is4 x.details
    ∷ is5 x.details
    ∷ is6 x.header x.details
    ∷ is7 x.header x.details
    ∷ is8 x.details
    ∷ is9 x.header x.details
    ∷ is10 x.header x.details
    ∷ is11 x.details
    ∷ is12 x.details
    ∷ is13 x.details
    ∷ is14 x.details
    ∷ is15 x.details
    ∷ field_findings tables [] x.header

-- of each detail, given those before it
abbrev pub details_from : Tables → List Bytes → List Bytes → List (List Bool)
details_from tables before [] = []
details_from tables before (r ∷ rs) = own_findings tables before r ∷ details_from tables (before ++ r ∷ []) rs

unfoldable pub transaction_findings : Tables → ℕ → Bytes → Transaction → List (List Bool)
transaction_findings tables t named x = header_findings tables t named x ∷ details_from tables [] x.details
