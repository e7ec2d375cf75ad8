-- Findings on a publisher record, SPU or OPU. Two of them look at the records before it in its transaction.
use Rattle.std.specs.Prelude.{ℕ, suc, Bool, not, cond, ◌&&◌, ◌||◌, List, ltb, eqb}
use Rattle.std.proofs.Math.Option.{Option, none, some}
use Rattle.format.specs.Ascii.{ascii}
use Rattle.format.specs.Bytes.{Bytes, same_bytes, among}
use Rattle.format.specs.Fields.{field_of, is_blank, are_digits, number_of}
use Rattle.rules.specs.Tables.{Tables, society_size, is_in, publisher_types}
use Rattle.rules.specs.Values.{entered, zeros, spaces, full_share, half_share, share_of, bad_share}
use Rattle.rules.specs.Records.{is_type, is_publisher, only, any, latest}

-- ---- fields: start and size

abbrev pub sequence_number : Bytes → Bytes
sequence_number r = field_of 20 2 r

abbrev pub party_number : Bytes → Bytes
party_number r = field_of 22 9 r

abbrev pub name : Bytes → Bytes
name r = field_of 31 45 r

abbrev pub indicator : Bytes → Bytes
indicator r = field_of 76 1 r

abbrev pub publisher_type : Bytes → Bytes
publisher_type r = field_of 77 2 r

abbrev pub tax_number : Bytes → Bytes
tax_number r = field_of 79 9 r

-- society and share of PR, MR, SR
abbrev pub society_pr : Bytes → Bytes
society_pr r = field_of 113 3 r

abbrev pub share_pr : Bytes → Bytes
share_pr r = field_of 116 5 r

abbrev pub society_mr : Bytes → Bytes
society_mr r = field_of 121 3 r

abbrev pub share_mr : Bytes → Bytes
share_mr r = field_of 124 5 r

abbrev pub society_sr : Bytes → Bytes
society_sr r = field_of 129 3 r

abbrev pub share_sr : Bytes → Bytes
share_sr r = field_of 132 5 r

-- ---- chains

-- in chain k are the publisher records whose sequence number is two digits of value k; a record without two digits is in no chain
abbrev pub in_chain : ℕ → Bytes → Bool
in_chain k r = is_publisher r && are_digits (sequence_number r) && eqb (number_of (sequence_number r)) k

-- those among the details, in order
unfoldable pub chain : ℕ → List Bytes → List Bytes
chain k details = only (in_chain k) details

-- ---- findings

-- 25: the sequence number is two digits, equal to that of the publisher record before or one more; the first is 01
abbrev pub follows : Option Bytes → Bytes → Bool
follows none r = same_bytes (ascii "01") (sequence_number r)
follows (some p) r =
    are_digits (sequence_number p)
    && are_digits (sequence_number r)
    && (eqb (number_of (sequence_number r)) (number_of (sequence_number p)) || eqb (number_of (sequence_number r)) (suc (number_of (sequence_number p))))

-- P1, TR: the sequence number does not follow
unfoldable pub is25 : List Bytes → Bytes → Bool
is25 before r = is_publisher r && not (follows (latest (only is_publisher before)) r)

-- P2, TR: SPU party number blank
unfoldable pub is26 : Bytes → Bool
is26 r = is_type "SPU" r && is_blank (party_number r)

-- P4, TR: name blank where SPU, or OPU whose indicator isn't Y
unfoldable pub is27 : Bytes → Bool
is27 r = (is_type "SPU" r || (is_type "OPU" r && not (same_bytes (ascii "Y") (indicator r)))) && is_blank (name r)

-- P5 and P6, TR: SPU type not in the table
unfoldable pub is28 : Bytes → Bool
is28 r = is_type "SPU" r && not (among (publisher_type r) publisher_types)

-- P7, TR: SPU indicator not blank
unfoldable pub is29 : Bytes → Bool
is29 r = is_type "SPU" r && entered (indicator r)

-- TR: a share that isn't five digits, or is over 5000 for PR, over 10000 for MR or SR
unfoldable pub is30 : Bytes → Bool
is30 r = is_publisher r && (bad_share half_share (share_pr r) || bad_share full_share (share_mr r) || bad_share full_share (share_sr r))

-- P28, FR, E: OPU type not in the table. It stands here because 31 sees its default
unfoldable pub is35 : Bytes → Bool
is35 r = is_type "OPU" r && not (among (publisher_type r) publisher_types)

abbrev pub default35 : Bytes
default35 = ascii "E "

-- the type with that default in force
unfoldable pub type_in_force : Bytes → Bytes
type_in_force r = cond (is35 r) default35 (publisher_type r)

abbrev pub is_e : Bytes → Bool
is_e r = same_bytes (ascii "E ") (type_in_force r)

abbrev pub is_aq : Bytes → Bool
is_aq r = same_bytes (ascii "AQ") (type_in_force r)

abbrev pub has_share : Bytes → Bool
has_share r = ltb 0 (share_of (share_pr r)) || ltb 0 (share_of (share_mr r)) || ltb 0 (share_of (share_sr r))

-- P19, TR: a share above 0, and type neither E nor AQ
unfoldable pub is31 : Bytes → Bool
is31 r = is_publisher r && has_share r && not (is_e r || is_aq r)

-- an SPU of type E; of type AQ
abbrev pub e_spu : Bytes → Bool
e_spu r = is_type "SPU" r && is_e r

abbrev pub aq_spu : Bytes → Bool
aq_spu r = is_type "SPU" r && is_aq r

-- it is in a chain, and an E SPU of that chain is among the records before
unfoldable pub earlier_e : List Bytes → Bytes → Bool
earlier_e before r = are_digits (sequence_number r) && any e_spu (chain (number_of (sequence_number r)) before)

-- P32, TR: AQ SPU with no earlier E SPU in its chain, or in no chain
unfoldable pub is32 : List Bytes → Bytes → Bool
is32 before r = aq_spu r && not (earlier_e before r)

-- P8, FR, N: OPU indicator not blank, Y or N
unfoldable pub is33 : Bytes → Bool
is33 r = is_type "OPU" r && not (is_blank (indicator r) || same_bytes (ascii "Y") (indicator r) || same_bytes (ascii "N") (indicator r))

-- P9, FR, N: OPU indicator Y with a name
unfoldable pub is34 : Bytes → Bool
is34 r = is_type "OPU" r && same_bytes (ascii "Y") (indicator r) && entered (name r)

abbrev pub default33 : Bytes
default33 = ascii "N"

abbrev pub default34 : Bytes
default34 = ascii "N"

-- the indicator with those defaults in force
unfoldable pub indicator_in_force : Bytes → Bytes
indicator_in_force r = cond (is33 r) default33 (cond (is34 r) default34 (indicator r))

-- 36: entered and not in the table
abbrev pub strange : Tables → Bytes → Bool
strange tables f = entered f && not (is_in society_size tables.societies f)

-- FR, spaces: a society code entered and not in the table
unfoldable pub is36 : Tables → Bytes → Bool
is36 tables r = is_publisher r && (strange tables (society_pr r) || strange tables (society_mr r) || strange tables (society_sr r))

abbrev pub default36 : Bytes
default36 = spaces 3

-- P23, FR, zeros: tax number entered, not digits
unfoldable pub is37 : Bytes → Bool
is37 r = is_publisher r && entered (tax_number r) && not (are_digits (tax_number r))

abbrev pub default37 : Bytes
default37 = zeros 9
