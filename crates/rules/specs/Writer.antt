-- Findings on a writer record, SWR or OWR.
use Rattle.std.specs.Prelude.{Bool, not, cond, ◌&&◌, ◌||◌}
use Rattle.format.specs.Bytes.{Bytes, among}
use Rattle.format.specs.Fields.{field_of, is_blank}
use Rattle.rules.specs.Tables.{designations}
use Rattle.rules.specs.Values.{entered, spaces, full_share, bad_share}
use Rattle.rules.specs.Records.{is_type, is_writer}

-- ---- fields: start and size

abbrev pub party_number : Bytes → Bytes
party_number r = field_of 20 9 r

abbrev pub last_name : Bytes → Bytes
last_name r = field_of 29 45 r

abbrev pub designation : Bytes → Bytes
designation r = field_of 105 2 r

abbrev pub share_pr : Bytes → Bytes
share_pr r = field_of 130 5 r

abbrev pub share_mr : Bytes → Bytes
share_mr r = field_of 138 5 r

abbrev pub share_sr : Bytes → Bytes
share_sr r = field_of 146 5 r

-- ---- findings

-- TR: SWR last name blank
unfoldable pub is38 : Bytes → Bool
is38 r = is_type "SWR" r && is_blank (last_name r)

-- TR: SWR designation not in the table
unfoldable pub is39 : Bytes → Bool
is39 r = is_type "SWR" r && not (among (designation r) designations)

-- FR, spaces: OWR designation entered, not in the table
unfoldable pub is40 : Bytes → Bool
is40 r = is_type "OWR" r && entered (designation r) && not (among (designation r) designations)

abbrev pub default40 : Bytes
default40 = spaces 2

-- the designation with that default in force, as the transaction's findings see it
unfoldable pub designation_in_force : Bytes → Bytes
designation_in_force r = cond (is40 r) default40 (designation r)

-- TR: a share that isn't five digits, or is over 10000
unfoldable pub is41 : Bytes → Bool
is41 r = is_writer r && (bad_share full_share (share_pr r) || bad_share full_share (share_mr r) || bad_share full_share (share_sr r))

-- TR: SWR party number blank
unfoldable pub is42 : Bytes → Bool
is42 r = is_type "SWR" r && is_blank (party_number r)
