-- Findings on the other details.
use Rattle.std.specs.Prelude.{Bool, not, cond, ◌&&◌, ◌||◌}
use Rattle.format.specs.Bytes.{Bytes}
use Rattle.format.specs.Fields.{field_of, is_blank}
use Rattle.rules.specs.Values.{are_zeros, zeros, is_date, is_duration}
use Rattle.rules.specs.Records.{is_type}

-- T8, RR: a type that has no place in NWR and REV
unfoldable pub is24 : Bytes → Bool
is24 r = is_type "TER" r || is_type "IPA" r || is_type "NPA" r || is_type "MSG" r

-- RR: title of EWT or VER, or last name of PER, blank
unfoldable pub is43 : Bytes → Bool
is43 r = ((is_type "EWT" r || is_type "VER" r) && is_blank (field_of 20 60 r)) || (is_type "PER" r && is_blank (field_of 20 45 r))

-- ---- REC

abbrev pub release_date : Bytes → Bytes
release_date r = field_of 20 8 r

abbrev pub release_duration : Bytes → Bytes
release_duration r = field_of 88 6 r

-- FR, zeros: release date not zeros and invalid
unfoldable pub is45 : Bytes → Bool
is45 r = is_type "REC" r && not (are_zeros (release_date r)) && not (is_date (release_date r))

abbrev pub default45 : Bytes
default45 = zeros 8

unfoldable pub date_in_force : Bytes → Bytes
date_in_force r = cond (is45 r) default45 (release_date r)

-- FR, zeros: duration invalid
unfoldable pub is46 : Bytes → Bool
is46 r = is_type "REC" r && not (is_duration (release_duration r))

abbrev pub default46 : Bytes
default46 = zeros 6

unfoldable pub duration_in_force : Bytes → Bytes
duration_in_force r = cond (is46 r) default46 (release_duration r)

-- RR: with these defaults in force date and duration are zeros, and 99 to 540 is blank
unfoldable pub is44 : Bytes → Bool
is44 r = is_type "REC" r && are_zeros (date_in_force r) && are_zeros (duration_in_force r) && is_blank (field_of 99 442 r)
