-- Findings on the fields of a transaction header, NWR or REV.
use Rattle.std.specs.Prelude.{Bool, not, ◌&&◌, ◌||◌}
use Rattle.format.specs.Ascii.{ascii}
use Rattle.format.specs.Bytes.{Bytes, same_bytes}
use Rattle.format.specs.Fields.{field_of, is_blank}
use Rattle.rules.specs.Tables.{Tables, language_size, category_size, is_in}
use Rattle.rules.specs.Values.{entered, are_zeros, zeros, spaces, is_date, is_duration, is_iswc}
use Rattle.rules.specs.Records.{is_header}

-- ---- fields: start and size

abbrev pub title : Bytes → Bytes
title r = field_of 20 60 r

abbrev pub language : Bytes → Bytes
language r = field_of 80 2 r

abbrev pub work_number : Bytes → Bytes
work_number r = field_of 82 14 r

abbrev pub iswc : Bytes → Bytes
iswc r = field_of 96 11 r

abbrev pub copyright_date : Bytes → Bytes
copyright_date r = field_of 107 8 r

abbrev pub category : Bytes → Bytes
category r = field_of 127 3 r

abbrev pub duration : Bytes → Bytes
duration r = field_of 130 6 r

abbrev pub is_serious : Bytes → Bool
is_serious r = same_bytes (ascii "SER") (category r)

-- ---- findings

-- N1, TR: title blank
unfoldable pub is16 : Bytes → Bool
is16 r = is_header r && is_blank (title r)

-- N2, TR: language entered and not in the table
unfoldable pub is17 : Tables → Bytes → Bool
is17 tables r = is_header r && entered (language r) && not (is_in language_size tables.languages (language r))

-- N3, TR: work number blank
unfoldable pub is18 : Bytes → Bool
is18 r = is_header r && is_blank (work_number r)

-- N4, FR, spaces: ISWC entered and invalid
unfoldable pub is19 : Bytes → Bool
is19 r = is_header r && entered (iswc r) && not (is_iswc (iswc r))

abbrev pub default19 : Bytes
default19 = spaces 11

-- N5, FR, zeros: copyright date not zeros and invalid
unfoldable pub is20 : Bytes → Bool
is20 r = is_header r && not (are_zeros (copyright_date r)) && not (is_date (copyright_date r))

abbrev pub default20 : Bytes
default20 = zeros 8

-- N6, TR: category not in the table; a blank one never is
unfoldable pub is21 : Tables → Bytes → Bool
is21 tables r = is_header r && (is_blank (category r) || not (is_in category_size tables.categories (category r)))

-- N7, TR: category SER, and duration zero or invalid
unfoldable pub is22 : Bytes → Bool
is22 r = is_header r && is_serious r && (are_zeros (duration r) || not (is_duration (duration r)))

-- FR, zeros: another category, and duration invalid
unfoldable pub is23 : Bytes → Bool
is23 r = is_header r && not (is_serious r) && not (is_duration (duration r))

abbrev pub default23 : Bytes
default23 = zeros 6
