-- Findings on the writers of a transaction, by their designations with the default of 40 in force.
use Rattle.std.specs.Prelude.{Bool, not, ◌&&◌, List, [], ◌∷◌}
use Rattle.format.specs.Ascii.{ascii}
use Rattle.format.specs.Bytes.{Bytes, same_bytes, among}
use Rattle.format.specs.Fields.{field_of}
use Rattle.rules.specs.Records.{is_writer, any}
use Rattle.rules.specs.Writer.{designation_in_force}

-- ---- fields of the header: start and size

-- of text and music
abbrev pub relationship : Bytes → Bytes
relationship h = field_of 137 3 h

abbrev pub version_type : Bytes → Bytes
version_type h = field_of 143 3 h

-- ---- findings, on the header h and the details

-- some writer has one of these designations
abbrev pub any_writer : List Bytes → List Bytes → Bool
any_writer names details = any (λ r. is_writer r && among (designation_in_force r) names) details

-- who makes a work, who changes one, who writes text
abbrev pub creators : List Bytes
creators = ascii "CA" ∷ ascii "A " ∷ ascii "C " ∷ []

abbrev pub changers : List Bytes
changers = ascii "AR" ∷ ascii "AD" ∷ ascii "SR" ∷ ascii "SA" ∷ ascii "TR" ∷ []

abbrev pub authors : List Bytes
authors = ascii "CA" ∷ ascii "A " ∷ ascii "SA" ∷ ascii "TR" ∷ []

-- T12, TR: no SWR or OWR
unfoldable pub is4 : List Bytes → Bool
is4 ds = not (any is_writer ds)

-- T15, TR: no writer CA, A or C
unfoldable pub is5 : List Bytes → Bool
is5 ds = not (any_writer creators ds)

-- T10, TR: version type MOD and no writer AR, AD, SR, SA, TR
unfoldable pub is6 : Bytes → List Bytes → Bool
is6 h ds = same_bytes (ascii "MOD") (version_type h) && not (any_writer changers ds)

-- T23, TR: version type ORI and such a writer
unfoldable pub is7 : Bytes → List Bytes → Bool
is7 h ds = same_bytes (ascii "ORI") (version_type h) && any_writer changers ds

-- T45, TR: relationship MUS and a writer CA, A, SA or TR
unfoldable pub is10 : Bytes → List Bytes → Bool
is10 h ds = same_bytes (ascii "MUS") (relationship h) && any_writer authors ds
