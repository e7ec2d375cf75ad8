-- Internal: the kinds of records that have findings of their own, each with the length that the structural check has seen to; and a detail of
-- any kind by its row.
use Rattle.std.specs.Prelude.{◌≡◌, true, ◌||◌, length, take}
use Rattle.format.specs.Bytes.{Bytes}
use Rattle.format.specs.Table.{detail}
use Rattle.format.specs.Cwr22.{cwr22}
use Rattle.format.specs.Checks.{cls}
use Rattle.rules.specs.Records.{is_type, is_header, is_publisher, is_writer}
use Rattle.kinds.specs.Rows.{row_for}
use Rattle.kinds.specs.declared.Row.{Row}

abbrev pub HeaderRecord : Bytes → Type 0
HeaderRecord r = (length r ≡ 260) × (is_header r ≡ true)

abbrev pub PublisherRecord : Bytes → Type 0
PublisherRecord r = (length r ≡ 183) × (is_publisher r ≡ true)

abbrev pub WriterRecord : Bytes → Type 0
WriterRecord r = (length r ≡ 180) × (is_writer r ≡ true)

-- EWT and VER, which have a title
abbrev pub VersionRecord : Bytes → Type 0
VersionRecord r = (length r ≡ 364) × ((is_type "EWT" r || is_type "VER" r) ≡ true)

abbrev pub PerformerRecord : Bytes → Type 0
PerformerRecord r = (length r ≡ 118) × (is_type "PER" r ≡ true)

abbrev pub RecordingRecord : Bytes → Type 0
RecordingRecord r = (length r ≡ 540) × (is_type "REC" r ≡ true)

-- the record is a detail of that row
abbrev pub Detail : Row → Bytes → Type 0
Detail row r = (row ≡ row_for (take 3 r)) × (cls cwr22 r ≡ detail)

-- and as long as its type
abbrev pub Stands : Row → Bytes → Type 0
Stands row r = Detail row r × (length r ≡ row.length)
