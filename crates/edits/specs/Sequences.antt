-- Internal: what finding 25 asks of the records before a publisher record.
use Rattle.std.specs.Prelude.{cond, List}
use Rattle.std.proofs.Math.Option.{Option, none, some}
use Rattle.format.specs.Bytes.{Bytes}
use Rattle.format.specs.Fields.{are_digits, number_of}
use Rattle.rules.specs.Records.{is_publisher, only, latest}
use Rattle.rules.specs.Publisher.{sequence_number}
use Rattle.edits.specs.declared.publisher.Sequence.{Sequence}

-- the sequence number of a publisher record
unfoldable pub sequence_of : Bytes → Sequence
sequence_of r = cond (are_digits (sequence_number r)) (Sequence.Number (number_of (sequence_number r))) Sequence.NotDigits

abbrev pub sequence_in : Option Bytes → Sequence
sequence_in none = Sequence.NoRecord
sequence_in (some p) = sequence_of p

-- that of the last publisher record
unfoldable pub last_sequence : List Bytes → Sequence
last_sequence before = sequence_in (latest (only is_publisher before))
