-- What is answered where a file is taken on a sheet in lent bytes, and the bytes after it: too few for a sheet are refused by 11, before 12 and
-- all else, and stay as they are; of more, those beyond the sheet do.
use Rattle.std.specs.Prelude.{cond, ◌++◌, leb, length, drop}
use Rattle.format.specs.Bytes.{Bytes}
use Rattle.format.specs.Structure.{Answer, refused}
use Rattle.rules.specs.Sheet.{Taken, add}
use Rattle.sheet_bytes.specs.Layout.{sheet_size, sheet_in, bytes_of_sheet}

unfoldable pub sheet_answer : Bytes → Taken → Answer
sheet_answer bytes x = cond (leb sheet_size (length bytes)) (add (sheet_in bytes) x).answer (refused 11 0)

unfoldable pub sheet_buffer : Bytes → Taken → Bytes
sheet_buffer bytes x = cond (leb sheet_size (length bytes)) (bytes_of_sheet (add (sheet_in bytes) x).sheet ++ drop sheet_size bytes) bytes
