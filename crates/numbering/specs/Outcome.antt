-- What numbering answers and what it leaves in the buffer that was lent, for every file and every buffer.
use Rattle.std.specs.Prelude.{ℕ, length, leb}
use Rattle.format.specs.Bytes.{Bytes}
use Rattle.format.specs.Cwr22.{cwr22}
use Rattle.format.specs.Structure.{Answer}
use Rattle.format.specs.Numbering.{numbering, numbered_file}
use Rattle.format.specs.Lent.{in_room, left_in}

-- 11: a buffer shorter than the file
unfoldable pub number_answer : Bytes → ℕ → Answer
number_answer f room = in_room (λ _. leb (length f) room) (numbering cwr22 f)

unfoldable pub number_buffer : Bytes → Bytes → Bytes
number_buffer f out = left_in (number_answer f (length out)) (numbered_file cwr22 f) out
