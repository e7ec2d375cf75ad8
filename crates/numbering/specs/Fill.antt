-- Internal: what the writing walk asks of a file: good lines, and records right by 6.
use Rattle.std.specs.Prelude.{◌≡◌, true, length, ◌≤◌}
use Rattle.format.specs.Bytes.{Bytes}
use Rattle.format.specs.Cwr22.{cwr22}
use Rattle.format.specs.Lines.{lines}
use Rattle.format.specs.Checks.{check6, Along}
use Rattle.format.specs.Structure.{most_bytes}
use Rattle.format.specs.Numbering.{records_in}
use Rattle.structure.specs.Rest.{is_good}

pub record Sized (f : Bytes) : Type 0 where
  pub short : length f ≤ most_bytes
  pub fine : is_good (lines f) ≡ true
  pub typed : Along (check6 cwr22) (records_in (lines f))
