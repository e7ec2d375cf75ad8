use mathlib.Core.Path.{◌≡◌}
use mathlib.Core.Bool.{◌&&◌}
use lib.ListN.{take, drop}
use Rattle.format.specs.Bytes.{every, is_text}
use Rattle.lines.proofs.all_text.Given as goal

abbrev pub invariant-loop-i : goal.invariant-loop-i
invariant-loop-i l = l.good ≡ (every is_text (take l.i l.part) && every is_text (drop l.last l.part))
