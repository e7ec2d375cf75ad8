use mathlib.Core.Path.{◌≡◌}
use lib.ListN.{take}
use Rattle.format.specs.Bytes.{every, is_text}
use Rattle.lines.proofs.short_text.Given as goal

abbrev pub invariant-loop-b : goal.invariant-loop-b
invariant-loop-b l = l.good ≡ every is_text (take l.b-index l.part)
