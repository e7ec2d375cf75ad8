use mathlib.Core.Path.{◌≡◌}
use lib.ListN.{take}
use Rattle.sheet_bytes.specs.Layout.{numbers_at}
use Rattle.sheet_bytes.proofs.load.Given as goal

abbrev pub invariant-loop-i : goal.invariant-loop-i
invariant-loop-i l = take l.i l.numbers ≡ numbers_at l.bytes l.k l.i
