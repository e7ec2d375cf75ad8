use mathlib.Core.Path.{◌≡◌}
use lib.ListN.{length, take}
use Rattle.rules.specs.Sheet.{plus_each}
use Rattle.sheet.proofs.plus_each.Given as goal

abbrev pub invariant-loop-i : goal.invariant-loop-i
invariant-loop-i l = (length l.counts ≡ length l.initial.counts) × (l.counts ≡ plus_each l.initial.counts (take l.i l.more))
