use mathlib.Core.Path.{◌≡◌}
use mathlib.Core.List.{◌++◌}
use Prim.Native.Nat.{◌≤◌}
use lib.ListN.{length, drop}
use Rattle.format.specs.Bytes.{decimal}
use Rattle.text.proofs.decimal.Given as goal

abbrev pub invariant-loop-i : goal.invariant-loop-i
invariant-loop-i l = (l.i ≤ length l.out) × (length l.out ≡ length l.initial.out) × (decimal l.i l.rest ++ drop l.i l.out ≡ decimal (length l.initial.out) l.n)
