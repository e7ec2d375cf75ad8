use Prim.Native.Nat.{◌-◌}
use lib.ListN.{length}
use Rattle.structure.specs.Walk.{Stood}
use Rattle.structure.proofs.walk.Given as goal

abbrev pub invariant-loop-s : goal.invariant-loop-s
invariant-loop-s l = Stood l.file l.asked l.s

abbrev pub decreases-loop-s : goal.decreases-loop-s
decreases-loop-s l = length l.file - l.s.at
