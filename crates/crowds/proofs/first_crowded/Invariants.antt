use Prim.Native.Nat.{◌-◌}
use lib.ListN.{length}
use Rattle.transactions.specs.Walk.{rest_at}
use Rattle.crowds.proofs.Laws.{Inv}
use Rattle.crowds.proofs.first_crowded.Given as goal

abbrev pub invariant-loop-w : goal.invariant-loop-w
invariant-loop-w l = Inv l.file (length (rest_at l.file 0)) l.room l.w

abbrev pub decreases-loop-w : goal.decreases-loop-w
decreases-loop-w l = length l.file - l.w.at
