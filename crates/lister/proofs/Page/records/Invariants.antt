use Prim.Native.Nat.{◌-◌}
use lib.ListN.{length}
use Rattle.lister.proofs.Walk.{Going}
use Rattle.lister.proofs.Page.records.Given as goal

abbrev pub invariant-loop-at : goal.invariant-loop-at
invariant-loop-at l = Going l.file l.verdicts l.findings l.initial.self l.self l.at l.number

abbrev pub decreases-loop-at : goal.decreases-loop-at
decreases-loop-at l = length l.file - l.at
