use Prim.Native.Nat.{◌+◌}
use lib.ListN.{length}
use Rattle.rules.specs.Territories.{territories_in}
use Rattle.transactions.specs.Walk.{rest_at}
use Rattle.collection.proofs.Gone.{Inv}
use Rattle.collection.proofs.judge_details.Given as goal

abbrev pub invariant-loop-places : goal.invariant-loop-places
invariant-loop-places l = Inv l.file (l.first + length (rest_at l.file l.start)) l.start l.first (territories_in l.places.table.now) l.initial.findings l.findings l.d

abbrev pub decreases-loop-places : goal.decreases-loop-places
decreases-loop-places l = length (rest_at l.file l.d.at)
