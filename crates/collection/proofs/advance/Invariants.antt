use lib.ListN.{length}
use Rattle.transactions.specs.Walk.{rest_at}
use Rattle.collection.proofs.Advancing.{Underway}
use Rattle.collection.proofs.advance.Given as goal

abbrev pub invariant-loop-places : goal.invariant-loop-places
invariant-loop-places l = Underway l.file l.places.table.now l.t l.initial.verdicts l.initial.findings l.initial.w l.verdicts l.findings l.w

abbrev pub decreases-loop-places : goal.decreases-loop-places
decreases-loop-places l = length (rest_at l.file l.w.at)
