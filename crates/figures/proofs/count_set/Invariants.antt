use Rattle.figures.proofs.Records.{Owing}
use Rattle.figures.proofs.count_set.Given as goal

abbrev pub invariant-loop-left : goal.invariant-loop-left
invariant-loop-left l = Owing l.initial.findings l.set l.findings l.left

abbrev pub decreases-loop-left : goal.decreases-loop-left
decreases-loop-left l = l.left
