use Rattle.text.proofs.Words.{Carrying}
use Rattle.text.proofs.next_eight.Given as goal

abbrev pub invariant-loop-i : goal.invariant-loop-i
invariant-loop-i l = Carrying l.n l.i l.number l.rest l.unit l.zeros

abbrev pub decreases-loop-i : goal.decreases-loop-i
decreases-loop-i l = l.i
