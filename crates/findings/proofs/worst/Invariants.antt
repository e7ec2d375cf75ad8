use Rattle.findings.proofs.Laws.{Brings}
use Rattle.findings.proofs.worst.Given as goal

abbrev pub invariant-loop-i : goal.invariant-loop-i
invariant-loop-i l = Brings l.first l.holds l.most l.i
