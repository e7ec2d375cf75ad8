use Rattle.findings.proofs.Laws.{Packs}
use Rattle.findings.proofs.pack.Given as goal

abbrev pub invariant-loop-held : goal.invariant-loop-held
invariant-loop-held l = Packs l.holds l.set l.held-iterator.iter.rest.now
