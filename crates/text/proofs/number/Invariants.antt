use Rattle.text.proofs.Laws.{Reads}
use Rattle.text.proofs.number.Given as goal

abbrev pub invariant-loop-b : goal.invariant-loop-b
invariant-loop-b l = Reads l.field l.n l.b-index
