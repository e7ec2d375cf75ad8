use Rattle.text.proofs.Laws.{Compares}
use Rattle.text.proofs.is_decimal.Given as goal

abbrev pub invariant-loop-b : goal.invariant-loop-b
invariant-loop-b l = Compares l.n l.part l.same l.rest l.b-iterator.iter.rest.now
