use Rattle.claims.proofs.Counting.{Counting}
use Rattle.claims.proofs.count.Given as goal

abbrev pub invariant-loop-j : goal.invariant-loop-j
invariant-loop-j l = Counting l.table l.claim l.last l.initial.work l.j l.work
