use Rattle.tables.proofs.Slots.{Moving}
use Rattle.tables.proofs.insert.Given as goal

abbrev pub invariant-loop-i : goal.invariant-loop-i
invariant-loop-i l = Moving l.key l.from l.i l.initial.slots l.slots
