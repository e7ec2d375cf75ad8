use Prim.Native.Nat.{◌+◌}
use lib.ListN.{length}
use Rattle.rules.specs.Tables.{Tables}
use Rattle.tables.specs.Index.{Indexed}
use Rattle.transactions.specs.Walk.{rest_at}
use Rattle.transactions.specs.Purposes.{DoneDetails}
use Rattle.transactions.proofs.Gone.{Inv}
use Rattle.transactions.proofs.judge_details.Given as goal

abbrev pub invariant-loop-rejects : goal.invariant-loop-rejects
invariant-loop-rejects l =
    Inv l.lent.file.now (l.first + length (rest_at l.lent.file.now l.start)) l.start
    (λ ds. (tables : Tables) → Indexed tables l.lent.slots.now
    → DoneDetails l.purpose tables l.first l.w.index ds l.rejects l.initial.verdicts l.initial.findings l.initial.counters.findings l.initial.counters.levels l.verdicts l.findings l.counters.findings l.counters.levels)
    l.chains l.w

abbrev pub decreases-loop-rejects : goal.decreases-loop-rejects
decreases-loop-rejects l = length (rest_at l.lent.file.now l.w.at)
