use Prim.Native.Nat.{◌+◌}
use lib.ListN.{length}
use Rattle.rules.specs.Tables.{Tables}
use Rattle.tables.specs.Index.{Indexed}
use Rattle.transactions.specs.Walk.{rest_at}
use Rattle.files.proofs.Transactions.{Inv}
use Rattle.counting.specs.Levels.{MissingOn, CountedTransactions}
use Rattle.counting.proofs.count_transactions.Given as goal

abbrev pub invariant-loop-p : goal.invariant-loop-p
invariant-loop-p l =
    Inv l.named l.lent.file.now (l.first + length (rest_at l.lent.file.now l.start)) l.start
    (λ xs. MissingOn l.first l.p.index xs l.initial.m l.m
    × ((tables : Tables) → Indexed tables l.lent.slots.now → CountedTransactions tables l.lent.t l.named l.first l.p.index xs l.initial.counters.findings l.initial.counters.levels l.counters.findings l.counters.levels)) l.p

abbrev pub decreases-loop-p : goal.decreases-loop-p
decreases-loop-p l = length (rest_at l.lent.file.now l.p.at)
