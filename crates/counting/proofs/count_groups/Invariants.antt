use Prim.Native.Nat.{◌+◌}
use lib.ListN.{length}
use Rattle.rules.specs.Tables.{Tables}
use Rattle.tables.specs.Index.{Indexed}
use Rattle.transactions.specs.Walk.{rest_at}
use Rattle.files.proofs.Groups.{Inv}
use Rattle.counting.specs.Levels.{transactions_among, MissingOn, CountedGroups}
use Rattle.counting.proofs.count_groups.Given as goal

abbrev pub invariant-groups : goal.invariant-groups
invariant-groups l =
    Inv l.lent.file.now (l.first + length (rest_at l.lent.file.now l.start)) l.start
    (λ gs. MissingOn l.first l.n.index (transactions_among gs) l.initial.m l.m
    × ((tables : Tables) → Indexed tables l.lent.slots.now → CountedGroups tables l.lent.t l.first l.n.index gs l.initial.counters.findings l.initial.counters.levels l.counters.findings l.counters.levels)) l.n

abbrev pub decreases-groups : goal.decreases-groups
decreases-groups l = length (rest_at l.lent.file.now l.n.at)
