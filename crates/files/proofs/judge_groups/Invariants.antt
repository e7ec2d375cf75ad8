use Prim.Native.Nat.{◌+◌}
use lib.ListN.{length}
use Rattle.rules.specs.Tables.{Tables}
use Rattle.tables.specs.Index.{Indexed}
use Rattle.transactions.specs.Walk.{rest_at}
use Rattle.files.specs.Levels.{FilledGroups}
use Rattle.files.proofs.Groups.{Inv}
use Rattle.files.proofs.judge_groups.Given as goal

abbrev pub invariant-groups : goal.invariant-groups
invariant-groups l =
    Inv l.lent.file.now (l.first + length (rest_at l.lent.file.now l.start)) l.start
    (λ gs. (tables : Tables) → Indexed tables l.lent.slots.now → FilledGroups tables l.lent.t l.first l.n.index gs l.initial.verdicts l.initial.findings l.verdicts l.findings)
    l.n

abbrev pub decreases-groups : goal.decreases-groups
decreases-groups l = length (rest_at l.lent.file.now l.n.at)
