use Prim.Native.Nat.{◌+◌, ◌/◌, ◌≤◌}
use lib.ListN.{length}
use Rattle.rules.specs.Tables.{most_entries}
use Rattle.tables.proofs.Entries.{entries_from}
use Rattle.tables.proofs.Parts.{Entered}
use Rattle.tables.proofs.index_table.Given as goal

abbrev pub invariant-loop-k : goal.invariant-loop-k
invariant-loop-k l = (l.k ≤ length l.table / l.size) × (length l.table / l.size ≤ most_entries) × Entered l.size l.first l.initial.slots (entries_from l.size l.k l.table) (l.free + l.k) l.slots
