use Rattle.std.proofs.Common.{◌-◌, length}
use Rattle.parties.specs.Ahead.{entries_at}
use Rattle.claim_list.proofs.fill.Given as goal
use Rattle.claim_list.proofs.Standing.{Standing}

-- n claims are stored, and the next is looked for where the n-th ended
abbrev pub invariant-loop-next : goal.invariant-loop-next
invariant-loop-next l = Standing l.file l.table (entries_at l.file l.table l.at 0) l.initial.claims l.claims l.n l.here l.party

abbrev pub decreases-loop-next : goal.decreases-loop-next
decreases-loop-next l = length (entries_at l.file l.table l.at 0) - l.n
