use Rattle.std.proofs.Common.{take}
use Rattle.claims.specs.Work.{Counted}
use Rattle.claim_list.proofs.exceeding_in.Given as goal

-- the claims so far are counted
abbrev pub invariant-loop-claim : goal.invariant-loop-claim
invariant-loop-claim l = Counted l.table (take l.claim-index l.claims) l.last l.work
