use Rattle.std.proofs.Common.{◌≡◌, length}
use Rattle.tables.specs.Lent.{lent_in}
use Rattle.collection.specs.Walk.{steps_left}
use Rattle.territorial.specs.Progress.{Going}
use Rattle.territorial.proofs.check.Given as goal

-- the walk stands between two transactions in doubt; the list is as long as it was
abbrev pub invariant-loop-s : goal.invariant-loop-s
invariant-loop-s l =
    Going (lent_in l.fn.tables) l.territories l.tolerance l.file (length l.fn.claims) l.fn.verdicts l.fn.findings l.s l.verdicts l.findings
    × (length l.claims ≡ length l.fn.claims)

abbrev pub decreases-loop-s : goal.decreases-loop-s
decreases-loop-s l = steps_left l.file l.s
