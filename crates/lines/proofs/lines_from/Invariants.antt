use Prim.Native.Nat.{◌-◌}
use lib.ListN.{length, drop}
use Rattle.format.specs.Lines.{lines}
use Rattle.lines.specs.Scan.{scanned}
use Rattle.lines.proofs.Laws.{Decides}
use Rattle.lines.proofs.lines_from.Given as goal

abbrev pub invariant-loop-i : goal.invariant-loop-i
invariant-loop-i l = Decides l.file l.i l.n (scanned l.before (lines (drop l.at l.file)))

abbrev pub decreases-loop-i : goal.decreases-loop-i
decreases-loop-i l = length l.file - l.i
