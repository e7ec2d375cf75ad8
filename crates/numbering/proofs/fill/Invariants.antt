use Prim.Native.Nat.{◌-◌}
use lib.ListN.{length}
use Rattle.numbering.proofs.Laws.{Filling}
use Rattle.numbering.proofs.fill.Given as goal

abbrev pub invariant-loop-s : goal.invariant-loop-s
invariant-loop-s l = Filling l.file l.initial.out l.out l.s

abbrev pub decreases-loop-s : goal.decreases-loop-s
decreases-loop-s l = length l.file - l.s.at
