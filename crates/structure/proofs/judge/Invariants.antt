use Prim.Native.Nat.{◌-◌}
use lib.ListN.{length, drop}
use Rattle.format.specs.Cwr22.{cwr22}
use Rattle.format.specs.Lines.{lines}
use Rattle.kinds.specs.Rows.{class_in}
use Rattle.format.specs.Numbering.{records_in}
use Rattle.counts.specs.Counting.{counts_in}
use Rattle.structure.specs.Rest.{faultless, judged_from}
use Rattle.structure.proofs.Search.{Judging}
use Rattle.structure.proofs.judge.Given as goal

abbrev pub invariant-loop-s : goal.invariant-loop-s
invariant-loop-s l =
    Judging l.file l.asked l.version l.s l.m
    (judged_from cwr22 l.asked l.version faultless (class_in l.initial.s.class) (counts_in l.initial.s.counts) (records_in (lines (drop l.initial.s.at l.file))))

abbrev pub decreases-loop-s : goal.decreases-loop-s
decreases-loop-s l = length l.file - l.s.at
