-- The sheet that a sheet in code stands for, figure by figure, and what a call leaves.
use Rattle.rules.specs.Sheet.{Missed as SheetMissed, Sheet as RulesSheet, Added}
use Rattle.answers.specs.Numbers.{answer_of}
use Rattle.sheet.specs.declared.Missed.{Missed}
use Rattle.sheet.specs.declared.Sheet.{Sheet}
use Rattle.sheet.specs.declared.Taken.{Taken}

abbrev pub told_missed : Missed → SheetMissed
told_missed m = record { transactions = m.transactions; shortfall = m.shortfall; excess = m.excess; sum = m.sum }

abbrev pub told_of : Sheet → RulesSheet
told_of s = record {
  files = s.files;
  refused = s.refused;
  pr = told_missed s.pr;
  mr = told_missed s.mr;
  sr = told_missed s.sr;
  findings = s.findings;
  verdicts = s.verdicts;
}

abbrev pub added_of : Taken → Added
added_of r = record { answer = answer_of r.answer; sheet = told_of r.sheet }
