-- `figures::Counters::by_verdict` meets its contract. Assumes nothing.
use Rattle.std.proofs.Common.{arith}
use Rattle.figures.proofs.Verdicts.{come-to, few-records, whole}
use Rattle.figures.proofs.Counters.by_verdict.Goals as goal

pub overflow_add-result : goal.overflow_add-result
overflow_add-result c = omega (arith, come-to c.requires.2, few-records c.requires.2 c.requires.3)

pub overflow_add-result-2 : goal.overflow_add-result-2
overflow_add-result-2 c = omega (arith, come-to c.requires.2, few-records c.requires.2 c.requires.3)

pub overflow_add-result-3 : goal.overflow_add-result-3
overflow_add-result-3 c = omega (arith, come-to c.requires.2, few-records c.requires.2 c.requires.3)

pub overflow_sub-result : goal.overflow_sub-result
overflow_sub-result c = omega (arith, come-to c.requires.2)

pub returns : goal.returns
returns c vs grown = whole grown
