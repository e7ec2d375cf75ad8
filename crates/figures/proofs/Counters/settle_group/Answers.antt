-- `figures::Counters::settle_group` meets its contract. Assumes nothing.
use Rattle.std.proofs.Common.{arith}
use Rattle.figures.proofs.Records.{few-at}
use Rattle.figures.proofs.Verdicts.{few-before, few-records, settled-4, settled-none}
use Rattle.figures.proofs.Counters.settle_group.Goals as goal

pub overflow_add-self : goal.overflow_add-self
overflow_add-self c =
    let grown = c.requires.2 in
    omega (arith, few-at c.args.before (few-before grown c.requires.3) 3, few-records grown c.requires.3)

pub returns-then-rejected-clause-levels : goal.returns-then-rejected-clause-levels
returns-then-rejected-clause-levels c us vs grown = rw c.if-rejected.true (settled-4 grown)

pub returns-else-rejected-clause-levels : goal.returns-else-rejected-clause-levels
returns-else-rejected-clause-levels c us vs grown = rw c.if-rejected.false (settled-none grown)
