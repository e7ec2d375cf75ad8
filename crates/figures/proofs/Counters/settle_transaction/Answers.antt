-- `figures::Counters::settle_transaction` meets its contract. Assumes nothing.
use Rattle.std.proofs.Common.{arith}
use Rattle.figures.proofs.Records.{few-at}
use Rattle.figures.proofs.Verdicts.{few-before, few-records, no_more, settled-3, settled-none}
use Rattle.figures.proofs.Counters.settle_transaction.Goals as goal

pub overflow_add-others : goal.overflow_add-others
overflow_add-others c =
    let grown = c.requires.2 in
    omega (arith, few-at c.args.before (few-before grown c.requires.3) 3, few-records grown c.requires.3)

pub overflow_sub-others : goal.overflow_sub-others
overflow_sub-others c = omega (arith, no_more c.requires.2)

pub overflow_add-self : goal.overflow_add-self
overflow_add-self c =
    let grown = c.requires.2 in
    let few = few-at c.args.before (few-before grown c.requires.3) in
    omega (arith, few 2, few 3, few-records grown c.requires.3)

pub returns-then-rejected-clause-levels : goal.returns-then-rejected-clause-levels
returns-then-rejected-clause-levels c us vs grown = rw c.if-rejected.true (settled-3 grown)

pub returns-else-rejected-clause-levels : goal.returns-else-rejected-clause-levels
returns-else-rejected-clause-levels c us vs grown = rw c.if-rejected.false (settled-none grown)
