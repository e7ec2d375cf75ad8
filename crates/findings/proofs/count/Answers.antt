-- `findings::count` meets its contract.
-- Assumes nothing.
use Rattle.findings.proofs.Laws.{ones-count}
use borrow.Author.Rules.{rules}
use Rattle.findings.proofs.count.Goals as goal

pub returns : goal.returns
returns c = ones-count 64 c.args.set (search rules)
