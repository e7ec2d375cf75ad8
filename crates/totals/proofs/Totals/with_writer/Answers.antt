-- `totals::Totals::with_writer` meets its contract. Assumes nothing.
use Rattle.totals.proofs.Laws.{sums-writer}
use Rattle.totals.proofs.Totals.with_writer.Goals as goal

pub returns-clause-sums : goal.returns-clause-sums
returns-clause-sums c ds r s e q = rw c.with-self.ensures (sums-writer c.args.self ds r s c.args.shares e q)
