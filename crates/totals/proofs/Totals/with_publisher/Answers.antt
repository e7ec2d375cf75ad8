-- `totals::Totals::with_publisher` meets its contract. Assumes nothing.
use Rattle.totals.proofs.Laws.{sums-publisher}
use Rattle.totals.proofs.Totals.with_publisher.Goals as goal

pub returns-clause-sums : goal.returns-clause-sums
returns-clause-sums c ds r s e q = rw c.with-self.ensures (sums-publisher c.args.self ds r s c.args.shares e q)
