-- `findings::lowest` meets its contract.
-- Assumes nothing.
use Rattle.findings.proofs.Laws.{zeros-lowest}
use Rattle.findings.proofs.lowest.Goals as goal

pub returns : goal.returns
returns c = zeros-lowest 64 c.args.set
