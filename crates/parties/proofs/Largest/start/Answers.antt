-- `parties::Largest::start` meets its contract. Assumes nothing.
use Rattle.parties.proofs.Shares.{most-none}
use Rattle.parties.proofs.Largest.start.Goals as goal

pub returns : goal.returns
returns c = rw c.none-none.ensures most-none
