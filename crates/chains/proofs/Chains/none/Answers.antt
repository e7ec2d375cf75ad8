-- `chains::Chains::none` meets its contract. Assumes nothing.
use Rattle.chains.proofs.Laws.{begins}
use Rattle.chains.proofs.Chains.none.Goals as goal

pub returns : goal.returns
returns c = begins
