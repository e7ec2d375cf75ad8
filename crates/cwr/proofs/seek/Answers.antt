-- `cwr::seek` meets its contract. Assumes nothing.
use Rattle.cwr.proofs.seek.Goals as goal

pub returns : goal.returns
returns c = c.search.ensures _ c.index.ensures
