-- `figures::Missing::none` meets its contract. Assumes nothing.
use Rattle.figures.specs.Counted.{missing_of}
use Rattle.figures.proofs.Missing.none.Goals as goal

pub returns : goal.returns
unfolding missing_of
returns c = let (e, w) = c.none-none.ensures in (rw e, (w, w, w))
