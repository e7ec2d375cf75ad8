-- `figures::Misses::none` meets its contract. Assumes nothing.
use borrow.Author.Rules.{rules}
use Rattle.figures.specs.Counted.{misses_by, misses_of}
use Rattle.figures.proofs.Misses.none.Goals as goal

pub returns : goal.returns
unfolding misses_of misses_by
returns c = search rules
