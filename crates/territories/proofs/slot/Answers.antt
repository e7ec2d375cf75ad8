-- `territories::slot` meets its contract.
use borrow.Author.Rules.{rules}
use Rattle.territories.specs.Positions.{slot_of}
use Rattle.territories.proofs.slot.Goals as goal

pub returns-clause-value : goal.returns-clause-value
unfolding slot_of
returns-clause-value c = search rules
