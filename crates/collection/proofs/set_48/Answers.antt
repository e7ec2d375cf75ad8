-- `collection::set_48` meets its contract.
use Rattle.collection.proofs.set_48.Goals as goal

pub returns-then-wrong : goal.returns-then-wrong
returns-then-wrong c = rw (c.if-wrong.true, c.odd.ensures)

pub returns-else-wrong : goal.returns-else-wrong
returns-else-wrong c = rw c.if-wrong.false
