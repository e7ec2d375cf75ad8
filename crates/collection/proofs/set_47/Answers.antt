-- `collection::set_47` meets its contract.
use Rattle.collection.proofs.set_47.Goals as goal

pub returns-then-over : goal.returns-then-over
returns-then-over c = rw c.if-over.true

pub returns-else-over : goal.returns-else-over
returns-else-over c = rw c.if-over.false
