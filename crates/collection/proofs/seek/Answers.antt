-- `collection::seek` meets its contract.
use Rattle.rules.proofs.Names.{right-table}
use Rattle.collection.proofs.seek.Goals as goal

pub hint-requires : goal.hint-requires
hint-requires c =
    (right-table c.args.table.now c.requires.1.right).few

pub invariant_of-places : goal.invariant_of-places
invariant_of-places c = record { right = c.requires.1.right }
