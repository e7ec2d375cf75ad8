-- `territories::right` meets its contract.
use Prim.Native.Nat.{◌/◌, ◌%◌}
use borrow.Author.Tests.{leb-true}
use lib.Dec.{eqb}
use lib.ListN.{length}
use Rattle.format.proofs.Tests.{both}
use Rattle.rules.specs.Territories.{most_territories, right_territories}
use Rattle.rules.proofs.Names.{length-territories}
use Rattle.territories.proofs.right.Goals as goal

pub any_twice-requires : goal.any_twice-requires
any_twice-requires c =
    let table = c.args.table.now in
    rw (length-territories table) (leb-true (length table / 6) most_territories (both (eqb (length table % 6) 0) _ c.if-short.true).1)

pub returns-then-short : goal.returns-then-short
unfolding right_territories
returns-then-short c = rw (c.any_twice.ensures, c.groups_earlier.ensures, c.if-short.true)

pub returns-else-short : goal.returns-else-short
unfolding right_territories
returns-else-short c = rw c.if-short.false
