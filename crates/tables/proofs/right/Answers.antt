-- `tables::right` meets its contract.
use borrow.Author.Rules.{rules}
use Rattle.rules.specs.Tables.{right_table}
use Rattle.tables.proofs.right.Goals as goal

pub returns : goal.returns
unfolding right_table
returns c = search rules
