-- `tables::key` meets its contract.
use borrow.Author.Rules.{rules}
use Rattle.tables.specs.Index.{key_of}
use Rattle.tables.proofs.key.Goals as goal

pub returns-clause-value : goal.returns-clause-value
unfolding key_of
returns-clause-value c = search rules
