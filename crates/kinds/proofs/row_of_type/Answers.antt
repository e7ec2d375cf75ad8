-- `kinds::row_of_type` meets its contract: a row of the type is its first row, whether hinted at or searched for.
-- Assumes nothing.
use mathlib.Core.Path.{sym, ◌∙◌}
use borrow.Author.Rules.{rules}
use Rattle.kinds.proofs.Laws.{hinted, searched}
use Rattle.kinds.proofs.row_of_type.Goals as goal

pub returns-then-is_type : goal.returns-then-is_type
returns-then-is_type c =
    hinted _ c.table-rows.ensures _ c.hint-k.result (search rules) _ (sym c.is_type.ensures ∙ c.if-is_type.true)

pub returns-else-is_type : goal.returns-else-is_type
returns-else-is_type c = c.search.ensures ∙ searched _ c.table-rows.ensures _
