-- `kinds::row_of` meets its contract.
-- Assumes nothing.
use mathlib.Core.Path.{ap, ◌∙◌}
use Rattle.kinds.specs.Rows.{row_for}
use Rattle.kinds.proofs.Laws.{first_three, short_row}
use Rattle.kinds.proofs.row_of.Goals as goal

pub returns-then-record-lt3 : goal.returns-then-record-lt3
returns-then-record-lt3 c = c.no_row.ensures ∙ short_row c.args.record.now c.if-record-lt3.true

pub returns-else-record-lt3 : goal.returns-else-record-lt3
returns-else-record-lt3 c =
    c.row_of_type.ensures ∙ ap row_for (first_three c.args.record.now c.if-record-lt3.false)
