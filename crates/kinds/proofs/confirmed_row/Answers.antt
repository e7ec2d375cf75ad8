-- `kinds::confirmed_row` meets its contract: the hint is compared, and a search takes its place.
-- Assumes nothing.
use mathlib.Core.Path.{sym, ap, ◌∙◌}
use Rattle.kinds.specs.Rows.{row_for}
use Rattle.kinds.proofs.Laws.{first_three}
use Rattle.kinds.proofs.confirmed_row.Goals as goal

pub returns-then-own : goal.returns-then-own
returns-then-own c =
    c.requires.hinted_value _ (sym c.is_type-own.ensures ∙ c.if-own.true) ∙ ap row_for (first_three c.args.record.now c.requires.in_bounds)

pub returns : goal.returns
returns c = c.row_of.ensures
