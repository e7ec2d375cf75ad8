-- `kinds::confirmed` meets its contract: the hint is compared, and a search takes its place.
-- Assumes nothing.
use mathlib.Core.Path.{sym, ap, ◌∙◌}
use Rattle.kinds.specs.Rows.{shape_of, row_for}
use Rattle.kinds.proofs.Laws.{first_three}
use Rattle.kinds.proofs.confirmed.Goals as goal

pub returns-then-is_type : goal.returns-then-is_type
returns-then-is_type c =
    let e = ap row_for (first_three c.args.record.now c.requires.in_bounds) in
    c.shape.ensures ∙ ap shape_of (c.requires.hinted_value _ (sym c.is_type.ensures ∙ c.if-is_type.true) ∙ e)

pub returns : goal.returns
returns c = c.shape-2.ensures ∙ ap shape_of c.row_of.ensures
