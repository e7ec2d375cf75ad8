-- `kinds::search` meets its contract: the rows that are left decide.
use mathlib.Core.Path.{refl, sym, ◌∙◌}
use native.Mathlib.Omega.{arith}
use Rattle.kinds.proofs.First.{hit, miss, none}
use Rattle.kinds.proofs.search.Goals as goal

pub loop-row-init : goal.loop-row-init
loop-row-init c = refl

pub returns-then-is_type : goal.returns-then-is_type
returns-then-is_type c =
    hit _ _ c.loop-row.row-index c.loop-row.invariant (omega arith) _ (sym c.is_type.ensures ∙ c.if-is_type.true)

pub loop-row-preserved : goal.loop-row-preserved
loop-row-preserved c =
    miss _ _ c.loop-row.row-index c.loop-row.invariant (omega arith) _ (sym c.is_type.ensures ∙ c.if-is_type.false)

pub returns : goal.returns
returns c = c.no_row.ensures ∙ none _ _ c.loop-row.row-index c.loop-row.invariant (omega arith)
