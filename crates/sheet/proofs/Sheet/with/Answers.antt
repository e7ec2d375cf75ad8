-- `sheet::Sheet::with` meets its contract: each figure is its own call's. Assumes nothing.
use mathlib.Core.Path.{◌∙◌}
use Rattle.rules.specs.Sheet.{with_sheet}
use Rattle.sheet.proofs.Stops.{plus-is}
use Rattle.sheet.proofs.Sheet.with.Goals as goal

pub returns : goal.returns
unfolding with_sheet
returns c =
    λ i. record {
      files = (c.saturating_add.ensures ∙ plus-is _ _) i;
      refused = (c.saturating_add-2.ensures ∙ plus-is _ _) i;
      pr = c.with-self.ensures i;
      mr = c.with-self-2.ensures i;
      sr = c.with-self-3.ensures i;
      findings = c.plus_each.ensures i;
      verdicts = c.plus_each-2.ensures i;
    }
