-- `counts::stands` meets its contract: the field has size bytes, so its digits are as many.
-- Assumes nothing.
use mathlib.Core.Path.{◌∙◌}
use Rattle.counts.proofs.stands.Goals as goal

pub returns : goal.returns
returns c = let f = c.field.ensures in c.is_decimal.ensures ∙ rw (f.result_len, f.result_value)
