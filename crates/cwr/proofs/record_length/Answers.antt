-- `cwr::record_length` meets its contract: the code's row has the length of the format's. Assumes nothing.
use mathlib.Core.Path.{ap, ◌∙◌}
use Rattle.kinds.specs.declared.Row.{Row}
use Rattle.kinds.proofs.Laws.{length-len}
use Rattle.cwr.proofs.record_length.Goals as goal

pub returns : goal.returns
returns c = ap (λ (row : Row). row.length) c.row_of-row.ensures ∙ length-len c.args.record.now
