-- `parties::Record::mark` meets its contract. Assumes nothing.
use mathlib.Core.Path.{sym, ◌∙◌}
use Rattle.values.proofs.Laws.{spelled}
use Rattle.parties.proofs.Record.mark.Goals as goal

pub returns : goal.returns
returns c =
    let field = c.field-mark.ensures in
    sym field.result_value ∙ sym (spelled 1 _ field.result_len)
