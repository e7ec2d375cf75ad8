-- `parties::Record::share` meets its contract. Assumes nothing.
use mathlib.Core.Path.{ap, ◌∙◌}
use Rattle.rules.specs.Values.{share_of, bad_share}
use Rattle.parties.proofs.Fields.{reads}
use Rattle.parties.proofs.Record.share.Goals as goal

pub returns : goal.returns
returns c =
    let field = c.field.ensures.result_value in
    let read = c.read.ensures in
    reads _ _ (read.counts_value.0 ∙ ap share_of field) read.counts_value.1 (read.bad_value ∙ ap (bad_share 99999) field)
