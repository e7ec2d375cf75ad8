-- `text::blank` meets its contract. Assumes nothing.
use Rattle.format.specs.Fields.{is_blank}
use Rattle.text.proofs.blank.Goals as goal

pub returns : goal.returns
unfolding is_blank
returns c = c.filled.ensures
