-- `lister::list` meets its contract: too long an input has a line of its own. Assumes nothing.
use mathlib.Core.Path.{refl}
use Rattle.lister.proofs.Whole.{long-listed, short-listed}
use Rattle.lister.proofs.list.Goals as goal

pub returns-then-input-gt-MOST_INPUT : goal.returns-then-input-gt-MOST_INPUT
returns-then-input-gt-MOST_INPUT c = long-listed c.args.input.now c.if-input-gt-MOST_INPUT.true refl c.word.ensures.0

pub returns : goal.returns
returns c =
    short-listed c.args.input.now c.if-input-gt-MOST_INPUT.false refl c.checked.ensures
