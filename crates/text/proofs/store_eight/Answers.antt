-- `text::store_eight` meets its contract: the bytes of a word are those that std takes it apart into.
use mathlib.Core.Path.{◌∙◌}
use Rattle.text.proofs.Words.{taken-apart}
use Rattle.text.proofs.store_eight.Goals as goal

pub returns : goal.returns
returns c = c.copy_from_slice.ensures.after ∙ c.to_le_bytes.ensures ∙ taken-apart c.args.x
