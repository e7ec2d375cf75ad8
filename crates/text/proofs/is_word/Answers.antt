-- `text::is_word` meets its contract: two words are the same where their bytes are.
use native.Mathlib.Omega.{arith}
use mathlib.Core.Path.{ap, ◌∙◌}
use Rattle.format.specs.Bytes.{Bytes, same_bytes, bytes_of}
use Rattle.text.proofs.Words.{same-words}
use Rattle.text.proofs.is_word.Goals as goal

pub returns : goal.returns
returns c =
    let x = c.args.x in
    let r = c.load_eight.result in
    same-words 8 r x (omega arith) (omega arith) ∙ ap (λ (l : Bytes). same_bytes l (bytes_of 8 x)) c.load_eight.ensures.result_value
