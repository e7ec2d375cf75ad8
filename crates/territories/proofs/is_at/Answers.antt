-- `territories::is_at` meets its contract.
use mathlib.Core.Path.{ap, ◌∙◌}
use Rattle.format.specs.Bytes.{Bytes, same_bytes}
use Rattle.territories.proofs.Entries.{sliced}
use Rattle.territories.proofs.is_at.Goals as goal

pub returns : goal.returns
returns c =
    let code = c.args.code.now in
    c.eq.ensures ∙ sliced c.code_at.result.now code ∙ ap (λ (x : Bytes). same_bytes x code) c.code_at.ensures.result_value
