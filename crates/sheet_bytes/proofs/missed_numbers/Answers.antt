-- `sheet_bytes::missed_numbers` meets its contract: what the code reads back from a sum's bits is the sum. Assumes nothing.
use mathlib.Core.Path.{ap, ◌∙◌}
use mathlib.Core.List.{[], ◌∷◌}
use borrow.Author.Rules.{rules}
use mir.Syntax.{w64}
use mir.Val.{SFits, of_z}
use mir.ValLaws.{to_z-of_z}
use Rattle.sheet_bytes.proofs.Complement.{unsigned-is}
use Rattle.sheet_bytes.proofs.missed_numbers.Goals as goal

pub returns : goal.returns
returns c =
    let m = c.args.m in
    let fits : SFits w64 m.sum = search rules in
    let sum = c.cast_unsigned.ensures ∙ ap (of_z w64) (to_z-of_z w64 m.sum fits) ∙ unsigned-is m.sum in
    λ i. m.transactions ∷ m.shortfall ∷ m.excess ∷ sum i ∷ []
