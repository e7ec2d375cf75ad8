-- `sheet::Missed::of` meets its contract. Assumes nothing.
use mathlib.Core.Path.{◌∙◌}
use mir.Syntax.{w64}
use mir.ValLaws.{to_z-of_z}
use Rattle.sheet.proofs.Missed.of.Goals as goal

pub returns : goal.returns
returns c =
    let m = c.args.m in
    let sum = to_z-of_z w64 c.difference.result (record { sfits = c.difference.type_inv }) ∙ c.difference.ensures in
    λ i. record { transactions = m.transactions; shortfall = m.shortfall; excess = m.excess; sum = sum i }
