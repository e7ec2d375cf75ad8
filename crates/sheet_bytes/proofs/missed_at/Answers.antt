-- `sheet_bytes::missed_at` meets its contract. Assumes nothing.
use mathlib.Core.Path.{ap, ◌∙◌}
use mir.Syntax.{w64}
use mir.ValLaws.{to_z-of_z}
use Rattle.sheet_bytes.specs.Layout.{signed_of}
use Rattle.sheet_bytes.proofs.Complement.{signed-is}
use Rattle.sheet_bytes.proofs.missed_at.Goals as goal

pub returns : goal.returns
returns c =
    let cast = c.cast_signed in
    let sum =
    to_z-of_z w64 cast.result (record { sfits = cast.type_inv }) ∙ cast.ensures ∙ signed-is c.number_at-4.result
    ∙ ap signed_of c.number_at-4.ensures
    in
    λ i. record {
      transactions = c.number_at.ensures i;
      shortfall = c.number_at-2.ensures i;
      excess = c.number_at-3.ensures i;
      sum = sum i;
    }
