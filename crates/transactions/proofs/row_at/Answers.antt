-- `transactions::row_at` meets its contract. Assumes nothing.
use native.Mathlib.Omega.{arith}
use mathlib.Core.Path.{ap, ◌∙◌}
use lib.ListN.{take, length-drop}
use Rattle.format.specs.Bytes.{Bytes}
use Rattle.kinds.specs.Rows.{row_for}
use Rattle.structure.proofs.Cursor.{to_end}
use Rattle.transactions.proofs.row_at.Goals as goal

pub confirmed_row-requires : goal.confirmed_row-requires
confirmed_row-requires c =
    let file = c.args.file.now in
    let at = c.args.at in
    record { in_bounds = rw (to_end file at, length-drop at file) (omega (arith, c.requires.0)); hinted_value = c.requires.1 }

pub returns : goal.returns
returns c =
    let args = c.args in
    c.confirmed_row.ensures ∙ ap (λ (b : Bytes). row_for (take 3 b)) (to_end args.file.now args.at)
