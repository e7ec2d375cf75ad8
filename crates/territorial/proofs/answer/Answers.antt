-- `territorial::answer` meets its contract.
use Rattle.territorial.proofs.Refusals.{in_order, answered}
use mathlib.Core.Path.{ap, ◌∙◌}
use Rattle.format.specs.Lent.{in_room}
use Rattle.rules.specs.Outcome.{enough}
use Rattle.territorial.proofs.answer.Goals as goal

pub in_list-requires : goal.in_list-requires
in_list-requires c =
    in_order _ _ c.args.tolerance c.args.file.now (enough c.args.verdicts c.args.findings) _
    (c.in_room-roomy.ensures ∙ ap (in_room (enough c.args.verdicts c.args.findings)) c.admit_with-admitted.ensures)

pub returns : goal.returns
returns c =
    answered _ _ c.args.tolerance c.args.file.now (enough c.args.verdicts c.args.findings) c.args.room _ _ _
    c.admit_with-admitted.ensures c.in_room-roomy.ensures c.in_list.ensures
