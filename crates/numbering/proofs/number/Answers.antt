-- `numbering::number` meets its contract: each ending is the outcome that is defined.
use mathlib.Core.Path.{◌∙◌}
use Rattle.answers.proofs.Handed.{handed-on}
use Rattle.numbering.proofs.Outcomes.{refused-so, short-so, filled-so, sized}
use Rattle.numbering.proofs.number.Goals as goal

pub returns-in_err-passed : goal.returns-in_err-passed
returns-in_err-passed c =
    let told = refused-so c.args.file.now c.args.out.now c.in_err-passed.ensures in
    record { result_value = handed-on _ _ c.from_residual.ensures.1 ∙ told.0; out_after = told.1 }

pub returns-then-out-file : goal.returns-then-out-file
returns-then-out-file c =
    let told = short-so c.args.file.now c.args.out.now c.in_ok-passed.ensures c.if-out-file.true in
    record { result_value = told.0; out_after = told.1 }

pub fill-requires : goal.fill-requires
fill-requires c = (sized c.args.file.now c.args.out.now c.in_ok-passed.ensures, c.if-out-file.false)

pub returns : goal.returns
returns c =
    let told = filled-so c.args.file.now c.args.out.now c.in_ok-passed.ensures c.if-out-file.false _ c.fill.ensures in
    record { result_value = told.0; out_after = told.1 }
