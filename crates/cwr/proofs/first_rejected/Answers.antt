-- `cwr::first_rejected` meets its contract: each ending is the outcome that is defined. Assumes nothing.
use mathlib.Core.Path.{◌∙◌}
use Rattle.admission.proofs.Fit.{let-in}
use Rattle.cwr.proofs.Firsts.{handed-first, refused-first, first-ok, found_first}
use Rattle.cwr.proofs.first_rejected.Goals as goal

pub returns-in_err-admit : goal.returns-in_err-admit
returns-in_err-admit c = handed-first _ _ c.from_residual.ensures.1 ∙ refused-first _ _ _ _ _ c.in_err-admit.ensures

pub invariant_of-tolerance : goal.invariant_of-tolerance
invariant_of-tolerance c = (let-in _ _ _ c.in_ok-admit.ensures).0.tolerance

pub seek-requires : goal.seek-requires
seek-requires c =
    let (o, fit) = let-in _ _ _ c.in_ok-admit.ensures in
    record { here = (fit.short, fit.here, fit.few); right_tables = (o.languages, o.societies, o.categories) }

pub returns : goal.returns
returns c = first-ok c.seek.result ∙ found_first _ _ _ c.in_ok-admit.ensures _ c.seek.ensures
