-- `cwr::check` meets its contract: each ending is the outcome that is defined. Assumes nothing.
use Rattle.answers.proofs.Handed.{handed-on}
use Rattle.cwr.proofs.Refusals.{answered}
use Rattle.cwr.proofs.Outcomes.{refused-so, judged-so, fit}
use Rattle.cwr.proofs.check.Goals as goal

pub returns-in_err-passed : goal.returns-in_err-passed
returns-in_err-passed c =
    let told = answered _ _ _ _ _ _ _ c.admit-admitted.ensures c.in_err-passed.ensures in
    refused-so _ _ _ _ _ _ (handed-on _ _ c.from_residual.ensures.1) told

pub judge-requires : goal.judge-requires
judge-requires c =
    let args = c.args in
    let told = answered _ _ _ _ _ _ _ c.admit-admitted.ensures c.in_ok-passed.ensures in
    let (o, h, room) = fit _ _ _ args.verdicts.now args.findings.now told in
    record { here = (h.short, h.here, room); right = (o.languages, o.societies, o.categories) }

pub invariant_of-tolerance : goal.invariant_of-tolerance
invariant_of-tolerance c =
    let args = c.args in
    let told = answered _ _ _ _ _ _ _ c.admit-admitted.ensures c.in_ok-passed.ensures in
    (fit _ _ _ args.verdicts.now args.findings.now told).0.tolerance

pub returns : goal.returns
returns c =
    let told = answered _ _ _ _ _ _ _ c.admit-admitted.ensures c.in_ok-passed.ensures in
    judged-so _ _ _ _ _ told _ _ c.judge.ensures
