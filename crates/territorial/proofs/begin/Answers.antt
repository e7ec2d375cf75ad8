-- `territorial::begin` meets its contract: what passes is let in, and the buffers are filled before the walk. Assumes nothing.
use mathlib.Core.Path.{◌∙◌}
use lib.ListN.{length}
use Rattle.transactions.specs.Walk.{rest_at}
use Rattle.territorial.proofs.Begun.{admitted, lent, standing, owes, begun}
use Rattle.territorial.proofs.begin.Goals as goal

pub judge-requires : goal.judge-requires
judge-requires c =
    let a = admitted _ _ _ _ _ _ _ c.requires.1 in
    let l = a.in-with in
    record { here = (l.fit.short, l.fit.here, a.enough-room); right = (l.orderly.languages, l.orderly.societies, l.orderly.categories) }

pub invariant_of-most : goal.invariant_of-most
invariant_of-most c = (admitted _ _ _ _ _ _ _ c.requires.1).in-with.orderly.tolerance

pub seek-requires : goal.seek-requires
seek-requires c =
    let args = c.args in
    let a = admitted _ _ _ _ _ _ _ c.requires.1 in (
      length (rest_at args.file.now 0),
      lent args.verdicts.now args.findings.now a c.judge.auto.verdicts c.judge.auto.findings,
      standing args.verdicts.now args.findings.now a _ c.start.ensures,
    )

pub returns : goal.returns
returns c room passes =
    let v = c.args.verdicts.now in
    let g = c.args.findings.now in
    let a = admitted _ _ _ _ _ _ _ passes in
    begun v g a c.judge.ensures c.seek.result _ _
    (c.seek.auto.verdicts ∙ c.judge.auto.verdicts)
    (c.seek.auto.findings ∙ c.judge.auto.findings)
    (c.seek.ensures.by_index _ _ _ _ (owes v g a c.judge.ensures _ c.start.ensures))
