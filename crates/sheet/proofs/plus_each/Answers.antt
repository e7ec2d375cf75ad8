-- `sheet::plus_each` meets its contract: the counts before i have grown. Assumes nothing.
use mathlib.Core.Path.{refl, sym, ◌∙◌}
use native.Mathlib.Omega.{arith}
use lib.ListN.{length-set}
use Rattle.sheet.proofs.Stops.{plus-is}
use Rattle.sheet.proofs.Each.{each_none, each_on, each_all}
use Rattle.sheet.proofs.plus_each.Goals as goal

pub loop-i-init : goal.loop-i-init
loop-i-init c = (refl, sym (each_none _))

pub loop-i-preserved : goal.loop-i-preserved
loop-i-preserved c =
    let l = c.loop-i in
    let args = c.args in (
      simp length-set l.invariant.0,
      each_on args.counts.now args.more.now l.counts l.i l.invariant.1 (omega arith) (omega arith) _
          (c.saturating_add.ensures ∙ plus-is _ _),
    )

pub returns : goal.returns
returns c =
    let l = c.loop-i in
    let args = c.args in
    each_all args.counts.now args.more.now l.counts l.i l.invariant.1 (λ p q. omega arith)
