-- `findings::worst` meets its contract: the largest verdict of the findings before i, and with that of the others it is that of all.
use native.Mathlib.Omega.{arith}
use mathlib.Core.Path.{refl, ◌∙◌}
use Prim.Native.Nat.{◌+◌}
use Rattle.rules.specs.Findings.{level}
use Rattle.findings.proofs.Laws.{brings-none, brings-one, brought, verdict-at, max-larger}
use Rattle.findings.proofs.worst.Goals as goal

pub loop-i-init : goal.loop-i-init
loop-i-init c = brings-none c.args.first c.args.holds.now 0 0

pub loop-i-preserved : goal.loop-i-preserved
unfolding level
loop-i-preserved c =
    let l = c.loop-i in
    let g = c.args in
    rw (c.max-most.ensures ∙ max-larger l.most c.pick.result, c.pick.ensures)
    (brings-one g.first g.holds.now l.most l.i _ c.loop-i-test.true (verdict-at _ refl (g.first + l.i) (omega arith)) l.invariant)

pub returns : goal.returns
returns c = let l = c.loop-i in brought c.args.first c.args.holds.now l.most l.i c.loop-i-test.false l.invariant
