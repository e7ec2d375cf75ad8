-- `claims::hold_all` meets its contract: the groups of the territories before the j-th are marked.
use mathlib.Core.Path.{◌≡◌, ap, ◌∙◌}
use mathlib.Core.Bool.{Bool, false}
use native.Mathlib.Omega.{arith}
use lib.ListN.{length, length-replicate}
use Rattle.rules.specs.Territories.{territories_in}
use Rattle.territories.proofs.Laws.{within}
use Rattle.claims.proofs.Overs.{holding-none, holding-on, holding-all}
use Rattle.claims.proofs.hold_all.Goals as goal

pub loop-j-init : goal.loop-j-init
loop-j-init c =
    holding-none _ _ (ap length c.requires.1 ∙ length-replicate {A = Bool} 512 false) c.requires.1

pub group-group-requires : goal.group-group-requires
group-group-requires c =
    within c.args.table.now c.loop-j.j (omega (arith, c.loop-j-test.true, c.count-n.ensures))

pub hold-requires : goal.hold-requires
hold-requires c = c.loop-j.invariant.0

pub loop-j-preserved : goal.loop-j-preserved
loop-j-preserved c =
    let l = c.loop-j in
    holding-on (territories_in c.args.table.now) l.j l.held c.hold.new.held c.group-group.result
    (omega (arith, c.loop-j-test.true, c.count-n.ensures)) c.group-group.ensures.value l.invariant c.hold.ensures.held_len c.hold.ensures.by_index

pub returns : goal.returns
returns c =
    let l = c.loop-j in
    let end : l.j ≡ length (territories_in c.args.table.now) = omega (arith, l.auto.j-end, c.loop-j-test.false, c.count-n.ensures) in
    holding-all (territories_in c.args.table.now) l.held (rw end at l.invariant)
