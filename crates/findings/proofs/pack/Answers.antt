-- `findings::pack` meets its contract: the set of the findings taken, and then the places before them.
use native.Mathlib.Omega.{arith}
use mathlib.Core.Path.{◌≡◌}
use mathlib.Core.List.{[], ◌∷◌, ◌++◌}
use Rattle.findings.proofs.Laws.{packs-none, packs-one, packs-fit, packed, none-left, one-or-none, one-most}
use Rattle.findings.proofs.pack.Goals as goal

pub loop-held-init : goal.loop-held-init
loop-held-init c =
    let e : c.into_iter-held-iterator.result.iter.rest.now ≡ c.args.holds.now = cc in
    rw e (packs-none c.args.holds.now 0)

pub overflow_mul-set : goal.overflow_mul-set
overflow_mul-set c =
    let l = c.loop-held in
    omega (arith, packs-fit c.args.holds.now l.set _ (omega arith) l.invariant)

pub overflow_add-set : goal.overflow_add-set
overflow_add-set c =
    let l = c.loop-held in
    omega (arith, packs-fit c.args.holds.now l.set _ (omega arith) l.invariant, c.from.ensures, one-most c.in-Some.held.now)

pub loop-held-preserved : goal.loop-held-preserved
loop-held-preserved c =
    let l = c.loop-held in
    let b = c.in-Some.held.now in
    let left = c.next.new.self.iter.rest.now in
    let e : l.held-iterator.iter.rest.now ≡ left ++ b ∷ [] = c.in-Some.ensures.steps in
    rw (c.from.ensures, one-or-none) (packs-one c.args.holds.now l.set left b (rw e at l.invariant))

pub returns : goal.returns
returns c =
    let l = c.loop-held in
    let e : l.held-iterator.iter.rest.now ≡ [] = none-left l.held-iterator.iter.rest.now c.in-None.ensures.steps.0 in
    packed c.args.holds.now l.set c.args.first (omega arith) (rw e at l.invariant)
