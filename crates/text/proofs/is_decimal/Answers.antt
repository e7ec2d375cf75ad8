-- `text::is_decimal` meets its contract: the bytes that are left to take are left to compare with the digits of rest.
use mathlib.Core.Path.{◌≡◌, refl}
use mathlib.Core.List.{[], ◌∷◌, ◌++◌}
use Rattle.text.proofs.Laws.{same-on, same_end, no-length}
use Rattle.text.proofs.is_decimal.Goals as goal

pub loop-b-init : goal.loop-b-init
loop-b-init c = let e : c.into_iter-b-iterator.result.iter.rest.now ≡ c.args.part.now = cc in rw e refl

pub loop-b-preserved : goal.loop-b-preserved
loop-b-preserved c =
    let l = c.loop-b in
    let e : l.b-iterator.iter.rest.now ≡ c.next.new.self.iter.rest.now ++ c.in-Some.b.now ∷ [] = c.in-Some.ensures.steps in
    same-on c.args.n c.args.part.now l.same l.rest c.next.new.self.iter.rest.now c.in-Some.b.now (rw e at l.invariant)

pub returns : goal.returns
returns c =
    let l = c.loop-b in
    let e : l.b-iterator.iter.rest.now ≡ [] = no-length l.b-iterator.iter.rest.now c.in-None.ensures.steps.0 in
    same_end c.args.n c.args.part.now l.same l.rest (rw e at l.invariant)
