-- `chains::Chains::found_12` meets its contract. The loop's invariant: what was found so far was found among the chains gone over.
-- Assumes nothing.
use Rattle.std.proofs.Common.{◌≡◌, ◌∙◌, length, ap, arith}
use Rattle.std.proofs.lemmas.Iterator.{empty_from_Zip}
use Rattle.chains.proofs.Laws.{found-is}
use Rattle.chains.proofs.Chains.found_12.Goals as goal

pub returns : goal.returns
returns c ds b t =
    let inv = c.loop-begun.invariant in
    let (none, others) = empty_from_Zip c.loop-begun.begun-iterator c.next.new.self _ c.in-None.is c.next.ensures.steps (omega arith) in
    let all : length c.loop-begun.yielded ≡ 100 = omega (arith, ap length none, inv.begun) in
    (rw all at inv.found) ∙ found-is c.args.self.now.begun c.args.self.now.sums ds b t
