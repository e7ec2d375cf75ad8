-- `claim_list::exceeding_in` meets its contract: each turn counts one claim more, and what is counted is asked at the end. Assumes nothing.
use Rattle.std.proofs.Common.{[], sym, ap, ◌∙◌, arith, take}
use mathlib.Core.Path.{subst}
use Rattle.std.proofs.Math.Seq.{length-take-le, take_all}
use Rattle.claims.specs.Entries.{over_in}
use Rattle.claims.specs.Work.{Counted}
use Rattle.claims.proofs.Counting.{counted_start}
use Rattle.claim_list.proofs.Laws.{take_next}
use Rattle.claim_list.proofs.exceeding_in.Goals as goal

pub loop-claim-init : goal.loop-claim-init
loop-claim-init c =
    subst (Counted c.args.table.now [] 0) (sym c.requires.2) (counted_start c.args.table.now c.requires.1)

pub count-last-requires : goal.count-last-requires
count-last-requires c =
    let l = c.loop-claim in
    let ys = c.args.claims.now in
    let few = length-take-le l.claim-index ys (omega (arith, c.loop-claim-test.true)) in
    (take l.claim-index ys, l.invariant, omega (arith, few, c.loop-claim-test.true, c.requires.0), c.requires.1)

pub loop-claim-preserved : goal.loop-claim-preserved
loop-claim-preserved c =
    let l = c.loop-claim in
    let ys = c.args.claims.now in
    subst (λ es. Counted c.args.table.now es c.count-last.result c.count-last.new.work)
    (take_next ys l.claim-index _ c.loop-claim-test.true) (c.count-last.ensures (take l.claim-index ys) l.invariant)

pub first_over-requires : goal.first_over-requires
first_over-requires c =
    let l = c.loop-claim in
    let ys = c.args.claims.now in
    let few = length-take-le l.claim-index ys (omega arith) in
    (c.requires.1, (take l.claim-index ys, l.last, l.invariant, omega (arith, few, c.requires.0)))

pub returns : goal.returns
returns c =
    let l = c.loop-claim in
    let ys = c.args.claims.now in
    c.first_over.ensures (take l.claim-index ys) l.last l.invariant
    ∙ ap (over_in c.args.table.now c.args.t) (take_all l.claim-index ys (omega arith))
