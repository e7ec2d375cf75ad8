-- `claim_list::fill` meets its contract: the claim that was found is the next that is left. Assumes nothing.
use Rattle.std.proofs.Common.{◌≤◌, sym, ap, ◌∙◌, refl, arith, length}
use Rattle.std.proofs.Math.ListN.{set}
use Rattle.claims.specs.Zeros.{no_claim}
use Rattle.parties.specs.Ahead.{entries_at}
use Rattle.claim_list.proofs.Laws.{laid, laid_next, laid-all, drop_here, drop-none}
use Rattle.claim_list.proofs.fill.Goals as goal

pub loop-next-preserved : goal.loop-next-preserved
loop-next-preserved c =
    let l = c.loop-next in
    let inv = l.invariant in
    let next = c.in-Some.next in
    let ys = c.args.claims.now in
    let es = entries_at c.args.file.now c.args.table.now c.args.at 0 in
    let found = c.in-Some.ensures in
    let here = drop_here es l.n next.claim (entries_at c.args.file.now c.args.table.now next.at next.party) (inv.left ∙ found.left) in
    record {
      upto = omega (arith, here.0);
      stored =
          ap (λ zs. set zs l.n next.claim) inv.stored
          ∙ ap (set (laid es ys (length es) refl c.requires.1 l.n) l.n) (sym (here.1 no_claim))
          ∙ laid_next es ys (length es) refl c.requires.1 l.n no_claim here.0;
      left = here.2;
      within = found.within;
    }

pub loop-next-smaller : goal.loop-next-smaller
loop-next-smaller c =
    let l = c.loop-next in
    let next = c.in-Some.next in
    let es = entries_at c.args.file.now c.args.table.now c.args.at 0 in
    let found = c.in-Some.ensures in
    let here = drop_here es l.n next.claim (entries_at c.args.file.now c.args.table.now next.at next.party) (l.invariant.left ∙ found.left) in
    omega (arith, here.0)

pub bounds-claims-n : goal.bounds-claims-n
bounds-claims-n c =
    let l = c.loop-next in
    let next = c.in-Some.next in
    let es = entries_at c.args.file.now c.args.table.now c.args.at 0 in
    let found = c.in-Some.ensures in
    let here = drop_here es l.n next.claim (entries_at c.args.file.now c.args.table.now next.at next.party) (l.invariant.left ∙ found.left) in
    omega (arith, here.0, c.requires.1, l.auto.claims)

pub returns : goal.returns
returns c =
    let l = c.loop-next in
    let inv = l.invariant in
    let es = entries_at c.args.file.now c.args.table.now c.args.at 0 in
    let all : length es ≤ l.n = drop-none es l.n (inv.left ∙ c.in_default.ensures) in
    (omega (arith, inv.upto, all), inv.stored ∙ laid-all es c.args.claims.now (length es) refl c.requires.1 l.n all)
