-- `counts::pair_stands` meets its contract: compared one by one, the two are compared as one.
use borrow.Author.Rules.{rules}
use Rattle.counts.proofs.Laws.{compared}
use Rattle.counts.proofs.pair_stands.Goals as goal

pub returns : goal.returns
returns g c =
    let shown = g.E.Eight.shown in
    let a = c.args in
    compared a.record.now a.start 8 (shown a.m) (g.met.E.Eight.eight a.m) (shown a.r) 8 (search rules) (search rules)
    _ _ c.stands.ensures c.stands-2.ensures
