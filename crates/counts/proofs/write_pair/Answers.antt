-- `counts::write_pair` meets its contract: written one by one, the two are written as one.
use borrow.Author.Rules.{rules}
use Rattle.counts.proofs.Laws.{written}
use Rattle.counts.proofs.write_pair.Goals as goal

pub returns : goal.returns
returns g c =
    let shown = g.E.Eight.shown in
    let a = c.args in
    written a.out.now a.start 8 (shown a.m) (g.met.E.Eight.eight a.m) (shown a.r) 8 (search rules) (search rules)
    _ _ c.write.ensures c.write-2.ensures
