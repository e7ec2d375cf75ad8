-- `counts::write` meets its contract: from a to e there are size bytes.
-- Assumes nothing.
use borrow.Author.Rules.{rules}
use Rattle.counts.proofs.Laws.{over-field}
use Rattle.counts.proofs.write.Goals as goal

pub returns : goal.returns
returns c =
    let g = c.args in
    over-field g.start g.size g.n g.out.now _ (search rules) c.decimal.ensures
