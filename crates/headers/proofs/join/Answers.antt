-- `headers::join` meets its contract. Assumes nothing.
use Rattle.std.proofs.Common.{rules}
use Rattle.headers.proofs.Laws.{gathered}
use Rattle.headers.proofs.join.Goals as goal

pub returns : goal.returns
returns c fifteen rest long w-set w-level o-set o-level =
    let g = c.args in
    gathered g.stray fifteen rest long g.works g.own w-set w-level o-set o-level
    c.from.result
    c.max-level.result
    c.pick.result
    (search rules)
    (search rules)
    c.pick.ensures
