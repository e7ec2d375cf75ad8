-- `parties::Record::entry` meets its contract. Assumes nothing.
use native.Mathlib.Omega.{arith}
use mathlib.Core.Path.{◌≡◌, ◌∙◌}
use Rattle.claims.proofs.Work.{all-zeros}
use Rattle.parties.proofs.Fields.{entry-right, entry-wrong}
use Rattle.parties.proofs.Record.entry.Goals as goal

pub overflow_cast-result-then-right : goal.overflow_cast-result-then-right
overflow_cast-result-then-right c = omega (arith, c.share-pr.ensures.few, c.share-mr.ensures.few, c.share-sr.ensures.few)

pub overflow_cast-result-then-right-2 : goal.overflow_cast-result-then-right-2
overflow_cast-result-then-right-2 c = omega (arith, c.share-pr.ensures.few, c.share-mr.ensures.few, c.share-sr.ensures.few)

pub overflow_cast-result-then-right-3 : goal.overflow_cast-result-then-right-3
overflow_cast-result-then-right-3 c = omega (arith, c.share-pr.ensures.few, c.share-mr.ensures.few, c.share-sr.ensures.few)

pub returns-then-right : goal.returns-then-right
returns-then-right c T placed counted =
    let widened : c.from.result ≡ c.mark-mark.result = c.from.ensures in
    rw widened
    (entry-right T _ c.args.self.right.1 _ _ _ c.share-pr.result c.share-mr.result c.share-sr.result placed counted
    c.mark-mark.ensures c.share-pr.ensures c.share-mr.ensures c.share-sr.ensures _ c.if-right.true)

pub returns-else-right : goal.returns-else-right
returns-else-right c T placed counted =
    all-zeros c.default.result c.default.ensures
    ∙ entry-wrong T _ c.args.self.right.1 _ _ _ c.share-pr.result c.share-mr.result c.share-sr.result placed counted
    c.mark-mark.ensures c.share-pr.ensures c.share-mr.ensures c.share-sr.ensures _ c.if-right.false
