-- `figures::Misses::with` meets its contract. Assumes nothing.
use Rattle.std.proofs.Common.{sym, ap, ◌∙◌, not}
use Rattle.figures.proofs.Transactions.{one_more, misses_more, misses-same, tested}
use Rattle.figures.proofs.Misses.with.Goals as goal

-- 0 or the full share
pub returns-then-total-clause-value : goal.returns-then-total-clause-value
returns-then-total-clause-value c totals e =
    let total = c.args.total in
    e ∙ sym (misses-same totals total (tested total ∙ ap not c.if-total.true))

pub returns-clause-value : goal.returns-clause-value
returns-clause-value c totals e =
    let total = c.args.total in
    rw (c.max.ensures, c.max-2.ensures, c.saturating_sub-short.ensures, c.saturating_sub-over.ensures)
    (ap (λ m. one_more m total) e ∙ sym (misses_more totals total (tested total ∙ ap not c.if-total.false)))
