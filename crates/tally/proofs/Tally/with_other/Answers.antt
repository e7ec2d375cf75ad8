-- `tally::Tally::with_other` meets its contract. Assumes nothing.
use mathlib.Core.Path.{sym, ◌∙◌}
use Rattle.totals.proofs.Laws.{sums_kept}
use Rattle.tally.proofs.Laws.{below-kept, last-kept}
use Rattle.tally.proofs.Tally.with_other.Goals as goal

pub returns : goal.returns
returns c ds r k d p w =
    let t = c.args.self.totals in
    record {
      totals = sums_kept t ds r k.totals p w;
      below = below-kept t ds r k.below;
      order = c.with.ensures ds r d.0 d.1 k.order;
      marks = c.with_other.ensures ds r k.marks d.0 w;
      last = k.last ∙ sym (last-kept ds r p);
    }
