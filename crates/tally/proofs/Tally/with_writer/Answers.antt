-- `tally::Tally::with_writer` meets its contract. Assumes nothing.
use Prim.Native.Nat.{◌*◌}
use mathlib.Core.Path.{sym, ◌∙◌}
use lib.ListN.{length}
use Rattle.rules.proofs.Types.{writer-no-publisher}
use Rattle.tally.proofs.Laws.{below_on, last-kept}
use Rattle.tally.proofs.Tally.with_writer.Goals as goal

pub returns : goal.returns
returns c ds r k d reads =
    let w = reads.kind.1 in
    record {
      totals = c.with_writer.ensures.sums ds r k.totals w reads.shares;
      below = below_on _ ds r (c.with_writer.ensures.grown (99999 * length ds) k.below);
      order = c.with.ensures ds r d.0 d.1 k.order;
      marks = c.with_writer-2.ensures ds r k.marks reads;
      last = k.last ∙ sym (last-kept ds r (writer-no-publisher r w));
    }
