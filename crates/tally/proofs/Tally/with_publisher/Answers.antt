-- `tally::Tally::with_publisher` meets its contract. Assumes nothing.
use Prim.Native.Nat.{◌*◌}
use mathlib.Core.Path.{sym, ◌∙◌}
use lib.ListN.{length}
use Rattle.rules.proofs.Types.{publisher-no-writer}
use Rattle.tally.proofs.Marking.{unmarked}
use Rattle.tally.proofs.Laws.{publisher-unmarked, below_on, last_on}
use Rattle.tally.proofs.Tally.with_publisher.Goals as goal

pub returns : goal.returns
returns c ds r k d reads =
    let p = reads.kind.1 in
    let (i, e, v) = publisher-unmarked r p in
    record {
      totals = c.with_publisher.ensures.sums ds r k.totals p reads.shares;
      below = below_on _ ds r (c.with_publisher.ensures.grown (99999 * length ds) k.below);
      order = c.with.ensures ds r d.0 d.1 k.order;
      marks = unmarked c.args.self.marks ds r k.marks (publisher-no-writer r p) i e v;
      last = reads.sequence ∙ sym (last_on ds r p);
    }
