-- `counting::count_transaction` meets its contract. Assumes nothing.
use Prim.Native.Nat.{◌*◌, ◌^◌, ◌≤◌}
use native.Mathlib.Omega.{arith}
use mathlib.Core.Path.{refl, ap}
use lib.ListN.{length}
use Rattle.format.specs.Structure.{most_records}
use Rattle.rules.specs.Tables.{Tables}
use Rattle.tables.specs.Index.{Indexed}
use Rattle.totals.specs.Sums.{Below}
use Rattle.transactions.specs.Walk.{rest_at, front_of}
use Rattle.transactions.proofs.Fronts.{after-header, details-left, past-header, past-below}
use Rattle.counting.proofs.Parts.{begun_more}
use Rattle.counting.proofs.Wholes.{few-before, low, transaction-grows, counted-whole, up_to}
use Rattle.counting.proofs.count_transaction.Goals as goal

pub judge_details-d-requires : goal.judge_details-d-requires
judge_details-d-requires c =
    let inside = after-header c.args.index c.requires.here.0 c.requires.here.1 in
    record { here = (inside.here, rw inside.left c.requires.here.2, begun_more c.requires.here.3 (omega arith)); prepared = c.requires.prepared }

pub judge_header-h-requires : goal.judge_header-h-requires
judge_header-h-requires c =
    let past = past-header c.args.index c.requires.here.0 c.requires.here.1 (c.judge_details-d.ensures.past_details refl) in
    let inside = details-left c.args.index c.requires.here.0 c.requires.here.1 in
    let below : Below (2 ^ 60) c.judge_details-d.result.walk.tally.totals =
    let here = after-header c.args.index c.requires.here.0 c.requires.here.1 in
    past-below past (omega (arith, here.left, ap length inside, c.requires.here.2)) in
    record { here = (c.requires.here.0, c.requires.here.1); below = below }

pub count-requires : goal.count-requires
count-requires c =
    let past = past-header c.args.index c.requires.here.0 c.requires.here.1 (c.judge_details-d.ensures.past_details refl) in
    let within : c.judge_details-d.result.walk.index ≤ most_records =
    omega (arith, past.position.left, c.requires.here.2) in
    let inside = details-left c.args.index c.requires.here.0 c.requires.here.1 in
    let headed : (tables : Tables) → Indexed tables c.args.lent.now.slots.now → _ = λ tables e. c.judge_header-h.ensures tables _ e past.known past.linked in
    let (tables, e) = c.requires.prepared in
    let details = rw inside at (c.judge_details-d.ensures.done_details tables e) in (
      few-before tables c.args.lent.now.t c.args.named.now (front_of (rest_at c.args.lent.now.file.now c.args.at)) c.requires.here.3 details within,
      low tables c.args.lent.now.t c.args.named.now (front_of (rest_at c.args.lent.now.file.now c.args.at)) c.requires.here.3 details (headed tables e),
    )

-- ---- its levels
-- the walk has gone on
pub overflow_sub-w : goal.overflow_sub-w
overflow_sub-w c =
    let (tables, e) = c.requires.prepared in
    omega (arith, (c.judge_details-d.ensures.done_details tables e).done.1)

pub settle_transaction-requires : goal.settle_transaction-requires
settle_transaction-requires c =
    let past = past-header c.args.index c.requires.here.0 c.requires.here.1 (c.judge_details-d.ensures.past_details refl) in
    let within : c.judge_details-d.result.walk.index ≤ most_records =
    omega (arith, past.position.left, c.requires.here.2) in
    let inside = details-left c.args.index c.requires.here.0 c.requires.here.1 in
    let headed : (tables : Tables) → Indexed tables c.args.lent.now.slots.now → _ = λ tables e. c.judge_header-h.ensures tables _ e past.known past.linked in
    let (tables, e) = c.requires.prepared in
    transaction-grows tables c.args.lent.now.t c.args.named.now (front_of (rest_at c.args.lent.now.file.now c.args.at)) c.requires.here.3
    (rw inside at (c.judge_details-d.ensures.done_details tables e)) (headed tables e) c.count.ensures within

pub whole-requires : goal.whole-requires
whole-requires c =
    let past = past-header c.args.index c.requires.here.0 c.requires.here.1 (c.judge_details-d.ensures.past_details refl) in
    let inside = details-left c.args.index c.requires.here.0 c.requires.here.1 in
    let below : Below (2 ^ 60) c.judge_details-d.result.walk.tally.totals =
    let here = after-header c.args.index c.requires.here.0 c.requires.here.1 in
    past-below past (omega (arith, here.left, ap length inside, c.requires.here.2)) in
    below

pub returns : goal.returns
returns c =
    let past = past-header c.args.index c.requires.here.0 c.requires.here.1 (c.judge_details-d.ensures.past_details refl) in
    let inside = details-left c.args.index c.requires.here.0 c.requires.here.1 in
    let headed : (tables : Tables) → Indexed tables c.args.lent.now.slots.now → _ = λ tables e. c.judge_header-h.ensures tables _ e past.known past.linked in
    let (some, indexed) = c.requires.prepared in
    let known = past.known in
    let x = front_of (rest_at c.args.lent.now.file.now c.args.at) in record {
      past_transaction = record { position = past.position; class = past.class; stray = (headed some indexed).stray };
      total_value = (c.whole.ensures.value x.details known.totals, up_to (length x.details) (c.whole.ensures.by_index (99999 * length x.details) known.below));
      counted_transaction = λ tables e. rw c.settle_transaction.ensures.findings (counted-whole tables c.args.lent.now.t c.args.named.now x c.requires.here.3
          (rw inside at (c.judge_details-d.ensures.done_details tables e)) (headed tables e) c.count.ensures
          c.settle_transaction.ensures.levels);
    }
