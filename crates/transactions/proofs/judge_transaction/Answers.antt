-- `transactions::judge_transaction` meets its contract. Assumes nothing.
use native.Mathlib.Omega.{arith}
use mathlib.Core.Path.{refl}
use Rattle.tables.specs.Index.{Indexed}
use Rattle.rules.specs.Tables.{Tables}
use Rattle.buffers.proofs.Entries.{kept-v, kept-f}
use Rattle.transactions.specs.Walk.{rest_at, front_of}
use Rattle.transactions.proofs.Entries.{room-kept, entry-room}
use Rattle.transactions.proofs.Levels.{standing}
use Rattle.transactions.proofs.Fronts.{after-header, details-left, past-header, past-below, filled-whole}
use Rattle.transactions.proofs.judge_transaction.Goals as goal

pub judge_details-d-requires : goal.judge_details-d-requires
judge_details-d-requires c =
    let inside = after-header c.args.index c.requires.here.0 c.requires.here.1 in
    record { here = (inside.here, rw inside.left c.requires.here.2.few, rw inside.left c.requires.here.2); prepared = c.requires.prepared }

-- ---- its header
pub judge_header-h-requires : goal.judge_header-h-requires
judge_header-h-requires c =
    let inside = after-header c.args.index c.requires.here.0 c.requires.here.1 in
    let below = past-below (c.judge_details-d.ensures.past_details refl) (omega (arith, inside.left, c.requires.here.2.few)) in
    record { here = (c.requires.here.0, c.requires.here.1); below = below }

pub settle-requires : goal.settle-requires
settle-requires c =
    let position = standing c.args.index c.requires.here.0 in
    let some = c.requires.prepared in
    entry-room position refl (room-kept (c.judge_details-d.ensures.done_details some.0 some.1).done.0 c.requires.here.2)

-- ---- its verdicts raised
pub slice_bounds-raise-count : goal.slice_bounds-raise-count
slice_bounds-raise-count c =
    let some = c.requires.prepared in
    omega (arith, (c.judge_details-d.ensures.done_details some.0 some.1).done.0.end)

pub slice_bounds-raise-start : goal.slice_bounds-raise-start
slice_bounds-raise-start c =
    let some = c.requires.prepared in
    omega (arith, (c.judge_details-d.ensures.done_details some.0 some.1).done.0.end)

pub slice_bounds-raise-end : goal.slice_bounds-raise-end
slice_bounds-raise-end c =
    let past = past-header c.args.index c.requires.here.0 c.requires.here.1 (c.judge_details-d.ensures.past_details refl) in
    let headed : (tables : Tables) → Indexed tables c.args.lent.now.slots.now → _ = λ tables e. c.judge_header-h.ensures tables _ e past.known past.linked in
    let some = c.requires.prepared in
    let room = room-kept (c.judge_details-d.ensures.done_details some.0 some.1).done.0 c.requires.here.2 in
    omega (arith, past.position.left, room.in_v, kept-v (c.settle.ensures _ (headed some.0 some.1).set))

pub returns : goal.returns
returns c =
    let past = past-header c.args.index c.requires.here.0 c.requires.here.1 (c.judge_details-d.ensures.past_details refl) in
    let headed : (tables : Tables) → Indexed tables c.args.lent.now.slots.now → _ = λ tables e. c.judge_header-h.ensures tables _ e past.known past.linked in
    let some = c.requires.prepared in record {
      past_transaction = record {
        position = past.position;
        class = past.class;
        stray = (headed some.0 some.1).stray;
      };
      filled_transaction = λ tables e. filled-whole tables c.args.lent.now.t c.args.named.now (front_of (rest_at c.args.lent.now.file.now c.args.at))
          (rw (details-left c.args.index c.requires.here.0 c.requires.here.1) at (c.judge_details-d.ensures.done_details tables e))
          (headed tables e) (c.settle.ensures _ (headed tables e).set) c.least-least.ensures
          c.raise.ensures;
    }

pub shape_of-verdicts : goal.shape_of-verdicts
shape_of-verdicts c =
    let some = c.requires.prepared in
    kept-v ((returns c).filled_transaction some.0 some.1).written

pub shape_of-findings : goal.shape_of-findings
shape_of-findings c =
    let some = c.requires.prepared in
    kept-f ((returns c).filled_transaction some.0 some.1).written
