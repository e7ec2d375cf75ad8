-- `files::judge_group` meets its contract. Assumes nothing.
use native.Mathlib.Omega.{arith}
use mathlib.Core.Path.{refl, ap, ◌∙◌}
use Rattle.rules.specs.Works.{named_type}
use Rattle.buffers.proofs.Entries.{kept-v, kept-f}
use Rattle.transactions.specs.Walk.{rest_at}
use Rattle.transactions.proofs.Entries.{room-kept, entry-room, filled-then}
use Rattle.transactions.proofs.Levels.{standing}
use Rattle.transactions.proofs.Sizes.{group-header, left_after, position-after}
use Rattle.files.proofs.Groups.{opening-ends, opening-lent, past-inside, closing-ends, past-group, filled-group}
use Rattle.files.proofs.judge_group.Goals as goal

pub slice_bounds-opening-end : goal.slice_bounds-opening-end
slice_bounds-opening-end c =
    let position = standing c.args.index c.requires.here.0 in
    omega (arith, opening-ends position c.requires.here.1)

pub settle_control-requires : goal.settle_control-requires
settle_control-requires c =
    let position = standing c.args.index c.requires.here.0 in
    entry-room position refl c.requires.here.2

pub judge_transactions-p-requires : goal.judge_transactions-p-requires
judge_transactions-p-requires c =
    let position = standing c.args.index c.requires.here.0 in
    let here = position-after group-header position refl c.requires.here.1 _ refl in
    record { here = (here.here, rw here.left (room-kept c.settle_control.ensures c.requires.here.2)); prepared = c.requires.prepared }

pub settle_control-requires-2 : goal.settle_control-requires-2
settle_control-requires-2 c =
    let position = standing c.args.index c.requires.here.0 in
    let past = past-inside position c.requires.here.1 _ refl c.judge_transactions-p.ensures.past_transactions in
    let some = c.requires.prepared in
    let written = filled-then c.settle_control.ensures (c.judge_transactions-p.ensures.filled_transactions some.0 some.1) in
    entry-room past.position refl (room-kept written c.requires.here.2)

pub overflow_add-e : goal.overflow_add-e
overflow_add-e c =
    let position = standing c.args.index c.requires.here.0 in
    let past = past-inside position c.requires.here.1 _ refl c.judge_transactions-p.ensures.past_transactions in
    omega (arith, past.position.left, c.requires.here.2.few)

-- ---- its verdicts raised
pub slice_bounds-raise-count : goal.slice_bounds-raise-count
slice_bounds-raise-count c =
    let some = c.requires.prepared in
    omega (arith, (c.judge_transactions-p.ensures.filled_transactions some.0 some.1).end)

pub slice_bounds-raise-start : goal.slice_bounds-raise-start
slice_bounds-raise-start c =
    let some = c.requires.prepared in
    omega (arith, (c.judge_transactions-p.ensures.filled_transactions some.0 some.1).end)

pub slice_bounds-raise-end : goal.slice_bounds-raise-end
slice_bounds-raise-end c =
    let written = c.settle_control-2.ensures.written in
    omega (arith, written.in_v, kept-v written)

pub overflow_add-result : goal.overflow_add-result
overflow_add-result c =
    let position = standing c.args.index c.requires.here.0 in
    let past = past-inside position c.requires.here.1 _ refl c.judge_transactions-p.ensures.past_transactions in
    omega (arith, closing-ends position c.requires.here.1 past, c.args.lent.now.short)

pub overflow_add-result-2 : goal.overflow_add-result-2
overflow_add-result-2 c =
    let position = standing c.args.index c.requires.here.0 in
    let past = past-inside position c.requires.here.1 _ refl c.judge_transactions-p.ensures.past_transactions in
    omega (arith, closing-ends position c.requires.here.1 past, c.args.lent.now.short)

pub returns : goal.returns
returns c =
    let position = standing c.args.index c.requires.here.0 in
    let past = past-inside position c.requires.here.1 _ refl c.judge_transactions-p.ensures.past_transactions in
    let is-grh = c.requires.here.1 in
    let named = c.field-named.ensures.result_value ∙ ap named_type (opening-lent position is-grh _ refl) in record {
      past_group = past-group position is-grh past;
      filled_group = λ tables e. filled-group tables c.args.lent.now.t (rest_at c.args.lent.now.file.now c.args.at) c.judge_transactions-p.result
          named c.settle_control.ensures
          (rw (left_after group-header position refl is-grh _ refl) at (c.judge_transactions-p.ensures.filled_transactions tables e))
          c.settle_control-2.ensures past.stray c.least-least.ensures c.raise.ensures;
    }

pub shape_of-verdicts : goal.shape_of-verdicts
shape_of-verdicts c =
    let some = c.requires.prepared in
    kept-v ((returns c).filled_group some.0 some.1).written

pub shape_of-findings : goal.shape_of-findings
shape_of-findings c =
    let some = c.requires.prepared in
    kept-f ((returns c).filled_group some.0 some.1).written
