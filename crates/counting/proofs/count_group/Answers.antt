-- `counting::count_group` meets its contract. Assumes nothing.
use Prim.Native.Nat.{◌+◌, ◌≤◌}
use native.Mathlib.Omega.{arith}
use mathlib.Core.Path.{refl, ap, ◌∙◌}
use Rattle.format.specs.Structure.{most_records}
use Rattle.rules.specs.Works.{named_type}
use Rattle.transactions.specs.Walk.{rest_at}
use Rattle.transactions.proofs.Levels.{standing}
use Rattle.transactions.proofs.Sizes.{group-header, left_after, position-after}
use Rattle.files.proofs.Groups.{opening-ends, opening-lent, past-inside, past-group}
use Rattle.counting.proofs.Parts.{begun_more}
use Rattle.counting.proofs.Shares.{within_more, missing-wider}
use Rattle.counting.proofs.Wholes.{group-grows, counted-group}
use Rattle.counting.proofs.count_group.Goals as goal

pub slice_bounds-opening-end : goal.slice_bounds-opening-end
slice_bounds-opening-end c =
    let position = standing c.args.index c.requires.here.0 in
    omega (arith, opening-ends position c.requires.here.1)

pub count_transactions-run-requires : goal.count_transactions-run-requires
count_transactions-run-requires c =
    let position = standing c.args.index c.requires.here.0 in
    let here = position-after group-header position refl c.requires.here.1 _ refl in record {
      here = (here.here, rw here.left c.requires.here.2, begun_more c.requires.here.3 (omega arith), within_more (omega arith) c.requires.here.4);
      prepared = c.requires.prepared;
    }

-- ---- its levels
pub overflow_add-next : goal.overflow_add-next
overflow_add-next c =
    let position = standing c.args.index c.requires.here.0 in
    let past = past-inside position c.requires.here.1 _ refl c.count_transactions-run.ensures.past_transactions in
    let few : c.count_transactions-run.result.passed.index + 1 ≤ most_records =
    omega (arith, (past-group position c.requires.here.1 past).position.left, c.requires.here.2) in
    omega (arith, few)

-- the walk has gone on
pub overflow_sub-next : goal.overflow_sub-next
overflow_sub-next c =
    let (some, indexed) = c.requires.prepared in
    omega (arith, (c.count_transactions-run.ensures.counted_transactions some indexed).end)

pub settle_group-requires : goal.settle_group-requires
settle_group-requires c =
    let position = standing c.args.index c.requires.here.0 in
    let past = past-inside position c.requires.here.1 _ refl c.count_transactions-run.ensures.past_transactions in
    let few : c.count_transactions-run.result.passed.index + 1 ≤ most_records =
    omega (arith, (past-group position c.requires.here.1 past).position.left, c.requires.here.2) in
    let rest = left_after group-header position refl c.requires.here.1 _ refl in
    let (some, indexed) = c.requires.prepared in
    let counted = rw rest at (c.count_transactions-run.ensures.counted_transactions some indexed) in
    group-grows some c.args.lent.now.t _ (rest_at c.args.lent.now.file.now c.args.at) c.requires.here.3 counted few

-- ---- past it
-- its GRT stands in the file
pub overflow_add-result : goal.overflow_add-result
overflow_add-result c =
    let position = standing c.args.index c.requires.here.0 in
    let past = past-inside position c.requires.here.1 _ refl c.count_transactions-run.ensures.past_transactions in
    omega (arith, past.position.here.within, c.args.lent.now.short)

pub overflow_add-result-2 : goal.overflow_add-result-2
overflow_add-result-2 c =
    let position = standing c.args.index c.requires.here.0 in
    let past = past-inside position c.requires.here.1 _ refl c.count_transactions-run.ensures.past_transactions in
    omega (arith, past.position.here.within, c.args.lent.now.short)

pub returns : goal.returns
returns c =
    let position = standing c.args.index c.requires.here.0 in
    let past = past-inside position c.requires.here.1 _ refl c.count_transactions-run.ensures.past_transactions in
    let rest = left_after group-header position refl c.requires.here.1 _ refl in
    let is-grh = c.requires.here.1 in
    let rs = rest_at c.args.lent.now.file.now c.args.at in
    let named = c.field-named.ensures.result_value ∙ ap named_type (opening-lent position is-grh _ refl) in
    let counted = c.count_transactions-run.ensures in record {
      past_group = past-group position is-grh past;
      missing_on = missing-wider (rw rest at counted.missing_on) (omega arith) (omega arith);
      counted_group = λ tables e. rw c.settle_group.ensures.findings (counted-group tables c.args.lent.now.t _ rs c.requires.here.3 (rw rest at (counted.counted_transactions tables e)) named past.stray
          c.settle_group.ensures.levels);
    }
