-- `transactions::judge_details` meets its contract: each turn judges one detail more, and keeps it as the purpose is.
-- Assumes nothing.
use Prim.Native.Nat.{◌≤◌}
use native.Mathlib.Omega.{arith}
use mathlib.Core.Path.{refl}
use mathlib.Core.Bool.{◌&&◌}
use lib.ListN.{length}
use Rattle.format.specs.Structure.{most_records}
use Rattle.format.proofs.Tests.{by_cases}
use Rattle.rules.specs.Tables.{Tables}
use Rattle.tables.specs.Index.{Indexed}
use Rattle.kinds.proofs.Laws.{hinted}
use Rattle.structure.proofs.Rows.{in_table}
use Rattle.transactions.specs.Walk.{rest_at}
use Rattle.transactions.specs.Purposes.{is_search}
use Rattle.transactions.proofs.Entries.{entry-room}
use Rattle.transactions.proofs.Laws.{own-worst, none_left, is-detail}
use Rattle.transactions.proofs.Purposes.{done_none, done_on, done-early, same-lengths, writes, tells}
use Rattle.transactions.proofs.Gone.{begins, ds, r, position, here, three, known, tallied, done, numbered, among-all, below, small-chains}
use Rattle.transactions.proofs.Gone.{split-left, one_more, fewer-left, past, all_done}
use Rattle.transactions.proofs.judge_details.Goals as goal

-- ---- the start, and the row of the record that stands here
pub loop-rejects-init : goal.loop-rejects-init
loop-rejects-init c =
    begins (record { here = c.requires.here.0; left = refl }) c.start-w.ensures c.none-chains.ensures
    (λ tables e. rw c.start-w.ensures.index (done_none c.args.purpose tables c.requires.here.2 (omega arith)))

pub hint_at-k-requires : goal.hint_at-k-requires
hint_at-k-requires c = three c.loop-rejects.invariant

pub row_at-row-requires : goal.row_at-row-requires
row_at-row-requires c =
    let hint = c.hint_at-k in
    let table = c.table-rows in
    let listed = in_table table.result table.ensures hint.result hint.ensures in
    (three c.loop-rejects.invariant, λ type e. hinted table.result table.ensures type hint.result listed _ e)

pub shape_of-verdicts-then-ne-searched : goal.shape_of-verdicts-then-ne-searched
shape_of-verdicts-then-ne-searched c =
    let some = c.requires.prepared in
    (same-lengths (done c.loop-rejects.invariant some.0 some.1)).0

pub shape_of-findings-then-ne-searched : goal.shape_of-findings-then-ne-searched
shape_of-findings-then-ne-searched c =
    let some = c.requires.prepared in
    (same-lengths (done c.loop-rejects.invariant some.0 some.1)).1

pub returns-then-ne-searched : goal.returns-then-ne-searched
returns-then-ne-searched c =
    let inv = c.loop-rejects.invariant in
    let searched = c.is_search-searched.ensures in
    let ended = rw searched at c.if-ne-searched.true in
    let its = c.row_at-row.ensures in record {
      past_details = λ e. past inv its (none_left _ _ _ c.ne.ensures ended e) c.links_of.result _ (c.links_of.ensures (ds inv) (tallied inv));
      done_details = by_cases (is_search c.args.purpose && c.loop-rejects.rejects)
          (λ e tables indexed. rw (split-left inv) (done-early (done inv tables indexed) e _))
          (λ e. all_done inv its (none_left _ _ _ c.ne.ensures ended e));
    }

-- ---- a detail
pub judge_detail-s-requires : goal.judge_detail-s-requires
judge_detail-s-requires c =
    let inv = c.loop-rejects.invariant in
    let few : length (rest_at c.args.lent.now.file.now c.args.start) ≤ most_records = omega (arith, c.requires.here.1) in record { here = (here inv, c.row_at-row.ensures, is-detail _ _ _ c.ne.ensures c.if-ne-searched.false, numbered inv c.requires.here.1); below = (below inv few, small-chains inv few) }

pub write-requires : goal.write-requires
write-requires c =
    let inv = c.loop-rejects.invariant in
    let some = c.requires.prepared in
    writes (done inv some.0 some.1) _ c.requires.here.2 (entry-room (position inv) refl)

pub tell-rejects-requires : goal.tell-rejects-requires
tell-rejects-requires c =
    let inv = c.loop-rejects.invariant in
    let some = c.requires.prepared in
    let turned = (c.judge_detail-s.ensures.turned some.0 (ds inv) some.1 (known inv) (tallied inv)).0 in
    tells (done inv some.0 some.1) _ c.requires.here.2 (omega (arith, among-all inv, c.requires.here.1))
    (rw turned.judged.level (omega (arith, own-worst some.0 (ds inv) (r inv))))

pub loop-rejects-smaller : goal.loop-rejects-smaller
loop-rejects-smaller c =
    let (at, index) = c.judge_detail-s.ensures.at_value in
    fewer-left c.loop-rejects.invariant c.row_at-row.ensures (is-detail _ _ _ c.ne.ensures c.if-ne-searched.false)
    c.judge_detail-s.result.walk at index

pub loop-rejects-preserved : goal.loop-rejects-preserved
loop-rejects-preserved c =
    let inv = c.loop-rejects.invariant in
    let some = c.requires.prepared in
    let turned : (tables : Tables) → Indexed tables c.args.lent.now.slots.now → _ = λ tables e. c.judge_detail-s.ensures.turned tables (ds inv) e (known inv) (tallied inv) in
    let (at, index) = c.judge_detail-s.ensures.at_value in
    one_more inv c.row_at-row.ensures (is-detail _ _ _ c.ne.ensures c.if-ne-searched.false)
    c.judge_detail-s.result.walk at index
    (turned some.0 some.1).0.known
    (turned some.0 some.1).1
    (λ tables e. done_on (done inv tables e) index (turned tables e).0.judged c.write.ensures c.tell-rejects.ensures.value c.tell-rejects.ensures.told)
