-- `crowds::first_crowded` meets its contract: each turn passes one record more.
use native.Mathlib.Omega.{arith}
use Rattle.kinds.proofs.Laws.{hinted}
use Rattle.structure.proofs.Rows.{in_table}
use Rattle.crowds.proofs.Laws.{begins, ends, three, numbered, fits, one_on, nearer, crowded}
use Rattle.crowds.proofs.first_crowded.Goals as goal

pub loop-w-init : goal.loop-w-init
loop-w-init c = begins _ _ c.requires.1

pub hint_at-k-requires : goal.hint_at-k-requires
hint_at-k-requires c = three c.loop-w.invariant c.loop-w-test.true

pub row_at-row-requires : goal.row_at-row-requires
row_at-row-requires c =
    let hint = c.hint_at-k in
    let table = c.table-rows in
    let listed = in_table table.result table.ensures hint.result hint.ensures in
    (three c.loop-w.invariant c.loop-w-test.true, λ type e. hinted table.result table.ensures type hint.result listed _ e)

pub past-w-requires : goal.past-w-requires
past-w-requires c =
    let inv = c.loop-w.invariant in
    let (short, _, few) = c.requires in (
      omega (arith, short, fits inv c.loop-w-test.true c.row_at-row.ensures),
      omega (arith, few, numbered inv c.loop-w-test.true),
      inv.0.met,
    )

pub returns-then-room-w : goal.returns-then-room-w
returns-then-room-w c =
    crowded (one_on c.loop-w.invariant c.loop-w-test.true c.row_at-row.ensures c.past-w.ensures)
    c.if-room-w.true

pub loop-w-smaller : goal.loop-w-smaller
loop-w-smaller c =
    nearer c.loop-w.invariant c.loop-w-test.true c.row_at-row.ensures c.past-w.ensures

pub loop-w-preserved : goal.loop-w-preserved
loop-w-preserved c =
    (one_on c.loop-w.invariant c.loop-w-test.true c.row_at-row.ensures c.past-w.ensures, c.if-room-w.false)

pub returns : goal.returns
returns c = ends c.loop-w.invariant c.loop-w-test.false
