-- `structure::walk` meets its contract: where it stands, all before was right.
use Rattle.structure.proofs.Turns.{stood-start, stood-by}
use Rattle.structure.proofs.Rows.{row-roomy}
use Rattle.structure.proofs.walk.Goals as goal

pub loop-s-init : goal.loop-s-init
loop-s-init c = stood-start c.args.file.now c.args.asked c.start-s.result c.start-s.ensures.place c.start-s.ensures.counts

pub right-requires : goal.right-requires
right-requires c =
    (c.loop-s.invariant.bounded, c.requires, row-roomy c.table-rows.result c.table-rows.ensures c.hint.result c.hint.ensures _)

pub loop-s-preserved : goal.loop-s-preserved
loop-s-preserved c =
    let r = c.right.ensures c.if-not-right.false in
    stood-by c.table-rows.result c.table-rows.ensures c.hint.result c.hint.ensures _ c.args.file.now
    c.args.asked c.loop-s.s _
    c.loop-s.invariant r c.after_record-s.ensures
