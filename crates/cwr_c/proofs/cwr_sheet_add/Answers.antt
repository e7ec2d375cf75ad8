-- `cwr_c::cwr_sheet_add` meets its contract. Assumes nothing.
use Rattle.cwr_c.proofs.Laws.{sheet-short, sheet-added}
use Rattle.cwr_c.proofs.cwr_sheet_add.Goals as goal

pub returns-then-sheet-lt-SHEET : goal.returns-then-sheet-lt-SHEET
returns-then-sheet-lt-SHEET c = sheet-short c.args.sheet.now _ c.if-sheet-lt-SHEET.true c.packed.ensures

pub returns : goal.returns
returns c =
    sheet-added c.args.sheet.now _ c.if-sheet-lt-SHEET.false
    _ c.read-before.ensures c.sheet_add-taken.result c.sheet_add-taken.ensures c.packed-2.ensures
    _ c.put.ensures
