-- `lister::Page::records` meets its contract: each turn puts the line of one record more. Assumes nothing.
use native.Mathlib.Omega.{arith}
use Rattle.lister.proofs.Words.{length-put}
use Rattle.lister.proofs.Walk.{going_start, going_end, five-bytes, verdict-there, set_there, going_on}
use Rattle.lister.proofs.Page.records.Goals as goal

pub loop-at-init : goal.loop-at-init
loop-at-init c = going_start c.args.file.now c.args.verdicts.now c.args.findings.now c.args.self.now c.requires.0 c.requires.1

pub line-requires : goal.line-requires
line-requires c =
    let inv = c.loop-at.invariant in
    let here = c.loop-at-test.true in
    let five = five-bytes inv here in
    (omega (arith, five), verdict-there inv here, set_there inv here, omega (arith, five, inv.few, length-put inv.put, c.requires.1))

pub loop-at-preserved : goal.loop-at-preserved
loop-at-preserved c =
    going_on c.loop-at.invariant c.loop-at-test.true c.text_end-at.result c.text_end-at.ensures.value _ c.line.ensures

pub returns : goal.returns
returns c = going_end c.loop-at.invariant c.loop-at-test.false
