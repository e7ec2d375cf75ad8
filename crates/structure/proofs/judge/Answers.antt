-- `structure::judge` meets its contract: the records from here on, with the faults met, decide.
use mathlib.Core.Path.{refl, ◌∙◌}
use Rattle.structure.proofs.Search.{judging-end, judging-type, judging-on, is-typed}
use Rattle.structure.proofs.judge.Goals as goal

pub returns-then-not-shaped : goal.returns-then-not-shaped
returns-then-not-shaped c =
    let g = c.args in
    let l = c.loop-s in
    judging-type g.file.now g.asked g.version l.s l.m _ l.invariant c.loop-s-test.true c.text_end-end.result
    c.text_end-end.ensures.value _ refl c.row_of-row.result c.row_of-row.ensures c.shaped.result c.shaped.ensures
    (c.if-not-shaped.true)

pub more-m-requires-clause-row_value : goal.more-m-requires-clause-row_value
more-m-requires-clause-row_value c =
    let g = c.args in
    let l = c.loop-s in (
      c.row_of-row.ensures,
      is-typed g.file.now g.asked g.version l.s l.m _ l.invariant c.loop-s-test.true c.text_end-end.result
          c.text_end-end.ensures.value _ refl c.row_of-row.result c.row_of-row.ensures c.shaped.result c.shaped.ensures
          ∙ c.if-not-shaped.false,
    )

pub loop-s-preserved : goal.loop-s-preserved
loop-s-preserved c =
    let g = c.args in
    let l = c.loop-s in
    judging-on g.file.now g.asked g.version l.s l.m _ l.invariant c.loop-s-test.true c.text_end-end.result
    c.text_end-end.ensures.value _ refl c.row_of-row.result c.row_of-row.ensures c.shaped.result c.shaped.ensures
    (c.if-not-shaped.false) _ c.after_record-s.ensures _ c.more-m.ensures

pub returns : goal.returns
returns c =
    let g = c.args in
    let l = c.loop-s in
    c.ended.ensures g.asked ∙ judging-end g.file.now g.asked g.version l.s l.m _ l.invariant c.loop-s-test.false
