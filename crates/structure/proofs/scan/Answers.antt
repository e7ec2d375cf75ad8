-- `structure::scan` meets its contract: the lines decide 4 and 5, and then the records.
use native.Mathlib.Omega.{arith}
use mathlib.Core.Path.{◌≡◌, refl, sym, ap, ◌∙◌}
use Rattle.answers.specs.Numbers.{refused_of}
use Rattle.answers.proofs.Handed.{handed-on}
use lib.ListN.{drop}
use Rattle.std.specs.Prelude.{Ok, Err}
use Rattle.format.specs.Lines.{lines}
use Rattle.kinds.specs.Rows.{class_in}
use Rattle.counts.specs.Counting.{counts_in}
use Rattle.structure.proofs.Whole.{lines-fault, lines-many, lines-few, told-err}
use Rattle.structure.proofs.scan.Goals as goal

pub returns-in_err-n : goal.returns-in_err-n
returns-in_err-n c =
    let g = c.args in
    let e : c.map_err.result ≡ Err c.in_err-n.field-0.0 = c.in_err-n.was in
    let (k, is, its) = told-err c.lines_from.result c.map_err.ensures.cases e in
    handed-on _ _ c.from_residual.ensures.1
    ∙ ap refused_of its
    ∙ lines-fault g.asked g.version (class_in g.s.class) (counts_in g.s.counts) _ refl (lines (drop g.s.at g.file.now)) k
    (sym c.lines_from.ensures ∙ is)

pub returns-then-n-gt-MOST_RECORDS : goal.returns-then-n-gt-MOST_RECORDS
returns-then-n-gt-MOST_RECORDS c =
    let g = c.args in
    let e : c.lines_from.result ≡ Ok c.in_ok-n.n = grind arith in
    lines-many g.asked g.version (class_in g.s.class) (counts_in g.s.counts) _ refl
    (lines (drop g.s.at g.file.now)) _ (sym c.lines_from.ensures ∙ e) c.if-n-gt-MOST_RECORDS.true

pub returns : goal.returns
returns c =
    let g = c.args in
    let e : c.lines_from.result ≡ Ok c.in_ok-n.n = grind arith in
    c.judge.ensures
    ∙ lines-few g.asked g.version (class_in g.s.class) (counts_in g.s.counts) _ refl (lines (drop g.s.at g.file.now)) _
    (sym c.lines_from.ensures ∙ e) c.if-n-gt-MOST_RECORDS.false
