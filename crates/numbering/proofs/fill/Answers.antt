-- `numbering::fill` meets its contract: the buffer's front and the numbered rest are the numbered file.
use Prim.Native.Nat.{ℕ, ◌+◌}
use native.Mathlib.Omega.{arith}
use mathlib.Core.Path.{sym, ap, ◌∙◌}
use lib.ListN.{length-drop}
use borrow.Rule.Slice.PartMut.{mid_len}
use Rattle.kinds.proofs.Laws.{hinted}
use Rattle.structure.proofs.Rows.{in_table}
use Rattle.structure.proofs.Cursor.{to_end}
use Rattle.numbering.proofs.Laws.{filling-start, filling-end, filling-on, three_bytes, ends, room}
use Rattle.numbering.proofs.fill.Goals as goal

pub loop-s-init : goal.loop-s-init
loop-s-init c = filling-start c.args.file.now c.args.out.now c.requires.0 c.start-s.result c.start-s.ensures.place c.start-s.ensures.counts

pub confirmed-shape-requires : goal.confirmed-shape-requires
confirmed-shape-requires c =
    let rows = c.table-rows.result in
    let file = c.args.file.now in
    let i = c.loop-s.s.at in
    let three = three_bytes c.loop-s.invariant c.loop-s-test.true in record {
      in_bounds = rw (to_end file i, length-drop i file) (omega (arith, three));
      hinted_value = λ t e. hinted rows c.table-rows.ensures t c.hint-k.result
          (in_table rows c.table-rows.ensures c.hint-k.result c.hint-k.ensures) _ e;
    }

pub slice_bounds-number_line-end : goal.slice_bounds-number_line-end
slice_bounds-number_line-end c =
    omega (arith, ends c.loop-s.invariant c.loop-s-test.true c.confirmed-shape.ensures c.size.ensures)

pub number_line-requires : goal.number_line-requires
number_line-requires c =
    let end = ends c.loop-s.invariant c.loop-s-test.true c.confirmed-shape.ensures c.size.ensures in
    let i = c.loop-s.s.at in
    let F = c.loop-s.invariant in
    let b = F.bounded in
    let e = i + c.size.result + 2 in
    let line = mid_len i e c.args.file.now end in
    let part = mid_len i e c.loop-s.out (omega (arith, end, c.requires.1, F.same)) in
    let fit = room F c.loop-s-test.true c.confirmed-shape.ensures in
    (part ∙ sym line, (c.loop-s.s.kept, omega (arith, c.loop-s.s.few, b.inside, c.requires.0.short)), omega (arith, line, fit, c.size.ensures))

pub loop-s-preserved : goal.loop-s-preserved
loop-s-preserved c =
    let end = ends c.loop-s.invariant c.loop-s-test.true c.confirmed-shape.ensures c.size.ensures in
    let i = c.loop-s.s.at in
    let F = c.loop-s.invariant in
    let e = i + c.size.result + 2 in
    let part = mid_len i e c.loop-s.out (omega (arith, end, c.requires.1, F.same)) in
    let here = c.loop-s-test.true in
    filling-on F here c.confirmed-shape.ensures e (ap (λ (n : ℕ). i + n + 2) c.size.ensures) c.number_line.new.out
    c.number_line.ensures (omega (arith, c.requires.1, F.same)) (c.number_line.auto.out ∙ part) _
    c.after_record-s.ensures

pub returns : goal.returns
returns c = filling-end c.loop-s.invariant c.loop-s-test.false
