-- `text::part` meets its contract: the field lies beyond the record, is cut short by its end, or within it.
use Prim.Native.Nat.{◌-◌}
use native.Mathlib.Omega.{arith}
use lib.ListN.{length-take, length-drop}
use Rattle.format.specs.Fields.{field_of}
use Rattle.text.proofs.Laws.{beyond, cut_short, within}
use Rattle.text.proofs.part.Goals as goal

pub returns-then-n-from : goal.returns-then-n-from
unfolding field_of
returns-then-n-from c =
    let g = c.args in
    record { result_value = beyond g.record.now (g.start - 1) g.size c.if-n-from.true; result_len_bound = simp (length-take, length-drop) (omega arith) }

pub returns-then-n-from-2 : goal.returns-then-n-from-2
unfolding field_of
returns-then-n-from-2 c =
    let g = c.args in
    record { result_value = cut_short g.record.now (g.start - 1) g.size c.if-n-from-2.true; result_len_bound = simp (length-take, length-drop) (omega arith) }

pub returns : goal.returns
unfolding field_of
returns c =
    let g = c.args in
    record { result_value = within g.record.now (g.start - 1) g.size; result_len_bound = simp (length-take, length-drop) (omega arith) }
