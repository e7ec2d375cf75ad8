-- `text::field` meets its contract: from a to a + size there are size bytes.
use mathlib.Core.Path.{◌≡◌}
use Prim.Native.Nat.{◌+◌, ◌-◌}
use native.Mathlib.Omega.{arith}
use lib.ListN.{length-take, length-drop}
use Rattle.format.specs.Fields.{field_of}
use Rattle.text.proofs.field.Goals as goal

pub returns : goal.returns
unfolding field_of
returns c =
    let g = c.args in
    let size : g.start - 1 + g.size - (g.start - 1) ≡ g.size = omega arith in
    record { result_value = rw size; result_len = simp (length-take, length-drop) (omega arith) }
