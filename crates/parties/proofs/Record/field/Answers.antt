-- `parties::Record::field` meets its contract. Assumes nothing.
use Prim.Native.Nat.{◌+◌}
use native.Mathlib.Omega.{arith}
use mathlib.Core.Path.{ap, ◌∙◌}
use Rattle.format.specs.Fields.{field_of}
use Rattle.parties.proofs.Fields.{field-here, room}
use Rattle.parties.proofs.Record.field.Goals as goal

pub overflow_add-pick : goal.overflow_add-pick
overflow_add-pick c =
    let args = c.args in
    let fits = (room args.self.publishers args.on args.size _ c.args.self.right.2 c.requires).1 in
    rw c.pick.ensures (omega (arith, fits))

pub field-requires : goal.field-requires
field-requires c =
    let args = c.args in
    rw c.pick.ensures (room args.self.publishers args.on args.size _ c.args.self.right.2 c.requires)

pub returns : goal.returns
returns c =
    let args = c.args in
    let record-now = args.self.bytes.now in record {
      result_value = c.field.ensures.result_value
          ∙ ap (λ n. field_of (n + args.on) args.size record-now) c.pick.ensures
          ∙ field-here args.self.publishers args.on args.size record-now c.args.self.right.0;
      result_len = c.field.ensures.result_len;
    }
