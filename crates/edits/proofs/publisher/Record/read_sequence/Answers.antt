-- `edits::publisher::Record::read_sequence` meets its contract. Assumes nothing.
use native.Mathlib.Omega.{arith}
use mathlib.Core.Path.{sym, ap, ◌∙◌}
use Rattle.format.specs.Fields.{are_digits, number_of}
use Rattle.values.proofs.Laws.{spelled}
use Rattle.edits.specs.declared.publisher.Sequence.{Sequence}
use Rattle.edits.proofs.Sequences.{number_read, none_read}
use Rattle.edits.proofs.publisher.Record.read_sequence.Goals as goal

pub returns-then-are_digits : goal.returns-then-are_digits
returns-then-are_digits c =
    let r = c.self.inside.bytes.now in
    let f = c.of-number in
    let digits-here = c.are_digits.ensures ∙ ap are_digits (spelled 2 f.result.now f.ensures.long ∙ f.ensures.value) in
    let n = c.number.ensures.value ∙ ap number_of (spelled 2 f.result.now f.ensures.long ∙ f.ensures.value) in
    rw (← c.self.view_is) (record { value = ap Sequence.Number n ∙ sym (number_read r (sym digits-here ∙ c.if-are_digits.true)); below100 = omega arith })

pub returns-else-are_digits : goal.returns-else-are_digits
returns-else-are_digits c =
    let f = c.of-number in
    let digits-here = c.are_digits.ensures ∙ ap are_digits (spelled 2 f.result.now f.ensures.long ∙ f.ensures.value) in
    rw (← c.self.view_is) (record { value = sym (none_read c.self.inside.bytes.now (sym digits-here ∙ c.if-are_digits.false)); below100 = tt })
