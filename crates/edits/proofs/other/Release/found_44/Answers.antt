-- `edits::other::Release::found_44` meets its contract. Assumes nothing.
use mathlib.Core.Path.{sym, ap, ◌∙◌}
use Rattle.format.specs.Fields.{is_blank}
use Rattle.rules.specs.Values.{are_zeros}
use Rattle.edits.proofs.Fields.{zeros-in-force, not-44, is-44}
use Rattle.edits.proofs.other.Release.found_44.Goals as goal

pub returns-then-date-duration : goal.returns-then-date-duration
returns-then-date-duration c =
    let r = c.self.inside.bytes.now in
    -- what the code asks of date and duration is asked of them with their defaults in force
    let in-force =
    zeros-in-force r _ _ _ _ (c.requires.0 ∙ rw (← c.self.view_is)) (c.requires.1 ∙ rw (← c.self.view_is))
    (c.zeros.ensures ∙ ap are_zeros c.of.ensures.value)
    (c.zeros-2.ensures ∙ ap are_zeros c.of-2.ensures.value) in
    rw (← c.self.view_is)
    (c.blank.ensures ∙ ap is_blank c.of-then-date-duration.ensures.value
    ∙ is-44 r c.self.invariant.1 (sym in-force ∙ c.if-date-duration.true))

pub returns-else-date-duration : goal.returns-else-date-duration
returns-else-date-duration c =
    let r = c.self.inside.bytes.now in
    let in-force =
    zeros-in-force r _ _ _ _ (c.requires.0 ∙ rw (← c.self.view_is)) (c.requires.1 ∙ rw (← c.self.view_is))
    (c.zeros.ensures ∙ ap are_zeros c.of.ensures.value)
    (c.zeros-2.ensures ∙ ap are_zeros c.of-2.ensures.value) in
    rw (← c.self.view_is) (c.if-date-duration.false ∙ not-44 r (sym in-force ∙ c.if-date-duration.false))
