-- `edits::other::performer` meets its contract.
-- Assumes nothing.
use mathlib.Core.Path.{ap, ◌∙◌}
use Rattle.format.specs.Fields.{is_blank}
use Rattle.edits.proofs.Fields.{performer-43}
use Rattle.edits.proofs.Own.{own-performer}
use Rattle.edits.proofs.other.performer.Goals as goal

pub returns : goal.returns
returns c tables before =
    let r = c.args.record.now in
    let e = c.blank.ensures ∙ ap is_blank c.of.ensures.value ∙ performer-43 r c.requires.1 in
    own-performer tables before r c.requires.1 _ _ (rw (← e)) c.gather.ensures.set_value c.gather.ensures.level_value
