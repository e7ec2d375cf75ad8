-- `edits::other::recording` meets its contract: each finding by its function, and the others do not hold of this kind of record.
-- Assumes nothing.
use Rattle.edits.proofs.Own.{own-recording}
use Rattle.edits.proofs.other.recording.Goals as goal

pub returns : goal.returns
returns c tables before =
    own-recording tables before c.args.bytes.now c.requires.1 _ _
    (rw (← c.found_44.ensures, ← c.found_45-b45.ensures, ← c.found_46-b46.ensures))
    c.gather.ensures.set_value
    c.gather.ensures.level_value
