-- `edits::header::judge` meets its contract: each finding by its function, and the others do not hold of this kind of record.
-- Assumes nothing.
use Rattle.edits.proofs.Own.{own-header}
use Rattle.edits.proofs.header.judge.Goals as goal

pub returns : goal.returns
returns c tables before i =
    own-header tables before c.args.bytes.now c.requires.1
    _
    _
    (rw (
      ← c.found_16.ensures,
      ← c.found_17.ensures tables i,
      ← c.found_18.ensures,
      ← c.found_19.ensures,
      ← c.found_20.ensures,
      ← c.found_21.ensures tables i,
      ← c.found_22.ensures,
      ← c.found_23.ensures,
    ))
    c.gather.ensures.set_value
    c.gather.ensures.level_value
