-- `edits::writer::judge` meets its contract. Assumes nothing.
use Rattle.edits.proofs.Own.{own-writer}
use Rattle.edits.proofs.writer.judge.Goals as goal

pub returns : goal.returns
returns c tables before reads =
    let r = c.args.bytes.now in
    own-writer tables before r c.requires.1 _ _
    (rw (
      ← c.found_38.ensures reads,
      ← c.found_39.ensures r reads,
      ← c.found_40.ensures reads,
      ← reads.bad,
      ← c.found_42.ensures reads,
    ))
    c.gather.ensures.set_value
    c.gather.ensures.level_value
