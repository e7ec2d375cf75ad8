-- `edits::publisher::judge` meets its contract. Assumes nothing.
use Rattle.edits.proofs.Own.{own-publisher}
use Rattle.edits.proofs.publisher.judge.Goals as goal

pub returns : goal.returns
returns c tables before i reads last known =
    let r = c.args.bytes.now in
    own-publisher tables before r c.requires.1 _ _
    (rw (
      ← c.found_25.ensures before last r reads,
      ← c.found_26.ensures reads,
      ← c.found_27.ensures reads,
      ← c.found_28.ensures r reads,
      ← c.found_29.ensures r reads,
      ← reads.bad,
      ← c.found_31.ensures r reads,
      ← c.found_32.ensures before r known reads,
      ← c.found_33.ensures r reads,
      ← c.found_34.ensures reads,
      ← c.found_35.ensures r reads,
      ← c.found_36.ensures tables i,
      ← c.found_37.ensures,
    ))
    c.gather.ensures.set_value
    c.gather.ensures.level_value
