-- `files::judge_file` meets its contract. Assumes nothing.
use mathlib.Core.Path.{refl}
use Rattle.buffers.proofs.Entries.{kept-v, kept-f}
use Rattle.transactions.proofs.Entries.{room-kept, entry-room, filled-then}
use Rattle.files.proofs.Files.{outset, groups-here, written-file}
use Rattle.files.proofs.judge_file.Goals as goal

-- ---- HDR, the groups, TRL
pub settle_control-requires : goal.settle_control-requires
settle_control-requires c =
    let pre = c.requires.here in
    entry-room (outset pre.0) refl pre.1

pub judge_groups-n-requires : goal.judge_groups-n-requires
judge_groups-n-requires c =
    let here = groups-here c.requires.here.0 in
    record { here = (here.here, rw here.left (room-kept c.settle_control.ensures c.requires.here.1)); prepared = c.requires.prepared }

pub settle_control-requires-2 : goal.settle_control-requires-2
settle_control-requires-2 c =
    let some = c.requires.prepared in
    let written = filled-then c.settle_control.ensures (c.judge_groups-n.ensures.filled_groups some.0 some.1) in
    entry-room c.judge_groups-n.ensures.past_groups.position refl
    (rw (groups-here c.requires.here.0).left (room-kept written c.requires.here.1))

pub returns : goal.returns
returns c tables e =
    written-file c.requires.here.0 tables c.args.lent.now.t _ c.settle_control.ensures (c.judge_groups-n.ensures.filled_groups tables e)
    c.settle_control-2.ensures

pub shape_of-verdicts : goal.shape_of-verdicts
shape_of-verdicts c =
    let some = c.requires.prepared in
    kept-v (returns c some.0 some.1)

pub shape_of-findings : goal.shape_of-findings
shape_of-findings c =
    let some = c.requires.prepared in
    kept-f (returns c some.0 some.1)
