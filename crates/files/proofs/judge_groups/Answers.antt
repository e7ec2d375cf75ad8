-- `files::judge_groups` meets its contract. Assumes nothing.
use Prim.Native.Nat.{◌+◌}
use native.Mathlib.Omega.{arith}
use mathlib.Core.Path.{refl, sym, ◌∙◌}
use lib.ListN.{length}
use Rattle.rules.specs.Verdicts.{group_findings, group_verdicts}
use Rattle.buffers.proofs.Entries.{kept-v, kept-f}
use Rattle.transactions.specs.Walk.{rest_at, Room}
use Rattle.transactions.proofs.Entries.{filled_none, room-kept}
use Rattle.files.proofs.Entries.{filled-part}
use Rattle.files.proofs.Groups.{begins, position, done, in-file, group-here, one_more, fewer-left, past_all, all_done}
use Rattle.files.proofs.judge_groups.Goals as goal

pub groups-init : goal.groups-init
groups-init c =
    begins (record { here = c.requires.here.0; left = refl }) (λ tables e. filled_none c.requires.here.1 (omega arith))

pub is_group-requires : goal.is_group-requires
is_group-requires c = in-file c.groups.invariant

pub judge_group-n-requires : goal.judge_group-n-requires
judge_group-n-requires c =
    let room : Room (c.args.first + length (rest_at c.args.lent.now.file.now c.args.start)) (length c.groups.verdicts) (length c.groups.findings) =
    let some = c.requires.prepared in
    room-kept (done c.groups.invariant some.0 some.1) c.requires.here.1 in
    let here = position c.groups.invariant in
    let is-grh = group-here c.groups.invariant (sym c.is_group.ensures ∙ c.groups-test.true) in
    record { here = (here.here, is-grh, rw here.left room); prepared = c.requires.prepared }

pub groups-smaller : goal.groups-smaller
groups-smaller c =
    fewer-left c.groups.invariant c.judge_group-n.result c.judge_group-n.ensures.past_group

pub groups-preserved : goal.groups-preserved
groups-preserved c =
    let inv = c.groups.invariant in
    let t = c.args.lent.now.t in
    one_more inv c.judge_group-n.result c.judge_group-n.ensures.past_group
    (λ tables e. filled-part (group_verdicts tables t) (group_findings tables t) inv.0 _ (done inv tables e)
    (c.judge_group-n.ensures.filled_group tables e))

pub shape_of-verdicts : goal.shape_of-verdicts
shape_of-verdicts c =
    let some = c.requires.prepared in
    kept-v (done c.groups.invariant some.0 some.1).written

pub shape_of-findings : goal.shape_of-findings
shape_of-findings c =
    let some = c.requires.prepared in
    kept-f (done c.groups.invariant some.0 some.1).written

pub returns : goal.returns
returns c =
    let inv = c.groups.invariant in
    let no-group = sym c.is_group.ensures ∙ c.groups-test.false in
    record { past_groups = past_all inv no-group; filled_groups = all_done inv no-group }
