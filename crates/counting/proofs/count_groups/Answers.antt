-- `counting::count_groups` meets its contract: each turn counts one group more. Assumes nothing.
use mathlib.Core.Path.{refl, sym, ◌∙◌}
use Rattle.format.specs.Doc.{Group}
use Rattle.rules.specs.Verdicts.{group_findings, group_verdicts}
use Rattle.transactions.specs.Walk.{rest_at}
use Rattle.transactions.specs.Purposes.{Begun}
use Rattle.files.specs.Levels.{group_of}
use Rattle.files.proofs.Entries.{joined-last}
use Rattle.files.proofs.Groups.{begins, position, done, in-file, group-here, one_more, fewer-left, past_all, all_done}
use Rattle.counting.proofs.Parts.{begun-on, part-start, part-more}
use Rattle.counting.proofs.Shares.{missing-none, missing-then}
use Rattle.counting.proofs.count_groups.Goals as goal

-- ---- what is counted so far
pub groups-init : goal.groups-init
groups-init c =
    begins (record { here = c.requires.here.0; left = refl }) (missing-none _ _, λ tables e. part-start _ _ _)

pub is_group-requires : goal.is_group-requires
is_group-requires c = in-file c.groups.invariant

-- ---- one group more
pub count_group-one-requires : goal.count_group-one-requires
count_group-one-requires c =
    let begun : Begun c.groups.n.index c.groups.counters.findings c.groups.counters.levels =
    let (some, indexed) = c.requires.prepared in
    begun-on ((done c.groups.invariant).1 some indexed) c.requires.here.2 in
    let inv = c.groups.invariant in
    let here = position inv in
    let is-grh = group-here inv (sym c.is_group.ensures ∙ c.groups-test.true) in
    record { here = (here.here, is-grh, rw here.left c.requires.here.1, begun, (done inv).0.few c.requires.here.3); prepared = c.requires.prepared }

pub groups-smaller : goal.groups-smaller
groups-smaller c =
    fewer-left c.groups.invariant c.count_group-one.result.next c.count_group-one.ensures.past_group

pub groups-preserved : goal.groups-preserved
groups-preserved c =
    let inv = c.groups.invariant in
    let t = c.args.lent.now.t in
    let counted = c.count_group-one.ensures in
    let g = group_of (rest_at c.args.lent.now.file.now c.groups.n.at) in
    one_more inv c.count_group-one.result.next counted.past_group (
      rw (joined-last (λ (h : Group). h.transactions) inv.0 g) (missing-then (done inv).0 counted.missing_on),
      λ tables e. part-more (group_verdicts tables t) (group_findings tables t) inv.0 g ((done inv).1 tables e) (counted.counted_group tables e),
    )

pub returns : goal.returns
returns c =
    let inv = c.groups.invariant in
    let no-group = sym c.is_group.ensures ∙ c.groups-test.false in
    record { past_groups = past_all inv no-group; missing_on = (all_done inv no-group).0; counted_groups = (all_done inv no-group).1 }
