-- `collection::judge_details` meets its contract: each turn takes one detail more.
use native.Mathlib.Omega.{arith}
use borrow.Author.Rules.{rules}
use Rattle.kinds.proofs.Laws.{hinted}
use Rattle.structure.proofs.Rows.{in_table}
use Rattle.collection.proofs.Gone.{begins, ds, here, three, known, same-long, numbered, fewer, one_more, fewer-left, past, all-marked}
use Rattle.collection.proofs.judge_details.Goals as goal

pub loop-places-init : goal.loop-places-init
loop-places-init c = begins c.requires.1 c.start.ensures

pub hint_at-k-requires : goal.hint_at-k-requires
hint_at-k-requires c = three c.loop-places.invariant

pub row_at-row-requires : goal.row_at-row-requires
row_at-row-requires c =
    let hint = c.hint_at-k in
    let table = c.table-rows in
    let listed = in_table table.result table.ensures hint.result hint.ensures in
    (three c.loop-places.invariant, λ type e. hinted table.result table.ensures type hint.result listed _ e)

pub shape_of-findings-in_default : goal.shape_of-findings-in_default
shape_of-findings-in_default c = same-long c.loop-places.invariant

pub returns-in_default : goal.returns-in_default
returns-in_default c =
    let inv = c.loop-places.invariant in
    let its = c.row_at-row.ensures in
    record { past_details = past inv its (search rules); findings_after = all-marked inv its (search rules) }

pub pass_detail-d-requires : goal.pass_detail-d-requires
pass_detail-d-requires c =
    let inv = c.loop-places.invariant in
    let (short, begun, few, room) = c.requires in record { here = (short, here inv, c.row_at-row.ensures, c.in-Detail.is, omega (arith, few, numbered inv)); room = omega (arith, room, numbered inv, same-long inv); known = (ds inv, known inv, fewer inv few) }

pub loop-places-smaller : goal.loop-places-smaller
loop-places-smaller c =
    let (at, index) = c.pass_detail-d.ensures.at_value in
    fewer-left c.loop-places.invariant c.row_at-row.ensures
    c.in-Detail.is c.pass_detail-d.result at index

pub loop-places-preserved : goal.loop-places-preserved
loop-places-preserved c =
    let (at, index) = c.pass_detail-d.ensures.at_value in
    let knows = c.pass_detail-d.ensures.known_2 in
    let marks = c.pass_detail-d.ensures.findings_after in
    let inv = c.loop-places.invariant in
    one_more inv c.row_at-row.ensures
    c.in-Detail.is c.pass_detail-d.result at index _ (knows (ds inv) (known inv)) marks
