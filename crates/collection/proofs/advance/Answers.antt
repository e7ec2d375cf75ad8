-- `collection::advance` meets its contract: each turn takes one transaction more, or one control record.
use native.Mathlib.Omega.{arith}
use borrow.Author.Rules.{rules}
use mathlib.Core.Path.{sym, ◌∙◌}
use Rattle.kinds.proofs.Laws.{hinted}
use Rattle.structure.proofs.Rows.{in_table}
use Rattle.collection.proofs.Advancing.{starts, three, numbered, past_one, in-doubt, ends, is-head, at-end, past-control, fewer-after}
use Rattle.collection.proofs.Owed.{doubtless}
use Rattle.collection.proofs.advance.Goals as goal

pub loop-places-init : goal.loop-places-init
loop-places-init c = let (m, lent, standing) = c.requires in starts lent standing

pub hint_at-k-requires : goal.hint_at-k-requires
hint_at-k-requires c = three c.loop-places.invariant

pub row_at-row-requires : goal.row_at-row-requires
row_at-row-requires c =
    let hint = c.hint_at-k in
    let table = c.table-rows in
    let listed = in_table table.result table.ensures hint.result hint.ensures in
    (three c.loop-places.invariant, λ type e. hinted table.result table.ensures type hint.result listed _ e)

pub shape_of-verdicts-in-Trl : goal.shape_of-verdicts-in-Trl
shape_of-verdicts-in-Trl c = c.loop-places.invariant.long_v

pub shape_of-findings-in-Trl : goal.shape_of-findings-in-Trl
shape_of-findings-in-Trl c = c.loop-places.invariant.long_g

pub returns-in-Trl : goal.returns-in-Trl
returns-in-Trl c = let told = at-end c.loop-places.invariant c.row_at-row.ensures c.in-Trl.is in record { by_index = told.0; result_bound = told.1 }

pub judge_transaction-s-requires : goal.judge_transaction-s-requires
judge_transaction-s-requires c =
    let u = c.loop-places.invariant in
    (u.m, u.lent, u.standing, is-head u c.row_at-row.ensures c.in-Head.is)

pub shape_of-verdicts-then-is_some : goal.shape_of-verdicts-then-is_some
shape_of-verdicts-then-is_some c =
    c.judge_transaction-s.auto.verdicts ∙ c.loop-places.invariant.long_v

pub shape_of-findings-then-is_some : goal.shape_of-findings-then-is_some
shape_of-findings-then-is_some c =
    c.judge_transaction-s.auto.findings ∙ c.loop-places.invariant.long_g

pub returns-then-is_some : goal.returns-then-is_some
returns-then-is_some c = let told = let u = c.loop-places.invariant in
    in-doubt u c.judge_transaction-s.auto.verdicts c.judge_transaction-s.auto.findings
    c.judge_transaction-s.ensures.by_index c.judge_transaction-s.ensures.at_in_bounds (sym c.is_some.ensures ∙ c.if-is_some.true) in record { by_index = told.0; result_bound = told.1 }

pub loop-places-smaller-in-Head : goal.loop-places-smaller-in-Head
loop-places-smaller-in-Head c = c.judge_transaction-s.ensures.at_in_bounds

pub loop-places-preserved-in-Head : goal.loop-places-preserved-in-Head
loop-places-preserved-in-Head c =
    let u = c.loop-places.invariant in
    past_one u c.judge_transaction-s.auto.verdicts c.judge_transaction-s.auto.findings
    c.judge_transaction-s.ensures.by_index c.judge_transaction-s.ensures.at_in_bounds (doubtless c.judge_transaction-s.result.doubt (sym c.is_some.ensures ∙ c.if-is_some.false))

pub past-w-requires : goal.past-w-requires
past-w-requires c =
    let u = c.loop-places.invariant in
    (omega (arith, ends u c.row_at-row.ensures, u.lent.short, c.size.ensures), numbered u)

pub loop-places-smaller : goal.loop-places-smaller
loop-places-smaller c =
    let u = c.loop-places.invariant in
    rw c.past-w.ensures
    (fewer-after u c.row_at-row.ensures (search rules) (search rules) c.size.result c.size.ensures)

pub loop-places-preserved : goal.loop-places-preserved
loop-places-preserved c =
    let u = c.loop-places.invariant in
    rw c.past-w.ensures
    (past-control u c.row_at-row.ensures (search rules) (search rules) c.size.result c.size.ensures)
