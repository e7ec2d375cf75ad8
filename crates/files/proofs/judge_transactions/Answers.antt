-- `files::judge_transactions` meets its contract. Assumes nothing.
use borrow.Author.Rules.{rules}
use Prim.Native.Nat.{◌+◌}
use native.Mathlib.Omega.{arith}
use mathlib.Core.Path.{refl}
use lib.ListN.{length}
use Rattle.rules.specs.Works.{transaction_findings}
use Rattle.rules.specs.Verdicts.{transaction_verdicts}
use Rattle.buffers.proofs.Entries.{kept-v, kept-f}
use Rattle.transactions.specs.Walk.{rest_at, Room}
use Rattle.transactions.proofs.Entries.{filled_none, room-kept}
use Rattle.files.proofs.Entries.{filled-part}
use Rattle.files.proofs.Transactions.{begins, xs, position, done, header-here, one_more, fewer-left, past_all, all_done}
use Rattle.files.proofs.judge_transactions.Goals as goal

pub loop-p-init : goal.loop-p-init
loop-p-init c =
    begins (record { here = c.requires.here.0; left = refl }) (λ tables e. filled_none c.requires.here.1 (omega arith))

pub judge_transaction-q-requires : goal.judge_transaction-q-requires
judge_transaction-q-requires c =
    let room : Room (c.args.first + length (rest_at c.args.lent.now.file.now c.args.start)) (length c.loop-p.verdicts) (length c.loop-p.findings) =
    let some = c.requires.prepared in
    room-kept (done c.loop-p.invariant some.0 some.1) c.requires.here.1 in
    let inv = c.loop-p.invariant in
    let here = position inv in
    record { here = (here.here, header-here inv c.in-Head.is, rw here.left room); prepared = c.requires.prepared }

pub loop-p-smaller : goal.loop-p-smaller
loop-p-smaller c =
    let is-header = c.in-Head.is in
    fewer-left c.loop-p.invariant c.judge_transaction-q.result is-header c.judge_transaction-q.ensures.past_transaction

pub loop-p-preserved : goal.loop-p-preserved
loop-p-preserved c =
    let is-header = c.in-Head.is in
    let inv = c.loop-p.invariant in
    let args = c.args in
    one_more inv c.judge_transaction-q.result is-header c.judge_transaction-q.ensures.past_transaction
    (λ tables e. filled-part (transaction_verdicts tables args.lent.now.t args.named.now) (transaction_findings tables args.lent.now.t args.named.now)
    (xs inv) _ (done inv tables e) (c.judge_transaction-q.ensures.filled_transaction tables e))

pub shape_of-verdicts : goal.shape_of-verdicts
shape_of-verdicts c =
    let some = c.requires.prepared in
    kept-v (done c.loop-p.invariant some.0 some.1).written

pub shape_of-findings : goal.shape_of-findings
shape_of-findings c =
    let some = c.requires.prepared in
    kept-f (done c.loop-p.invariant some.0 some.1).written

pub returns : goal.returns
returns c =
    let inv = c.loop-p.invariant in
    record { past_transactions = past_all inv (search rules); filled_transactions = all_done inv (search rules) }
