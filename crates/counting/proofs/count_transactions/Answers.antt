-- `counting::count_transactions` meets its contract: each turn counts one transaction more. Assumes nothing.
use borrow.Author.Rules.{rules}
use Prim.Native.Nat.{suc, ◌+◌, ◌≤◌}
use native.Mathlib.Omega.{arith}
use mathlib.Core.Path.{◌≡◌, refl, ap, ◌∙◌}
use lib.ListN.{length}
use Rattle.format.specs.Structure.{most_records}
use Rattle.rules.specs.Works.{transaction_findings}
use Rattle.rules.specs.Verdicts.{transaction_verdicts}
use Rattle.rules.proofs.Each.{transaction-findings}
use Rattle.transactions.specs.Walk.{rest_at, front_of}
use Rattle.transactions.specs.Purposes.{Begun}
use Rattle.files.proofs.Transactions.{begins, xs, position, done, header-here, one_more, fewer-left, past_all, all_done}
use Rattle.counting.proofs.Parts.{begun-on, part-start, part-more}
use Rattle.counting.proofs.Shares.{within_more, up_more, missing-none, missing-one, missing-then}
use Rattle.counting.proofs.count_transactions.Goals as goal

-- ---- what is counted so far
pub loop-p-init : goal.loop-p-init
loop-p-init c =
    begins (record { here = c.requires.here.0; left = refl }) (missing-none _ _, λ tables e. part-start _ _ _)

-- ---- one transaction more
pub count_transaction-one-requires : goal.count_transaction-one-requires
count_transaction-one-requires c =
    let begun : Begun c.loop-p.p.index c.loop-p.counters.findings c.loop-p.counters.levels =
    let (some, indexed) = c.requires.prepared in
    begun-on ((done c.loop-p.invariant).1 some indexed) c.requires.here.2 in
    let inv = c.loop-p.invariant in
    let here = position inv in
    record { here = (here.here, header-here inv c.in-Head.is, rw here.left c.requires.here.1, begun); prepared = c.requires.prepared }

pub with-m-requires : goal.with-m-requires
with-m-requires c =
    let few : c.loop-p.p.index ≤ most_records =
    omega (arith, (position c.loop-p.invariant).left, c.requires.here.1) in
    let ended : c.count_transaction-one.result.passed.index ≡ c.loop-p.p.index + suc (length (front_of (rest_at c.args.lent.now.file.now c.loop-p.p.at)).details) =
    let args = c.args in
    let (some, indexed) = c.requires.prepared in
    (c.count_transaction-one.ensures.counted_transaction some indexed).end
    ∙ ap (λ n. c.loop-p.p.index + n) (transaction-findings some args.lent.now.t args.named.now _) in
    let few-then : c.count_transaction-one.result.passed.index ≤ most_records =
    omega (arith, c.count_transaction-one.ensures.past_transaction.position.left, (position c.loop-p.invariant).left, c.requires.here.1) in (
      within_more few ((done c.loop-p.invariant).0.few c.requires.here.3),
      up_more _ most_records (omega (arith, ended, few-then)) c.count_transaction-one.ensures.total_value.1,
    )

pub loop-p-smaller : goal.loop-p-smaller
loop-p-smaller c =
    fewer-left c.loop-p.invariant c.count_transaction-one.result.passed c.in-Head.is c.count_transaction-one.ensures.past_transaction

pub loop-p-preserved : goal.loop-p-preserved
loop-p-preserved c =
    let ended : c.count_transaction-one.result.passed.index ≡ c.loop-p.p.index + suc (length (front_of (rest_at c.args.lent.now.file.now c.loop-p.p.at)).details) =
    let args = c.args in
    let (some, indexed) = c.requires.prepared in
    (c.count_transaction-one.ensures.counted_transaction some indexed).end
    ∙ ap (λ n. c.loop-p.p.index + n) (transaction-findings some args.lent.now.t args.named.now _) in
    let with = c.with-m in
    let inv = c.loop-p.invariant in
    let args = c.args in
    let counted = c.count_transaction-one.ensures in
    let x = front_of (rest_at args.lent.now.file.now c.loop-p.p.at) in
    one_more inv c.count_transaction-one.result.passed c.in-Head.is counted.past_transaction (
      missing-then (done inv).0 (missing-one x ended counted.total_value.0 counted.total_value.1 with.ensures.value with.ensures.within),
      λ tables e. part-more (transaction_verdicts tables args.lent.now.t args.named.now) (transaction_findings tables args.lent.now.t args.named.now) (xs inv) x
          ((done inv).1 tables e) (counted.counted_transaction tables e),
    )

pub returns : goal.returns
returns c =
    let inv = c.loop-p.invariant in
    record { past_transactions = past_all inv (search rules); missing_on = (all_done inv (search rules)).0; counted_transactions = (all_done inv (search rules)).1 }
