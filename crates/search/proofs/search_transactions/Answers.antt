-- `search::search_transactions` meets its contract: each turn searches one transaction more, and none before it was grave. Assumes nothing.
use borrow.Author.Rules.{rules}
use native.Mathlib.Omega.{arith}
use mathlib.Core.Path.{◌≡◌, refl, ap}
use mathlib.Core.Bool.{false}
use lib.ListN.{length}
use Rattle.rules.specs.Tables.{Tables}
use Rattle.rules.specs.Records.{any}
use Rattle.rules.specs.Works.{transaction_findings}
use Rattle.rules.specs.First.{is_grave}
use Rattle.tables.specs.Index.{Indexed}
use Rattle.transactions.specs.Walk.{rest_at, front_of}
use Rattle.files.proofs.Transactions.{begins, xs, position, done, header-here, split-here, one_more, fewer-left, past_all, all-gone}
use Rattle.search.proofs.Laws.{grave-here, one_on, none_here}
use Rattle.search.proofs.search_transactions.Goals as goal

-- ----
pub loop-p-init : goal.loop-p-init
loop-p-init c =
    (begins (record { here = c.requires.here.0; left = refl }) (omega arith, λ tables e. refl), c.requires.here.2)

pub search_transaction-requires : goal.search_transaction-requires
search_transaction-requires c =
    let inv = c.loop-p.invariant.0 in
    let here = position inv in
    record { here = (here.here, header-here inv c.in-Head.is, rw here.left c.requires.here.1); prepared = c.requires.prepared }

pub returns-in_default-search_transaction : goal.returns-in_default-search_transaction
returns-in_default-search_transaction c =
    let args = c.args in
    let inv = c.loop-p.invariant.0 in
    let (counted, none_yet) = done inv in record {
      past_clean_group = tt;
      result_value = λ tables e. grave-here (transaction_findings tables args.lent.now.t args.named.now) args.number (xs inv) counted (none_yet tables e) _ _
          (split-here inv c.in-Head.is)
          (c.in_default-search_transaction.ensures.result_value tables e);
    }

pub overflow_add-k : goal.overflow_add-k
overflow_add-k c =
    omega (arith, c.loop-p.invariant.1, (position c.loop-p.invariant.0).left, c.requires.here.1)

pub loop-p-smaller : goal.loop-p-smaller
loop-p-smaller c =
    let clean = c.in-Some.q in
    let past = c.in-Some.ensures.past_clean_transaction in
    let fewer = fewer-left c.loop-p.invariant.0 clean c.in-Head.is past in
    fewer

pub loop-p-preserved : goal.loop-p-preserved
loop-p-preserved c =
    let clean = c.in-Some.q in
    let past = c.in-Some.ensures.past_clean_transaction in
    let fewer = fewer-left c.loop-p.invariant.0 clean c.in-Head.is past in
    let args = c.args in
    let inv = c.loop-p.invariant.0 in
    let (counted, none_yet) = done inv in
    let not-grave : (tables : Tables) → Indexed tables args.lent.now.slots.now
    → false ≡ any is_grave (transaction_findings tables args.lent.now.t args.named.now (front_of (rest_at args.lent.now.file.now c.loop-p.p.at))) =
    λ tables e. c.in-Some.ensures.result_value tables e in
    let some = c.requires.prepared in
    let on : (tables : Tables) → (e : Indexed tables args.lent.now.slots.now) → _ =
    λ tables e. one_on (transaction_findings tables args.lent.now.t args.named.now) args.number (xs inv) counted (none_yet tables e) _ (not-grave tables e) in (
      one_more inv clean c.in-Head.is past ((on some.0 some.1).0, λ tables e. (on tables e).1),
      omega (arith, fewer, c.loop-p.invariant.1, (position inv).left, past.position.left, ap length past.position.here.left),
    )

pub returns : goal.returns
returns c =
    let args = c.args in
    let inv = c.loop-p.invariant.0 in
    let (counted, none_yet) = done inv in
    let some = c.requires.prepared in
    let all : (tables : Tables) → (e : Indexed tables args.lent.now.slots.now) → _ =
    λ tables e. none_here (transaction_findings tables args.lent.now.t args.named.now) args.number (xs inv) counted (none_yet tables e)
    (all-gone inv (search rules)) in record { past_clean_group = (past_all inv (search rules), (all some.0 some.1).0, c.loop-p.invariant.1); result_value = λ tables e. (all tables e).1 }
