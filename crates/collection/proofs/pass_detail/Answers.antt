-- `collection::pass_detail` meets its contract: the bytes that are lent are the record's.
use Prim.Native.Nat.{◌+◌, ◌-◌}
use native.Mathlib.Omega.{arith}
use mathlib.Core.Path.{◌≡◌, refl, ap}
use lib.ListN.{take, drop}
use Rattle.format.specs.Structure.{first_record}
use Rattle.transactions.specs.Walk.{rest_at}
use Rattle.transactions.proofs.Standing.{ends, lent, stands}
use Rattle.collection.proofs.pass_detail.Goals as goal

pub slice_bounds-judge_detail-end : goal.slice_bounds-judge_detail-end
slice_bounds-judge_detail-end c =
    let end : c.args.d.at + c.size.result ≡ c.args.d.at + c.args.row.length =
    ap (λ n. c.args.d.at + n) c.size.ensures in
    omega (arith, end, ends c.requires.here.1 c.requires.here.2)

pub judge_detail-after-requires : goal.judge_detail-after-requires
judge_detail-after-requires c =
    let end : c.args.d.at + c.size.result ≡ c.args.d.at + c.args.row.length =
    ap (λ n. c.args.d.at + n) c.size.ensures in
    let record-lent : take (c.args.d.at + c.size.result - c.args.d.at) (drop c.args.d.at c.args.file.now) ≡ first_record (rest_at c.args.file.now c.args.d.at) =
    lent c.requires.here.1 c.requires.here.2 _ end in
    let pre = c.requires in
    record { stands = (rw record-lent (stands pre.here.1 pre.here.2 pre.here.3), pre.room); known = pre.known }

pub overflow_add-result : goal.overflow_add-result
overflow_add-result c =
    let end : c.args.d.at + c.size.result ≡ c.args.d.at + c.args.row.length =
    ap (λ n. c.args.d.at + n) c.size.ensures in
    let pre = c.requires.here in
    omega (arith, end, ends pre.1 pre.2, pre.0)

pub overflow_add-result-2 : goal.overflow_add-result-2
overflow_add-result-2 c = omega (arith, c.requires.here.4)

pub returns : goal.returns
returns c =
    let end : c.args.d.at + c.size.result ≡ c.args.d.at + c.args.row.length =
    ap (λ n. c.args.d.at + n) c.size.ensures in
    let record-lent : take (c.args.d.at + c.size.result - c.args.d.at) (drop c.args.d.at c.args.file.now) ≡ first_record (rest_at c.args.file.now c.args.d.at) =
    lent c.requires.here.1 c.requires.here.2 _ end in
    record { at_value = (ap (λ n. n + 2) end, refl); known_2 = λ ds known. rw record-lent at (c.judge_detail-after.ensures.known_2 ds known); findings_after = rw record-lent at c.judge_detail-after.ensures.findings_after }
