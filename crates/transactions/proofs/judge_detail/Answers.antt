-- `transactions::judge_detail` meets its contract: the bytes that are lent are the record's. Assumes nothing.
use Prim.Native.Nat.{◌+◌}
use native.Mathlib.Omega.{arith}
use mathlib.Core.Path.{refl, ap}
use Rattle.transactions.proofs.Standing.{ends, lent, stands}
use Rattle.transactions.proofs.judge_detail.Goals as goal

pub slice_bounds-judge-end : goal.slice_bounds-judge-end
slice_bounds-judge-end c =
    let pre = c.requires.here in
    omega (arith, c.size.ensures, ends pre.0 pre.1)

pub judge-s-requires : goal.judge-s-requires
judge-s-requires c =
    let pre = c.requires.here in
    let record-lent = lent pre.0 pre.1 _ (ap (λ n. c.args.w.at + n) c.size.ensures) in
    record { below = c.requires.below; stands = rw record-lent (stands pre.0 pre.1 pre.2) }

pub overflow_add-result : goal.overflow_add-result
overflow_add-result c =
    let pre = c.requires.here in
    omega (arith, c.size.ensures, ends pre.0 pre.1, c.args.lent.now.short)

pub returns : goal.returns
returns c =
    let pre = c.requires.here in
    let end = ap (λ n. c.args.w.at + n) c.size.ensures in
    let record-lent = lent pre.0 pre.1 _ end in
    record {
      at_value = (ap (λ n. n + 2) end, refl);
      turned = λ tables ds indexed known tallied.
          let (stepped, more) = rw record-lent at (c.judge-s.ensures tables ds indexed known tallied) in
          (record { judged = stepped.judged; known = stepped.known }, more);
    }
