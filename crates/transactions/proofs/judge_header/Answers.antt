-- `transactions::judge_header` meets its contract. Assumes nothing.
use native.Mathlib.Omega.{arith}
use mathlib.Core.Path.{refl}
use mathlib.Core.List.{[]}
use Rattle.transactions.proofs.Sizes.{transaction-header, ends, lent}
use Rattle.transactions.proofs.Fronts.{header-here}
use Rattle.transactions.proofs.judge_header.Goals as goal

pub slice_bounds-header-end : goal.slice_bounds-header-end
slice_bounds-header-end c =
    let pre = c.requires.here in
    omega (arith, ends transaction-header pre.0 refl pre.1)

pub judge-own-requires : goal.judge-own-requires
judge-own-requires c =
    let pre = c.requires.here in
    rw (lent transaction-header pre.0 refl pre.1 _ refl) (header-here pre.0 refl pre.1)

pub judge-requires : goal.judge-requires
judge-requires c =
    let pre = c.requires.here in
    record { header_record = rw (lent transaction-header pre.0 refl pre.1 _ refl) (header-here pre.0 refl pre.1); below = c.requires.below }

pub returns : goal.returns
returns c tables ds indexed known linked =
    let pre = c.requires.here in
    rw (lent transaction-header pre.0 refl pre.1 _ refl)
    at (c.judge.ensures tables ds known linked (c.judge-own.ensures tables [] indexed))
