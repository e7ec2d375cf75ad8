-- Small change among the writers never makes a work right (`StillRejected` in specs/Claims). Assumes nothing.
use Prim.Native.Nat.{◌+◌, ◌-◌}
use native.Mathlib.Omega.{arith}
use mathlib.Core.Bool.{or-true}
use lib.Dec.{leb}
use borrow.Author.Tests.{leb-true, lt-leb, ne_eqb}
use Rattle.format.proofs.Tests.{by_cases}
use Rattle.rules.specs.Values.{full_share, half_share}
use Rattle.rules.specs.Totals.{PR, publishers_total, writers_total, is1, is3}
use Rattle.rules.specs.Claims.{StillRejected}

-- where the publishers keep to half and the tolerance, all together have something, and too little
still-rejected : StillRejected
unfolding is1 is3
still-rejected t ds few some small =
    let p = publishers_total PR ds in
    let w = writers_total PR ds in
    by_cases (leb p (half_share + t))
    (λ e. rw (ne_eqb (p + w) 0 (λ q. omega arith), lt-leb (full_share - t) (p + w) (omega (arith, leb-true p (half_share + t) e))) (or-true (is1 t ds)))
    (λ e. rw e)
