-- `territories::group` meets its contract.
use Prim.Native.Nat.{◌+◌, ◌*◌}
use mathlib.Core.Path.{◌≡◌, sym}
use native.Mathlib.Omega.{arith}
use lib.ListN.{get_or}
use Rattle.territories.proofs.Entries.{group-is}
use Rattle.territories.proofs.group.Goals as goal

pub returns-clause-value : goal.returns-clause-value
returns-clause-value c =
    let g = c.args in
    let low : c.from.result ≡ get_or g.table.now (6 * g.k + 4) 0 = c.from.ensures in
    let high : c.from-2.result ≡ get_or g.table.now (6 * g.k + 4 + 1) 0 = c.from-2.ensures in
    let next : 6 * g.k + 4 + 1 ≡ 6 * g.k + 5 = omega arith in
    rw (low, high, next) (sym (group-is g.table.now g.k (omega arith)))
