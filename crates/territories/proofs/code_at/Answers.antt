-- `territories::code_at` meets its contract.
use Prim.Native.Nat.{◌+◌, ◌-◌, ◌*◌}
use mathlib.Core.Path.{◌≡◌, sym}
use native.Mathlib.Omega.{arith}
use Rattle.territories.proofs.Entries.{code_is}
use Rattle.territories.proofs.code_at.Goals as goal

pub returns-clause-result_value : goal.returns-clause-result_value
returns-clause-result_value c =
    let g = c.args in
    let four : 6 * g.k + 4 - 6 * g.k ≡ 4 = omega arith in
    rw four (sym (code_is g.table.now g.k (omega arith)))
