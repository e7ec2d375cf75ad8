-- `buffers::settle` meets its contract: the eight bytes before the next record's are this record's.
-- Assumes nothing.
use mathlib.Core.Path.{refl}
use Prim.Native.Nat.{◌+◌, ◌*◌}
use native.Mathlib.Omega.{arith}
use Rattle.buffers.proofs.Entries.{entry}
use Rattle.buffers.proofs.settle.Goals as goal

pub returns : goal.returns
returns c s e =
    let g = c.args in
    entry g.index g.verdict g.set s g.verdicts.now g.findings.now _ (8 * (g.index + 1)) refl (omega arith)
    (omega arith) c.store_eight.ensures e
