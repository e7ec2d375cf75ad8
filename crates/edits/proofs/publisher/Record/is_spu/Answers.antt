-- `edits::publisher::Record::is_spu` meets its contract.
-- Assumes nothing.
use native.Mathlib.Omega.{arith}
use Rattle.edits.proofs.Types.{by_first}
use Rattle.edits.proofs.publisher.Record.is_spu.Goals as goal

pub returns : goal.returns
returns c =
    let told = by_first 83 79 80 85 (λ e. omega arith) c.self.inside.bytes.now (omega arith) c.self.invariant.1 in
    rw (← c.self.view_is) (record { spu = told.0; opu = told.1 })
