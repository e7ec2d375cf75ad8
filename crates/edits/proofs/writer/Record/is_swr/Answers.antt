-- `edits::writer::Record::is_swr` meets its contract.
-- Assumes nothing.
use native.Mathlib.Omega.{arith}
use Rattle.edits.proofs.Types.{by_first}
use Rattle.edits.proofs.writer.Record.is_swr.Goals as goal

pub returns : goal.returns
returns c =
    let told = by_first 83 79 87 82 (λ e. omega arith) c.self.inside.bytes.now (omega arith) c.self.invariant.1 in
    rw (← c.self.view_is) (record { swr = told.0; owr = told.1 })
