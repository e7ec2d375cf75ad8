-- `probe::probe_number` meets its contract: the answer in one number, and the buffer as numbering leaves it. Assumes nothing.
use Rattle.answers.proofs.Exact.{exact-so}
use Rattle.numbering.proofs.Claims.{near}
use Rattle.probe.proofs.probe_number.Goals as goal

pub returns : goal.returns
returns c = record { value = exact-so c.packed.ensures c.number.ensures.result_value (near _ _); out_after = c.number.ensures.out_after }
