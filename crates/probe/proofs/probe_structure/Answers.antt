-- `probe::probe_structure` meets its contract: the answer in one number. Assumes nothing.
use Rattle.format.proofs.At22.{nearby-22}
use Rattle.answers.proofs.Exact.{exact-so}
use Rattle.probe.proofs.probe_structure.Goals as goal

pub returns : goal.returns
returns c = exact-so c.packed.ensures c.check.ensures (nearby-22 _).0
