-- `territories::count` meets its contract.
use mathlib.Core.Path.{sym}
use Rattle.rules.proofs.Names.{length-territories}
use Rattle.territories.proofs.count.Goals as goal

pub returns : goal.returns
returns c = sym (length-territories _)
