-- `counts::Counts::put` meets its contract: the numbers are those that the format expects, where it has them, and as long.
-- Assumes nothing.
use mathlib.Core.Path.{◌∙◌}
use native.Mathlib.Omega.{arith}
use Rattle.format.proofs.Slots.{expected-length}
use Rattle.counts.specs.Carried.{over}
use Rattle.counts.proofs.Counts.put.Goals as goal

pub write_into-requires : goal.write_into-requires
write_into-requires c = let r = c.numbers_for.ensures in omega (arith, r.start, r.wide)

pub returns : goal.returns
unfolding over
returns c =
    let r = c.numbers_for.ensures in
    c.write_into.ensures ∙ rw (r.start, r.right, expected-length)
