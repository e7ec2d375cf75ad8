use mathlib.Core.Path.{◌≡◌}
use lib.ListN.{drop}
use Rattle.rules.specs.Territories.{territories_in, groups_earlier}
use Rattle.territories.proofs.groups_earlier.Given as goal

abbrev pub invariant-loop-k : goal.invariant-loop-k
invariant-loop-k l = groups_earlier l.k (drop l.k (territories_in l.table)) ≡ groups_earlier 0 (territories_in l.table)
