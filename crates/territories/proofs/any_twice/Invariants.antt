use mathlib.Core.Path.{◌≡◌}
use lib.ListN.{drop}
use Rattle.rules.specs.Territories.{territories_in, codes_of, any_twice}
use Rattle.territories.proofs.any_twice.Given as goal

abbrev pub invariant-loop-k : goal.invariant-loop-k
invariant-loop-k l = any_twice (drop l.k (codes_of (territories_in l.table))) ≡ any_twice (codes_of (territories_in l.table))
