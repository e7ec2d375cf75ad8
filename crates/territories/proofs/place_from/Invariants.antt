use Prim.Native.Nat.{◌+◌}
use mathlib.Core.Path.{◌≡◌}
use lib.ListN.{drop}
use Rattle.rules.specs.Territories.{territories_in, codes_of}
use Rattle.territories.specs.Positions.{place_of}
use Rattle.territories.proofs.place_from.Given as goal

abbrev pub invariant-loop-k : goal.invariant-loop-k
invariant-loop-k l = let codes = codes_of (territories_in l.table) in l.k + place_of l.code (drop l.k codes) ≡ l.from + place_of l.code (drop l.from codes)
