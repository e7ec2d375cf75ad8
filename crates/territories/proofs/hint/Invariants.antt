use mathlib.Core.Path.{◌≡◌}
use lib.ListN.{length}
use Rattle.rules.specs.Territories.{territories_in, codes_of}
use Rattle.territories.specs.Positions.{hint_count}
use Rattle.territories.proofs.Places.{HintedTo}
use Rattle.territories.proofs.hint.Given as goal

abbrev pub invariant-loop-k : goal.invariant-loop-k
invariant-loop-k l = length l.initial.hints ≡ hint_count → (length l.hints ≡ hint_count) × HintedTo l.k (codes_of (territories_in l.table)) l.hints
