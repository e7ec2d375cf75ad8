use Rattle.rules.specs.Territories.{territories_in}
use Rattle.claims.proofs.Overs.{Holding}
use Rattle.claims.proofs.hold_all.Given as goal

abbrev pub invariant-loop-j : goal.invariant-loop-j
invariant-loop-j l = Holding (territories_in l.table) l.j l.held
