use mathlib.Core.Path.{◌≡◌}
use lib.ListN.{length}
use Rattle.transactions.specs.Walk.{rest_at}
use Rattle.parties.specs.Ahead.{Within, entries_at}
use Rattle.parties.proofs.next_claim.Given as goal

abbrev pub invariant-loop-parties : goal.invariant-loop-parties
invariant-loop-parties l = Within l.file l.table l.here l.parties × (entries_at l.file l.table l.at l.party ≡ entries_at l.file l.table l.here l.parties)

abbrev pub decreases-loop-parties : goal.decreases-loop-parties
decreases-loop-parties l = length (rest_at l.file l.here)
