use Prim.Native.Nat.{◌≤◌}
use mathlib.Core.Path.{◌≡◌}
use mathlib.Core.Bool.{false}
use lib.ListN.{length}
use Rattle.rules.specs.Tables.{Tables}
use Rattle.rules.specs.Records.{any}
use Rattle.rules.specs.Verdicts.{joined}
use Rattle.rules.specs.First.{is_grave}
use Rattle.tables.specs.Index.{Indexed}
use Rattle.transactions.specs.Walk.{rest_at}
use Rattle.files.proofs.Groups.{Inv}
use Rattle.search.specs.Levels.{sets_of_group}
use Rattle.search.proofs.search.Given as goal

abbrev pub invariant-groups : goal.invariant-groups
invariant-groups l =
    Inv l.lent.file.now (length (rest_at l.lent.file.now 0)) 169
    (λ gs. (tables : Tables) → Indexed tables l.lent.slots.now
    → (l.k ≡ length (joined (sets_of_group tables l.lent.t) gs)) × (any (any is_grave) (joined (sets_of_group tables l.lent.t) gs) ≡ false)) l.n
    × (l.k ≤ l.n.index)

abbrev pub decreases-groups : goal.decreases-groups
decreases-groups l = length (rest_at l.lent.file.now l.n.at)
