use Prim.Native.Nat.{◌+◌, ◌≤◌}
use mathlib.Core.Path.{◌≡◌}
use mathlib.Core.Bool.{false}
use lib.ListN.{length}
use Rattle.rules.specs.Tables.{Tables}
use Rattle.rules.specs.Records.{any}
use Rattle.rules.specs.First.{is_grave}
use Rattle.tables.specs.Index.{Indexed}
use Rattle.transactions.specs.Walk.{rest_at}
use Rattle.files.proofs.Transactions.{Inv}
use Rattle.search.specs.Levels.{sets_of}
use Rattle.search.proofs.search_transactions.Given as goal

abbrev pub invariant-loop-p : goal.invariant-loop-p
invariant-loop-p l =
    Inv l.named l.lent.file.now (l.first + length (rest_at l.lent.file.now l.start)) l.start
    (λ xs. (l.k ≡ l.number + length xs) × ((tables : Tables) → Indexed tables l.lent.slots.now → any (any is_grave) (sets_of tables l.lent.t l.named xs) ≡ false)) l.p
    × (l.k ≤ l.p.index)

abbrev pub decreases-loop-p : goal.decreases-loop-p
decreases-loop-p l = length (rest_at l.lent.file.now l.p.at)
