-- `transactions::tell` meets its contract. Assumes nothing.
use mathlib.Core.Path.{◌≡◌, refl, sym, ◌∙◌}
use mathlib.Core.Bool.{Bool, true, false}
use mathlib.Core.Logic.{◌⊎◌, inl, inr}
use mathlib.Core.List.{List}
use Prim.Native.Nat.{ℕ}
use Rattle.edits.specs.declared.Found.{Found}
use Rattle.figures.proofs.Records.{none_more}
use Rattle.transactions.specs.declared.Purpose.{Purpose}
use Rattle.transactions.specs.declared.Purpose.TheVariants.{Write, Search}
use Rattle.transactions.specs.Purposes.{is_count, Told}
use Rattle.transactions.proofs.tell.Goals as goal

-- what has no finding counts for nothing
nothing : (b : Bool) (found : Found) (fs ls : List ℕ) → found.level ≡ 0 → Told b found fs ls fs ls
nothing true found fs ls e = λ sets vs s set worst short counts. rw e (none_more counts s short (sym worst ∙ e))
nothing false found fs ls e = (refl, refl)

pub returns-then-found-eq0 : goal.returns-then-found-eq0
returns-then-found-eq0 c =
    let none = c.if-found-eq0.true in
    let counters = c.args.counters.now in
    record { value = rw none; told = nothing (is_count c.args.purpose) c.args.found counters.findings counters.levels none }

pub count-requires : goal.count-requires
count-requires c = rw c.in-Count.is at c.requires

pub returns-in-Count : goal.returns-in-Count
returns-in-Count c = record { value = refl; told = rw c.in-Count.is c.count.ensures }

-- what is not counted stays
same : (p : Purpose) (found : Found) (fs ls : List ℕ) → (p ≡ Write) ⊎ (p ≡ Search) → Told (is_count p) found fs ls fs ls
same p found fs ls (inl e) = rw e (refl, refl)
same p found fs ls (inr e) = rw e (refl, refl)

pub returns-in-Write : goal.returns-in-Write
returns-in-Write c =
    let counters = c.args.counters.now in
    record { value = refl; told = same c.args.purpose c.args.found counters.findings counters.levels c.in-Write.is }
