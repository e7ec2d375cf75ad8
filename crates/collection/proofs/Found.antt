-- The first territory that is over, as a walk keeps it: what a transaction in doubt adds to it. Assumes nothing.
use Prim.Native.Nat.{ℕ, ◌<◌}
use native.Mathlib.Omega.{arith}
use mathlib.Core.Path.{◌≡◌, refl, sym, ap, ◌∙◌}
use mathlib.Core.Bool.{Bool, true, false}
use mathlib.Core.Option.{Option as Place, none, some}
use Rattle.std.specs.Prelude.{Option, None, Some}
use Rattle.std.specs.Option.{option_or}
use Rattle.std.specs.Bool.{then_some}
use mathlib.Core.List.{List}
use lib.Dec.{ltb}
use lib.ListN.{length}
use borrow.Author.Tests.{lt-ltb, le-ltb}
use Rattle.format.specs.Bytes.{Bytes}
use Rattle.format.specs.Cwr22.{cwr22}
use Rattle.format.specs.Tree.{span, is_detail}
use Rattle.rules.specs.Territories.{Territory, territories_in}
use Rattle.rules.specs.Collection.{is47, first_over}
use Rattle.rules.specs.WithTerritories.{Over, or_later}
use Rattle.rules.proofs.Territories.{collected}
use Rattle.transactions.specs.Walk.{rest_at}
use Rattle.claims.specs.Entries.{over_in}
use Rattle.claims.proofs.Overs.{or_all, over_first}
use Rattle.parties.specs.Ahead.{entries_at}
use Rattle.collection.specs.declared.Over.{Over as CodeOver}
use Rattle.collection.specs.Walk.{or_over}

-- what is counted says whether one is over, and which
module _ (f table : Bytes) (t first place : ℕ) (counted : place ≡ over_in table t (entries_at f table first 0)) where
  abbrev T : List Territory
  T = territories_in table

  abbrev ds : List Bytes
  ds = span (is_detail cwr22) (rest_at f first)

  is_all : place ≡ or_all (length T) (first_over T t ds)
  unfolding entries_at
  is_all = counted ∙ over_first table t ds

  by_first : {P : Type 0} → (first_over T t ds ≡ none → place ≡ length T → P) → (first_over T t ds ≡ some place → place < length T → P) → P
  by_first {P} nothing found = go (first_over T t ds) refl
    where
      go : (o : Place ℕ) → first_over T t ds ≡ o → P
      go none e = nothing e (is_all ∙ ap (or_all (length T)) e)
      go (some i) e =
          let same : place ≡ i = is_all ∙ ap (or_all (length T)) e in
          found (e ∙ ap some (sym same)) (omega (arith, same, (collected.first T t ds i e).0.inside))

  pub is-over : ltb place (length T) ≡ is47 T t ds
  unfolding is47
  is-over = by_first (λ e n. rw (e, le-ltb place (length T) (omega (arith, n)))) (λ e l. rw (e, lt-ltb place (length T) l))

  -- the walk keeps the first
  pub told_with : (o : Option CodeOver) (number : ℕ) (b : Bool) → b ≡ ltb place (length T)
      → (later : Over) → or_over (option_or o (then_some b (record { transaction = number; territory = place }))) later
      ≡ or_over o (or_later number (first_over T t ds) later)
  told_with (Some o) number b is later = refl
  told_with None number b is later =
      by_first
      (λ q n. let no : b ≡ false = is ∙ le-ltb place (length T) (omega (arith, n)) in rw (no, q))
      (λ q l. let yes : b ≡ true = is ∙ lt-ltb place (length T) l in rw (yes, q))
