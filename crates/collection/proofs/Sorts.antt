-- What a detail is by its row's sort: a claim, a party, or neither. Assumes nothing.
use Prim.Native.Nat.{ℕ}
use mathlib.Core.Path.{◌≡◌, sym, ◌∙◌}
use mathlib.Core.Bool.{Bool, true, false, cond, ◌||◌}
use lib.Dec.{eqb}
use lib.ListN.{length, take}
use borrow.Author.Tests.{eqb-true}
use Rattle.format.specs.Bytes.{Bytes}
use Rattle.format.proofs.Tests.{by_cases}
use Rattle.rules.specs.Collection.{is_party, is_claim}
use Rattle.kinds.specs.declared.Row.{Row}
use Rattle.kinds.specs.declared.Sort.TheVariants.{PublishersClaim}
use Rattle.kinds.specs.Rows.{row_for, same_sort, of_party, of_claim}
use Rattle.kinds.proofs.Laws.{not-party, not-claim}
use Rattle.edits.proofs.Sorts.{sort-publisher, sort-writer, sort-publishers-claim, sort-writers-claim, publishers-claim-long, writers-claim-long}
use Rattle.parties.specs.Records.{ClaimRecord}

module _ (row : Row) (r : Bytes) (its : row ≡ row_for (take 3 r)) where
  party-told : of_party row.sort ≡ is_party r
  party-told = rw (sort-publisher row r its, sort-writer row r its)

  claim-told : of_claim row.sort ≡ is_claim r
  claim-told = rw (sort-publishers-claim row r its, sort-writers-claim row r its)

  pub claim-here : length r ≡ row.length → of_claim row.sort ≡ true → ClaimRecord (same_sort row.sort PublishersClaim) r
  claim-here long e = (sym (sort-publishers-claim row r its), sym claim-told ∙ e, sized)
    where
      sized : length r ≡ cond (same_sort row.sort PublishersClaim) 58 52
      sized =
          by_cases (same_sort row.sort PublishersClaim)
          (λ t. rw t (publishers-claim-long row r its long (sym (sort-publishers-claim row r its) ∙ t)))
          (λ t. rw t (writers-claim-long row r its long (sym (sort-writers-claim row r its) ∙ rw t at e)))

  pub claim-no-party : of_claim row.sort ≡ true → is_party r ≡ false
  claim-no-party e = sym party-told ∙ not-party row.sort e

  pub party-here : of_party row.sort ≡ true → (is_party r ≡ true) × (is_claim r ≡ false)
  party-here e = (sym party-told ∙ e, sym claim-told ∙ not-claim row.sort e)

  pub neither-here : of_claim row.sort ≡ false → of_party row.sort ≡ false → (is_party r ≡ false) × (is_claim r ≡ false)
  neither-here c p = (sym party-told ∙ p, sym claim-told ∙ c)
