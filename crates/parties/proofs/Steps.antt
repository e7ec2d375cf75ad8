-- The walk over a transaction's details, one record on. Assumes nothing.
use Prim.Native.Nat.{ℕ, ◌+◌, ◌≤◌, ◌<◌}
use native.Mathlib.Omega.{arith}
use mathlib.Core.Path.{◌≡◌, refl, sym, ap, ◌∙◌, subst}
use mathlib.Core.Bool.{true, false, cond, ◌||◌}
use mathlib.Core.List.{List, [], ◌∷◌}
use lib.Dec.{eqb}
use lib.ListN.{length, take, drop}
use borrow.Author.Tests.{eqb-true}
use Rattle.format.specs.Bytes.{Bytes}
use Rattle.format.specs.Table.{head}
use Rattle.format.specs.Cwr22.{cwr22}
use Rattle.format.specs.Structure.{first_record}
use Rattle.format.specs.Tree.{span, is_detail}
use Rattle.format.proofs.Tests.{by_cases}
use Rattle.rules.specs.Territories.{territories_in}
use Rattle.rules.specs.Collection.{is_party, is_claim}
use Rattle.kinds.specs.declared.Row.{Row}
use Rattle.kinds.specs.declared.Class.TheVariants.{Detail}
use Rattle.kinds.specs.declared.Sort.TheVariants.{PublishersClaim}
use Rattle.kinds.specs.Rows.{row_for, same_sort, of_party, of_claim}
use Rattle.kinds.proofs.Laws.{not-party}
use Rattle.structure.specs.Cursor.{Here}
use Rattle.structure.proofs.Cursor.{three-left}
use Rattle.edits.proofs.Sorts.{sort-publisher, sort-writer, sort-publishers-claim, sort-writers-claim, publishers-claim-long, writers-claim-long}
use Rattle.transactions.specs.Walk.{rest_at, tail_of}
use Rattle.transactions.proofs.Levels.{first-left, first-here}
use Rattle.transactions.proofs.Standing.{front, first-detail, next_here, no-detail}
use Rattle.claims.specs.declared.Claim.{Claim}
use Rattle.claims.specs.Entries.{entry_of, entries_from}
use Rattle.parties.specs.declared.Next.{Next}
use Rattle.parties.specs.Records.{ClaimRecord}
use Rattle.parties.specs.Ahead.{entries_at, Within, Found}

-- from where as much is left, the next claim is the same
pub found-from : {f table : Bytes} {at party here parties : ℕ} {s : Next} → entries_at f table at party ≡ entries_at f table here parties
    → Found f table here parties s → Found f table at party s
found-from e a = record { within = a.within; left = e ∙ a.left }

module _ {f table : Bytes} {at party : ℕ} (w : Within f table at party) where
  abbrev r : Bytes
  r = first_record (rest_at f at)

  pub three : at + 3 ≤ length f
  three = three-left (first-here w.here refl)

  module _ {kind : Row} (its : kind ≡ row_for (take 3 (drop at f))) where
    own : kind ≡ row_for (take 3 r)
    own = (front w.here its).own

    -- ---- what the row's sort tells

    is-claim : of_claim kind.sort ≡ is_claim r
    is-claim = rw (sort-publishers-claim kind r own, sort-writers-claim kind r own)

    is-party : of_party kind.sort ≡ is_party r
    is-party = rw (sort-publisher kind r own, sort-writer kind r own)

    pub claim-record : of_claim kind.sort ≡ true → ClaimRecord (same_sort kind.sort PublishersClaim) r
    claim-record e =
        let publishers = sort-publishers-claim kind r own in
        let long = (front w.here its).long in (
          sym publishers,
          sym is-claim ∙ e,
          by_cases (same_sort kind.sort PublishersClaim)
              (λ y. rw y (publishers-claim-long kind r own long (sym publishers ∙ y)))
              (λ n. rw n (writers-claim-long kind r own long (sym (sort-writers-claim kind r own) ∙ (rw n at e)))),
        )

    -- ---- no detail

    pub ended : (kind.class ≡ Detail → ⊥) → entries_at f table at party ≡ []
    unfolding entries_at
    ended n =
        ap (λ (rs : List Bytes). entries_from (territories_in table) party (span (is_detail cwr22) rs)) (first-left w.here refl)
        ∙ rw (no-detail w.here its n)

    -- ---- a detail, and the place after it

    module _ (p : kind.class ≡ Detail) (next : ℕ) (is-next : next ≡ at + kind.length + 2) where
      here-next : Here f next head (tail_of (rest_at f at))
      here-next = rw is-next (next_here w.here its p)

      left-next : rest_at f next ≡ tail_of (rest_at f at)
      left-next = here-next.left

      details : span (is_detail cwr22) (rest_at f at) ≡ r ∷ span (is_detail cwr22) (rest_at f next)
      details = first-detail w.here its p ∙ ap (λ (rs : List Bytes). r ∷ span (is_detail cwr22) rs) (sym left-next)

      pub fewer : length (rest_at f next) < length (rest_at f at)
      fewer = omega (arith, ap length left-next, ap length (first-left w.here refl))

      pub within-next : (n : ℕ) → n ≤ party + 1 → Within f table next n
      within-next n h =
          record {
            here = subst (Here f next head) (sym left-next) here-next;
            short = w.short;
            right = w.right;
            few = omega (arith, w.few, fewer);
          }

      -- a claim: its entry is the first
      module _ (e : of_claim kind.sort ≡ true) where
        entries-claim : entries_at f table at party ≡ entry_of (territories_in table) party r ∷ entries_at f table next party
        unfolding entries_at
        entries-claim =
            ap (entries_from (territories_in table) party) details
            ∙ rw (sym is-party ∙ not-party kind.sort e, sym is-claim ∙ e)

        pub found-claim : (claim : Claim) → claim ≡ entry_of (territories_in table) party r
            → Found f table at party (record { at = next; party = party; claim = claim })
        found-claim claim c = record { within = within-next party (omega arith); left = rw c entries-claim }

      abbrev rest-after : ℕ → List Claim
      rest-after n = entries_from (territories_in table) n (span (is_detail cwr22) (rest_at f next))

      -- none: the rest has all of them
      pub entries-passed : (n : ℕ) → n ≡ party + cond (of_party kind.sort) 1 0
          → of_claim kind.sort ≡ false → entries_at f table at party ≡ entries_at f table next n
      unfolding entries_at
      entries-passed n m e =
          ap (entries_from (territories_in table) party) details
          ∙ by_cases (is_party r)
          (λ y. rw (m, is-party, y) (counted (omega arith)))
          (λ z. rw (m, is-party, z, sym is-claim ∙ e) (counted (omega arith)))
        where
          counted : {k n : ℕ} → k ≡ n → rest-after k ≡ rest-after n
          counted e = ap rest-after e
