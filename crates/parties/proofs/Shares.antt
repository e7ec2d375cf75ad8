-- Each party's largest shares: with one claim more, and that no territory is over where they fit. Assumes nothing.
use Prim.Native.Nat.{ℕ, suc, ◌+◌, ◌*◌, ◌^◌, ◌≤◌}
use native.Mathlib.Omega.{arith}
use native.Mathlib.Nat.{zero-add, add_assoc}
use mathlib.Core.Path.{◌≡◌, refl, sym, ap, ◌∙◌}
use mathlib.Core.Bool.{Bool, true, false, cond, not, ◌&&◌, and-false}
use mathlib.Core.Option.{none}
use mathlib.Core.List.{List, [], ◌∷◌, ◌++◌, append_assoc, append-nil}
use lib.Dec.{leb, eqb}
use lib.ListN.{length, get_or, length-append}
use borrow.Author.Tests.{le-leb, leb-true}
use Rattle.format.specs.Bytes.{Bytes}
use Rattle.format.proofs.Tests.{by_cases, both}
use Rattle.rules.specs.Values.{full_share}
use Rattle.rules.specs.Findings.{larger}
use Rattle.rules.specs.Totals.{Right, PR, MR, SR, exceeds}
use Rattle.rules.specs.Territories.{Territory, names}
use Rattle.rules.specs.Collection.{total_in, is_over, over_from, first_over, is_some, is47}
use Rattle.rules.proofs.Counts.{larger-max}
use Rattle.totals.specs.declared.Rights.{Rights}
use Rattle.totals.specs.Sums.{rights, plus, AtMost}
use Rattle.claims.specs.declared.Claim.{Claim}
use Rattle.claims.specs.Entries.{entries_from, share_of, gives, is_ignored, begins, party_with, speaks, gives_with, comes_to}
use Rattle.claims.specs.Work.{of_right}
use Rattle.claims.proofs.Totals.{comes-to-total}
use Rattle.parties.specs.declared.Largest.{Largest}
use Rattle.parties.specs.Most.{most_with, most_from, Most}

-- ---- no claims, and one more

of-rights : (f : Right → ℕ) (right : Right) → of_right (rights f) right ≡ f right
of-rights f PR = refl
of-rights f MR = refl
of-rights f SR = refl

of-plus : (a b : Rights) (right : Right) → of_right (plus a b) right ≡ of_right a right + of_right b right
of-plus a b PR = refl
of-plus a b MR = refl
of-plus a b SR = refl

cond-few : (b : Bool) (m n : ℕ) → {k : ℕ} → m ≤ k → n ≤ k → cond b m n ≤ k
cond-few true m n g h = g
cond-few false m n g h = h

pub most-none : Most [] (record { party = 0; before = rights (λ _. 0); current = rights (λ _. 0) })
most-none =
    record {
      rest = λ right more. rw (of-rights (λ _. 0) right) (zero-add _);
      small = λ right. rw (of-rights (λ _. 0) right) (omega arith);
      roomy = λ right. rw (of-rights (λ _. 0) right) (omega arith);
    }

module _ {es : List Claim} {l : Largest} (most : Most es l) where
  -- before the entry, the rest comes to what it does after it
  rest-with : (e : Claim) (right : Right) (more : List Claim)
      → of_right l.before right + most_from right l.party (of_right l.current right) (e ∷ more) ≡ most_from right 0 0 ((es ++ e ∷ []) ++ more)
  rest-with e right more = most.rest right (e ∷ more) ∙ ap (most_from right 0 0) (sym (append_assoc es (e ∷ []) more))

  longer : (e : Claim) → length (es ++ e ∷ []) ≡ length es + 1
  longer e = length-append es (e ∷ [])

  -- one that is no party's
  pub most-ignored : (e : Claim) → is_ignored e ≡ true → Most (es ++ e ∷ []) l
  most-ignored e i =
      record {
        rest = λ right more. ap (λ n. of_right l.before right + n) (sym (zero-add _)) ∙ (rw i at (rest-with e right more));
        small = most.small;
        roomy = λ right. omega (arith, most.roomy right, longer e);
      }

  -- one that counts, as the code adds it: what a party that ends with it had, and what its own party has kept
  module _ (e : Claim) (counts : is_ignored e ≡ false) (few : AtMost (2 ^ 32) (rights (λ right. share_of right e)))
      (ended kept before current : Rights)
      (is-ended : ended ≡ rights (λ right. cond (not (eqb e.party l.party)) (of_right l.current right) 0))
      (is-kept : kept ≡ rights (λ right. cond (not (not (eqb e.party l.party))) (of_right l.current right) 0))
      (is-before : before ≡ plus l.before ended)
      (is-current : current ≡ rights (λ right. larger (share_of right e) (of_right kept right))) where
    abbrev b : Bool
    b = not (eqb e.party l.party)

    abbrev m : Right → ℕ
    m right = of_right l.current right

    next-before : (right : Right) → of_right before right ≡ of_right l.before right + cond b (m right) 0
    next-before right = rw (is-before, of-plus l.before ended right, is-ended, of-rights (λ right. cond b (m right) 0) right)

    turned : (c : Bool) (n : ℕ) → cond (not c) n 0 ≡ cond c 0 n
    turned true n = refl
    turned false n = refl

    next-current : (right : Right) → of_right current right ≡ larger (share_of right e) (cond b 0 (m right))
    next-current right =
        rw (
          is-current,
          of-rights (λ right. larger (share_of right e) (of_right kept right)) right,
          is-kept,
          of-rights (λ right. cond (not b) (m right) 0) right,
          turned b (m right),
        )

    share-few : (right : Right) → share_of right e ≤ 2 ^ 32
    share-few PR = few.0
    share-few MR = few.1
    share-few SR = few.2

    pub most-on : Most (es ++ e ∷ []) (record { party = e.party; before = before; current = current })
    most-on =
        record {
          rest = λ right more. rw (next-before right, next-current right, add_assoc) (rw counts at (rest-with e right more));
          small =
              λ right.
              omega (
                arith,
                next-current right,
                share-few right,
                larger-max (share_of right e) (cond b 0 (m right)),
                cond-few b 0 (m right) (omega arith) (most.small right),
              );
          roomy = λ right. omega (arith, next-before right, most.roomy right, longer e, cond-few b (m right) 0 (most.small right) (omega arith));
        }

  -- ---- what is asked of the numbers

  pub at-most-before : {k : ℕ} → 2 ^ 32 * length es ≤ k → AtMost k l.before
  at-most-before h = (omega (arith, most.roomy PR), omega (arith, most.roomy MR), omega (arith, most.roomy SR))

  pub at-most-current : {k : ℕ} → 2 ^ 32 ≤ k → AtMost k l.current
  at-most-current h = (omega (arith, most.small PR), omega (arith, most.small MR), omega (arith, most.small SR))

  -- all of them
  added : (right : Right) → of_right l.before right + of_right l.current right ≡ most_from right 0 0 es
  added right = most.rest right [] ∙ ap (most_from right 0 0) (append-nil es)

  -- each right, as the code asks it
  pub all_fit : (total : Rights) → total ≡ plus l.before l.current → (k : ℕ)
      → (leb total.pr k && leb total.mr k && leb total.sr k) ≡ true → (right : Right) → most_from right 0 0 es ≤ k
  all_fit total sum k e right =
      let (two, sr) = both (leb total.pr k && leb total.mr k) (leb total.sr k) e in
      let (pr, mr) = both (leb total.pr k) (leb total.mr k) two in
      by_right right pr mr sr
    where
      by_right : (right : Right) → leb total.pr k ≡ true → leb total.mr k ≡ true → leb total.sr k ≡ true
          → most_from right 0 0 es ≤ k
      by_right PR pr mr sr = omega (arith, leb-true total.pr k pr, ap (λ (r : Rights). r.pr) sum, added PR)
      by_right MR pr mr sr = omega (arith, leb-true total.mr k mr, ap (λ (r : Rights). r.mr) sum, added MR)
      by_right SR pr mr sr = omega (arith, leb-true total.sr k sr, ap (λ (r : Rights). r.sr) sum, added SR)

-- ---- they come to no more in any territory

no_more : (speaks begins gone : Bool) (gives share n m : ℕ) → gives ≤ share → n ≤ m
    → cond gone n (cond speaks gives (cond begins 0 n)) ≤ cond gone m (larger share (cond begins 0 m))
no_more speaks begins true gives share n m g h = h
no_more true begins false gives share n m g h = omega (arith, larger-max share (cond begins 0 m))
no_more false true false gives share n m g h = omega arith
no_more false false false gives share n m g h = omega (arith, larger-max share m)

-- an exclude gives nothing, whatever its share
gives-few : (right : Right) (e : Claim) → gives right e ≤ share_of right e
gives-few right e = cond-few (eqb e.mark 69) 0 (share_of right e) (omega arith) (omega arith)

module _ (T : List Territory) (right : Right) (j : ℕ) where
  pub comes-to-most : (p n m : ℕ) → n ≤ m → (es : List Claim) → comes_to T right j p n es ≤ most_from right p m es
  comes-to-most p n m h [] = h
  comes-to-most p n m h (e ∷ es) =
      let with-e = no_more (speaks T j e) (begins p e) (is_ignored e) (gives right e) (share_of right e) n m (gives-few right e) h in
      let rest = comes-to-most (party_with p e) (gives_with T right j p n e) (most_with right p m e) with-e es in
      let closed : cond (begins p e) n 0 ≤ cond (begins p e) m 0 = by_cases (begins p e) (λ b. rw b h) (λ b. rw b (omega arith)) in
      omega (arith, rest, closed)

-- ---- so that none is over where they fit

module _ (T : List Territory) (t : ℕ) (ds : List Bytes) (es : List Claim) (of : es ≡ entries_from T 0 ds)
    (fit : (right : Right) → most_from right 0 0 es ≤ full_share + t) where
  none-exceeds : (j : ℕ) (right : Right) → exceeds t full_share (total_in T right (get_or (names T) j []) ds) ≡ false
  none-exceeds j right =
      let total : comes_to T right j 0 0 es ≡ total_in T right (get_or (names T) j []) ds = rw of (comes-to-total T right j ds) in
      ap not (le-leb _ (full_share + t) (omega (arith, total, comes-to-most T right j 0 0 0 (omega arith) es, fit right)))

  none_over : (j : ℕ) → is_over T t (get_or (names T) j []) ds ≡ false
  unfolding is_over
  none_over j = rw (none-exceeds j PR, none-exceeds j MR, none-exceeds j SR)

  over-from : (i : ℕ) (nss : List (List Bytes)) → ((j : ℕ) → is_over T t (get_or nss j []) ds ≡ false) → over_from T t i nss ds ≡ none
  over-from i [] all = refl
  over-from i (ns ∷ nss) all = rw (all 0, and-false) (over-from (suc i) nss (λ j. all (suc j)))

  pub fits-none : (is47 T t ds ≡ false) × (first_over T t ds ≡ none)
  unfolding is47 first_over
  fits-none = let e = over-from 0 (names T) none_over in (ap (is_some T t) e, e)
