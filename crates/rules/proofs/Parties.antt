-- The claims of a transaction by party: of which party a claim more is, and what it does to that party's share. Assumes nothing.
use Prim.Native.Nat.{ℕ, zero, suc, ◌≤◌}
use native.Mathlib.Omega.{arith}
use mathlib.Core.Path.{◌≡◌, refl, sym, ap, ◌∙◌}
use mathlib.Core.Logic.{◌≢◌}
use mathlib.Core.Bool.{Bool, true, false, not, false≢true}
use mathlib.Core.List.{List, [], ◌∷◌, ◌++◌}
use lib.ListN.{get_or}
use Rattle.format.specs.Bytes.{Bytes}
use Rattle.format.specs.Tree.{span}
use Rattle.format.proofs.Tests.{by_cases}
use Rattle.rules.specs.Records.{only, any, latest}
use Rattle.rules.specs.Totals.{Right}
use Rattle.rules.specs.Territories.{Territory}
use Rattle.rules.specs.Collection.{is_party, is_claim, excludes, parties, given, is48, speaks_of, share_in}
use Rattle.rules.proofs.Counts.{only-append}
use Rattle.rules.proofs.Found.{neither}

-- ---- of which party a record is that begins none

-- lists that differ in one place: a later one, or the first
later : {A : Type 0} (d x y : A) (xs ys : List A) (k : ℕ) → x ≡ y → ((j : ℕ) → j ≢ k → get_or xs j d ≡ get_or ys j d)
    → (j : ℕ) → j ≢ suc k → get_or (x ∷ xs) j d ≡ get_or (y ∷ ys) j d
later d x y xs ys k e h zero n = e
later d x y xs ys k e h (suc j) n = h j (λ q. n (ap suc q))

front : {A : Type 0} (d x y : A) (xs ys : List A) → xs ≡ ys → (j : ℕ) → j ≢ 0 → get_or (x ∷ xs) j d ≡ get_or (y ∷ ys) j d
front d x y xs ys e zero n = absurd (n refl)
front d x y xs ys e (suc j) n = ap (λ l. get_or l j d) e

module _ (es : List Bytes) (r : Bytes) (begins : is_party r ≡ false) where
  abbrev inside : Bytes → Bool
  inside s = not (is_party s)

  -- not of the one whose records end before it
  ended : (ds : List Bytes) → any is_party ds ≡ true → span inside (ds ++ r ∷ es) ≡ span inside (ds ++ es)
  ended [] a = absurd (false≢true a)
  ended (d ∷ ds) a = by_cases (is_party d) (λ t. rw t refl) (λ t. rw t (ap (λ l. d ∷ l) (ended ds (rw t at a))))

  -- nor of one that begins after it
  begun : (ds : List Bytes) → any is_party ds ≡ false → parties (ds ++ r ∷ es) ≡ parties (ds ++ es)
  begun [] a = rw begins refl
  begun (d ∷ ds) a = let (this, those) = neither (is_party d) (any is_party ds) a in rw this (begun ds those)

  pub one_party : (ds : List Bytes) → (k : ℕ) × ((j : ℕ) → j ≢ k → get_or (parties (ds ++ r ∷ es)) j [] ≡ get_or (parties (ds ++ es)) j [])
  one_party [] = (0, λ j n. rw begins refl)
  one_party (d ∷ ds) =
      by_cases (is_party d)
      (λ t.
      let claims : List Bytes → List Bytes = λ rest. only is_claim (span inside rest) in
      by_cases (any is_party ds)
      (λ a.
      let (k, h) = one_party ds in (
        suc k,
        rw t (later [] (claims (ds ++ r ∷ es)) (claims (ds ++ es)) (parties (ds ++ r ∷ es)) (parties (ds ++ es)) k (ap (only is_claim) (ended ds a)) h),
      ))
      (λ a. (0, rw t (front [] (claims (ds ++ r ∷ es)) (claims (ds ++ es)) (parties (ds ++ r ∷ es)) (parties (ds ++ es)) (begun ds a)))))
      (λ t. rw t (one_party ds))

-- ---- what it does to a share

latest-append : (us : List Bytes) (b : Bytes) (bs : List Bytes) → latest (us ++ b ∷ bs) ≡ latest (b ∷ bs)
latest-append [] b bs = refl
latest-append (a ∷ []) b bs = refl
latest-append (a ∷ c ∷ us) b bs = latest-append (c ∷ us) b bs

module _ (xs : List Territory) (right : Right) (ns cs : List Bytes) (r : Bytes) (more : List Bytes) where
  abbrev heard : List Bytes → List Bytes
  heard = only (speaks_of xs ns)

  -- none where it speaks of another territory
  silent : speaks_of xs ns r ≡ false → share_in xs right ns (cs ++ r ∷ more) ≡ share_in xs right ns (cs ++ more)
  unfolding share_in
  silent e =
      ap (λ l. given right (latest l))
      (only-append (speaks_of xs ns) cs (r ∷ more) ∙ rw e refl ∙ sym (only-append (speaks_of xs ns) cs more))

  -- or has 48
  pub ignored : is48 xs r ≡ true → share_in xs right ns (cs ++ r ∷ more) ≡ share_in xs right ns (cs ++ more)
  ignored e = silent (rw e refl)

  last-excludes : (us bs : List Bytes) → excludes r ≡ true → given right (latest (us ++ r ∷ bs)) ≤ given right (latest (us ++ bs))
  last-excludes us [] e = rw (latest-append us r [], e) (omega arith)
  last-excludes us (b ∷ bs) e = rw (latest-append us r (b ∷ bs), latest-append us b bs) (omega arith)

  -- and an exclude gives nothing
  pub excluded : excludes r ≡ true → share_in xs right ns (cs ++ r ∷ more) ≤ share_in xs right ns (cs ++ more)
  unfolding share_in
  excluded e =
      by_cases (speaks_of xs ns r)
      (λ t. rw (only-append (speaks_of xs ns) cs (r ∷ more), only-append (speaks_of xs ns) cs more, t) (last-excludes (heard cs) (heard more) e))
      (λ t. rw (silent t) (omega arith))
