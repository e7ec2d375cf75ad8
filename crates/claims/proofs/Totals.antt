-- What the entries of a transaction's claims come to in a territory is the total that the rules give. Assumes nothing.
use Prim.Native.Nat.{ℕ, suc, ◌+◌, ◌<◌}
use native.Mathlib.Omega.{arith}
use native.Mathlib.Nat.{zero-add}
use mathlib.Core.Path.{◌≡◌, refl, sym, ap, ◌∙◌}
use mathlib.Core.Bool.{Bool, true, false, cond, not, ◌&&◌, ◌||◌, true≢false}
use mathlib.Core.Option.{some}
use mathlib.Core.List.{List, [], ◌∷◌, ◌++◌, append_assoc, append-nil}
use lib.Dec.{eqb}
use lib.ListN.{get_or}
use borrow.Author.Tests.{eq-eqb, ne_eqb}
use Rattle.format.specs.Ascii.{ascii}
use Rattle.format.specs.Bytes.{Bytes, same_bytes, among}
use Rattle.format.specs.Fields.{number_of, are_digits}
use Rattle.format.specs.Tree.{span}
use Rattle.format.proofs.Tests.{by_cases, both, same→eq}
use Rattle.rules.specs.Records.{only, latest}
use Rattle.rules.specs.Totals.{Right, PR, MR, SR, sum_of}
use Rattle.rules.specs.Territories.{Territory, codes_of, names}
use Rattle.rules.specs.Collection.{is_party, is_claim, collected, mark, claimed, includes, excludes, parties, given, is48, speaks_of, share_in, total_in}
use Rattle.rules.proofs.Lists.{only_kept, only-left}
use Rattle.territories.specs.Positions.{place_of}
use Rattle.claims.specs.declared.Claim.{Claim}
use Rattle.claims.specs.Entries.{entry_of, entries_from, gives, speaks, comes_to}

-- ---- the last claim

latest-last : (rs : List Bytes) (r : Bytes) → latest (rs ++ r ∷ []) ≡ some r
latest-last [] r = refl
latest-last (x ∷ []) r = refl
latest-last (x ∷ y ∷ rs) r = latest-last (y ∷ rs) r

-- the code at the place of one that is among them
code-there : (c : Bytes) (cs : List Bytes) → among c cs ≡ true → get_or cs (place_of c cs) [] ≡ c
code-there c [] e = absurd (true≢false (sym e))
code-there c (x ∷ xs) e = by_cases (same_bytes x c) (λ s. rw s (same→eq x c s)) (λ s. rw s (code-there c xs (rw s at e)))

-- a mark is one byte where it is I or E
exclude-byte : (m : Bytes) → (same_bytes (ascii "I") m || same_bytes (ascii "E") m) ≡ true → eqb (get_or m 0 0) 69 ≡ same_bytes (ascii "E") m
exclude-byte m e =
    by_cases (same_bytes (ascii "E") m)
    (λ s. rw (s, sym (same→eq (ascii "E") m s)) refl)
    (λ s. rw (s, sym (same→eq (ascii "I") m (first s))) refl)
  where
    first : same_bytes (ascii "E") m ≡ false → same_bytes (ascii "I") m ≡ true
    first s = by_cases (same_bytes (ascii "I") m) (λ i. i) (λ i. absurd (true≢false (sym e ∙ rw (s, i))))

module _ (T : List Territory) where
  -- what a claim without 48 has
  pub record Right48 (r : Bytes) : Type 0 where
    pub coded : among (claimed r) (codes_of T) ≡ true
    pub marked : (includes r || excludes r) ≡ true
    pub digits : (are_digits (collected PR r) ≡ true) × (are_digits (collected MR r) ≡ true) × (are_digits (collected SR r) ≡ true)

  not-true : (a b : Bool) → (a && not b) ≡ false → a ≡ true → b ≡ true
  not-true true true e h = refl
  not-true true false e h = absurd (true≢false e)
  not-true false b e h = absurd (true≢false (sym h))

  pub right-48 : (r : Bytes) → is_claim r ≡ true → is48 T r ≡ false → Right48 r
  unfolding is48
  right-48 r c e =
      let all = not-true (is_claim r) _ e c in
      let (four, sr) = both _ _ all in
      let (three, mr) = both _ _ four in
      let (two, pr) = both _ _ three in
      let (coded, marked) = both _ _ two in
      record { coded = coded; marked = marked; digits = (pr, mr, sr) }

  -- ---- one claim, in a territory with the names at position j

  module _ (right : Right) (j : ℕ) where
    abbrev ns : List Bytes
    ns = get_or (names T) j []

    abbrev share : List Bytes → ℕ
    share = share_in T right ns

    -- a share with one claim more
    share-last : (cs : List Bytes) (r : Bytes) → share (cs ++ r ∷ []) ≡ cond (speaks_of T ns r) (given right (some r)) (share cs)
    unfolding share_in
    share-last cs r =
        by_cases (speaks_of T ns r)
        (λ e. rw (e, only_kept (speaks_of T ns) cs r e, latest-last (only (speaks_of T ns) cs) r))
        (λ e. rw (e, only-left (speaks_of T ns) cs r e))

    -- before others, one that does not speak of it changes nothing
    share-first : (r : Bytes) (cs : List Bytes) → is48 T r ≡ true → share (r ∷ cs) ≡ share cs
    unfolding share_in
    share-first r cs e = rw e

    gives-given : (party : ℕ) (r : Bytes) → Right48 r → is48 T r ≡ false → gives right (entry_of T party r) ≡ given right (some r)
    gives-given party r ok e = rw e (by_right right)
      where
        by_right : (right : Right) → gives right (record {
          party = party;
          code = place_of (claimed r) (codes_of T);
          mark = get_or (mark r) 0 0;
          pr = number_of (collected PR r);
          mr = number_of (collected MR r);
          sr = number_of (collected SR r);
        }) ≡ given right (some r)
        by_right PR = rw (exclude-byte (mark r) ok.marked)
        by_right MR = rw (exclude-byte (mark r) ok.marked)
        by_right SR = rw (exclude-byte (mark r) ok.marked)

    speaks-of : (party : ℕ) (r : Bytes) → Right48 r → is48 T r ≡ false → speaks T j (entry_of T party r) ≡ speaks_of T ns r
    speaks-of party r ok e = rw (e, code-there (claimed r) (codes_of T) ok.coded)

    -- ---- all of them

    abbrev is_other : Bytes → Bool
    is_other s = not (is_party s)

    -- the claims before the first party
    abbrev lead : List Bytes → List Bytes
    lead ds = only is_claim (span is_other ds)

    abbrev total : List Bytes → ℕ
    total ds = sum_of share (parties ds)

    abbrev rest : ℕ → ℕ → ℕ → List Bytes → ℕ
    rest q n p ds = comes_to T right j q n (entries_from T p ds)

    -- a claim that is ignored
    skipped : (q n p : ℕ) (r : Bytes) (es : List Claim) → is48 T r ≡ true → comes_to T right j q n (entry_of T p r ∷ es) ≡ comes_to T right j q n es
    skipped q n p r es e = rw e (zero-add _)

    -- one of the party whose claims cs give n so far
    module _ (k : ℕ) (r : Bytes) (es : List Claim) (ok : Right48 r) (e : is48 T r ≡ false) where
      party-is : (entry_of T (suc k) r).party ≡ suc k
      party-is = rw e

      some-party : eqb (suc k) 0 ≡ false
      some-party = ne_eqb (suc k) 0 (λ z. absurd (omega (arith, z)))

      going_on : (n : ℕ) → comes_to T right j (suc k) n (entry_of T (suc k) r ∷ es) ≡ comes_to T right j (suc k) (cond (speaks_of T ns r) (given right (some r)) n) es
      going_on n =
          let same : eqb (suc k) (suc k) ≡ true = eq-eqb (suc k) (suc k) refl in
          rw (party-is, speaks-of (suc k) r ok e, gives-given (suc k) r ok e, same, some-party) (zero-add _)

      -- or of a later one than q, whose claims give n
      begun : (q n : ℕ) → q < suc k
          → comes_to T right j q n (entry_of T (suc k) r ∷ es) ≡ n + comes_to T right j (suc k) (cond (speaks_of T ns r) (given right (some r)) 0) es
      begun q n h =
          let other : eqb (suc k) q ≡ false = ne_eqb (suc k) q (λ z. absurd (omega (arith, z, h))) in
          rw (party-is, speaks-of (suc k) r ok e, gives-given (suc k) r ok e, other, some-party)

    share-none : share [] ≡ 0
    unfolding share_in
    share-none = refl

    -- before any party
    no-party : (r : Bytes) (es : List Claim) → comes_to T right j 0 0 (entry_of T 0 r ∷ es) ≡ comes_to T right j 0 0 es
    no-party r es = by_cases (is48 T r) (λ e. rw e (zero-add _)) (λ e. rw e (zero-add _))

    -- of the details ds: the claims of party k + 1 are cs so far;
    abbrev Same : List Bytes → Type 0
    Same ds = (k : ℕ) (cs : List Bytes) → rest (suc k) (share cs) (suc k) ds ≡ share (cs ++ lead ds) + total ds

    -- or the last that counted was an earlier party's, and n is what it gives
    abbrev Next : List Bytes → Type 0
    Next ds = (k q n : ℕ) → q < suc k → rest q n (suc k) ds ≡ n + (share (lead ds) + total ds)

    module _ (r : Bytes) (rs : List Bytes) where
      same-with : Same rs → Next rs → Same (r ∷ rs)
      same-with same next k cs =
          by_cases (is_party r)
          (λ p. rw (p, append-nil cs) (next (suc k) (suc k) (share cs) (omega arith)))
          (λ o.
          by_cases (is_claim r)
          (λ c. by_cases (is48 T r)
          (λ e. rw (o, c) (skipped (suc k) (share cs) (suc k) r (entries_from T (suc k) rs) e ∙ kept (share cs) (rw e)))
          (λ e. rw (o, c) (going_on k r (entries_from T (suc k) rs) (right-48 r c e) e (share cs) ∙ kept _ refl)))
          (λ c. rw (o, c) (same k cs)))
        where
          kept : (n : ℕ) → n ≡ cond (speaks_of T ns r) (given right (some r)) (share cs) → rest (suc k) n (suc k) rs ≡ share (cs ++ r ∷ lead rs) + total rs
          kept n e =
              ap (λ (m : ℕ). rest (suc k) m (suc k) rs) (e ∙ sym (share-last cs r))
              ∙ same k (cs ++ r ∷ [])
              ∙ ap (λ (xs : List Bytes). share xs + total rs) (append_assoc cs (r ∷ []) (lead rs))

      next-with : Same rs → Next rs → Next (r ∷ rs)
      next-with same next k q n h =
          by_cases (is_party r)
          (λ p. rw (p, share-none) (next (suc k) q n (omega arith) ∙ ap (λ (m : ℕ). n + m) (sym (zero-add _))))
          (λ o.
          by_cases (is_claim r)
          (λ c.
          by_cases (is48 T r)
          (λ e. rw (o, c, share-first r (lead rs) e) (skipped q n (suc k) r (entries_from T (suc k) rs) e ∙ next k q n h))
          (λ e. rw (o, c) (begun k r (entries_from T (suc k) rs) (right-48 r c e) e q n h ∙ ap (λ (m : ℕ). n + m) (first ∙ same k (r ∷ [])))))
          (λ c. rw (o, c) (next k q n h)))
        where
          first : rest (suc k) (cond (speaks_of T ns r) (given right (some r)) 0) (suc k) rs ≡ rest (suc k) (share (r ∷ [])) (suc k) rs
          first = ap (λ (m : ℕ). rest (suc k) m (suc k) rs) (sym (share-last [] r ∙ rw share-none))

    each-party : (ds : List Bytes) → Same ds × Next ds
    each-party [] = (λ k cs. rw (append-nil cs) (omega arith), λ k q n h. omega (arith, share-none))
    each-party (r ∷ rs) = let (same, next) = each-party rs in (same-with r rs same next, next-with r rs same next)

    -- before any party
    pub comes-to-total : (ds : List Bytes) → rest 0 0 0 ds ≡ total_in T right ns ds
    unfolding total_in
    comes-to-total [] = refl
    comes-to-total (r ∷ rs) =
        by_cases (is_party r)
        (λ p. rw p ((each-party rs).1 0 0 0 (omega arith) ∙ zero-add _))
        (λ o.
        by_cases (is_claim r)
        (λ c. rw (o, c) (no-party r (entries_from T 0 rs) ∙ comes-to-total rs))
        (λ c. rw (o, c) (comes-to-total rs)))
