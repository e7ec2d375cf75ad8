-- One entry more in the work table, territory by territory. Assumes nothing.
use Prim.Native.Nat.{ℕ, suc, ◌+◌, ◌-◌, ◌*◌, ◌^◌, ◌<◌, ◌≤◌}
use native.Mathlib.Omega.{arith}
use native.Mathlib.Nat.{zero-add, add_assoc, mul-suc}
use mathlib.Core.Path.{◌≡◌, refl, sym, ap, ◌∙◌}
use mathlib.Core.Bool.{Bool, true, false, cond, not, ◌&&◌, ◌||◌, true≢false}
use mathlib.Core.List.{List, [], ◌∷◌, ◌++◌, append_assoc}
use lib.Dec.{eqb, ltb}
use lib.ListN.{length, get_or, set, take, drop, length-append, length-drop, get_or-eq_default, replicate, length-replicate, get_or-replicate}
use lib.Seq.{length-take-le, get_or-set_same, get_or-set_other}
use borrow.Author.Tests.{eqb-true, eqb-false, ne_eqb, ltb-true, ltb-false, lt-ltb, le-ltb}
use Rattle.format.specs.Bytes.{Bytes, same_bytes}
use Rattle.format.specs.Structure.{most_records}
use Rattle.format.proofs.Logic.{is_true, same_bytes-refl}
use Rattle.format.proofs.Tests.{by_cases}
use Rattle.rules.specs.Totals.{Right, PR, MR, SR}
use Rattle.rules.specs.Territories.{Territory, territories_in, no_group, codes_of, right_territories, names}
use Rattle.totals.specs.declared.Rights.{Rights}
use Rattle.totals.specs.Sums.{rights, AtMost}
use Rattle.territories.specs.Positions.{place_of, groups_of}
use Rattle.territories.proofs.Entries.{code_is}
use Rattle.rules.proofs.Names.{names_at, length-names, by-group, RightTable, right-table, length-territories}
use Rattle.territories.proofs.Laws.{only-place, at_place, length-codes, within}
use Rattle.claims.specs.declared.Claim.{Claim}
use Rattle.claims.specs.declared.Taken.{Taken}
use Rattle.claims.specs.Entries.{gives, is_ignored, begins, party_with, speaks, gives_with, comes_to}
use Rattle.claims.specs.Work.{of_right, nothing, Small, taken_with, current, closed, Stands, Counted}
use Rattle.claims.proofs.Work.{of-cond, of-plus, of-rights}

-- ---- one right in one territory

module _ (T : List Territory) (es : List Claim) (last j : ℕ) (right : Right) (n c : ℕ) (e : Claim) where
  small-with : (b s : Bool) (g : ℕ) → n ≤ 2 ^ 32 → (i : Bool) → (i ≡ false → g ≤ 2 ^ 32) → cond i n (cond s g (cond b 0 n)) ≤ 2 ^ 32
  small-with b s g l true h = l
  small-with b true g l false h = h refl
  small-with true false g l false h = omega arith
  small-with false false g l false h = l

  roomy-with : (b : Bool) → n ≤ 2 ^ 32 → c ≤ 2 ^ 32 * length es → c + cond b n 0 ≤ 2 ^ 32 * length (es ++ e ∷ [])
  roomy-with b h l =
      let long : length (es ++ e ∷ []) ≡ suc (length es) = length-append es (e ∷ []) ∙ omega arith in
      let most : cond b n 0 ≤ 2 ^ 32 = by_cases b (λ t. rw t h) (λ t. rw t (omega arith)) in
      rw (long, mul-suc (2 ^ 32) (length es)) (omega (arith, most, l))

  pub stands_on : Stands T es last j right n c → (is_ignored e ≡ false → gives right e ≤ 2 ^ 32)
      → Stands T (es ++ e ∷ []) (party_with last e) j right (gives_with T right j last n e) (c + cond (begins last e) n 0)
  stands_on s h =
      record {
        rest = λ more. add_assoc c (cond (begins last e) n 0) _ ∙ s.rest (e ∷ more) ∙ ap (comes_to T right j 0 0) (sym (append_assoc es (e ∷ []) more));
        small = small-with (begins last e) (speaks T j e) (gives right e) s.small (is_ignored e) h;
        roomy = roomy-with (begins last e) s.small s.roomy;
      }

-- told in other words
pub stands-as : (T : List Territory) (es : List Claim) (p q j : ℕ) (r : Right) (n m c d : ℕ) → p ≡ q → n ≡ m → c ≡ d
    → Stands T es p j r m d → Stands T es q j r n c
stands-as T es p q j r n m c d e f g s = rw (← e, f, g) s

-- what stands there is small
pub small-at : (table : Bytes) (es : List Claim) (last : ℕ) (work : List Taken) → Counted table es last work
    → (j : ℕ) → j < length (territories_in table) → length es ≤ most_records → Small (get_or work j nothing)
small-at table es last work counted j h few = ((least PR, least MR, least SR), (room PR, room MR, room SR))
  where
    least : (r : Right) → current work j r ≤ 2 ^ 32
    least r = (counted.stands j h r).small

    room : (r : Right) → closed work j r ≤ 2 ^ 60
    room r = let most = (counted.stands j h r).roomy in omega (arith, most, few)

-- ---- whether an entry speaks of a territory: its own position, or its group is spoken of

-- a code is not empty
four-some : (x : Bytes) → length x ≡ 4 → same_bytes x [] ≡ false
four-some [] z = absurd (omega arith)
four-some (b ∷ bs) z = refl

code-some : (table : Bytes) (j : ℕ) → j < length (territories_in table) → same_bytes (get_or (codes_of (territories_in table)) j []) [] ≡ false
code-some table j h =
    let entry = within table j h in
    let left : length (drop (6 * j) table) ≡ length table - 6 * j = length-drop (6 * j) table in
    rw (code_is table j (rw (length-territories table) at h)) (four-some (take 4 (drop (6 * j) table)) (length-take-le 4 (drop (6 * j) table) (omega (arith, left, entry))))

-- ---- all territories before position j have the entry, those from there on have not

pub record Counting (table : Bytes) (e : Claim) (last : ℕ) (old : List Taken) (j : ℕ) (work : List Taken) : Type 0 where
  pub with_it : (i : ℕ) → i < j
      → get_or work i nothing ≡ taken_with (speaks (territories_in table) i e) (not (eqb e.party last)) (rights (λ r. gives r e)) (get_or old i nothing)
  pub left : (i : ℕ) → j ≤ i → get_or work i nothing ≡ get_or old i nothing

pub counting-none : (table : Bytes) (e : Claim) (last : ℕ) (old : List Taken) → Counting table e last old 0 old
counting-none table e last old =
    record {
      with_it = λ i h. absurd (omega arith);
      left = λ i h. refl;
    }

module _ (table : Bytes) (right : RightTable table) (e : Claim) where
  abbrev T : List Territory
  T = territories_in table

  abbrev codes : List Bytes
  codes = codes_of T

  abbrev code : Bytes
  code = get_or codes e.code []

  own-place : (j : ℕ) → j < length T → same_bytes (get_or codes j []) code ≡ eqb j e.code
  own-place j h =
      by_cases (ltb e.code (length codes))
      (λ l.
      let inside = ltb-true e.code (length codes) l in
      let same = is_true _ (same_bytes-refl code) in
      let place : e.code ≡ place_of code codes = at_place code codes right.once e.code inside same in
      only-place code codes right.once j (omega (arith, h, length-codes T)) (omega (arith, inside, place)) ∙ ap (eqb j) (sym place))
      (λ l.
      let beyond = ltb-false e.code (length codes) l in
      rw (get_or-eq_default codes [] beyond, code-some table j h) (sym (ne_eqb j e.code (λ z. omega (arith, h, beyond, length-codes T)))))

  -- where the territories before position j have been looked at
  pub speaks-at : (work : List Taken) (j group : ℕ) → j < length T → group ≡ get_or (groups_of T) j no_group
      → ((i : ℕ) → i < j → (get_or work i nothing).speaks ≡ speaks T i e)
      → (eqb j e.code || (ltb group j && (get_or work group nothing).speaks)) ≡ speaks T j e
  speaks-at work j group h g spoken =
      rw (names_at T right.earlier right.few j h, own-place j h, ← g)
      (ap (λ (b : Bool). eqb j e.code || b)
      (by-group T right.earlier j h
      (λ none.
      let far : group ≡ no_group = g ∙ none in
      let past : length (names T) ≤ no_group = omega (arith, length-names T, right.few) in
      rw (far, le-ltb no_group j (omega (arith, h, right.few)), get_or-eq_default (names T) [] past))
      (λ earlier.
      let before : group < j = omega (arith, g, earlier) in
      rw (lt-ltb group j before, spoken group before) refl)))

  module _ (last : ℕ) (old : List Taken) where
    module _ (j : ℕ) (work : List Taken) (c : Counting table e last old j work) where
      pub spoken-before : (i : ℕ) → i < j → (get_or work i nothing).speaks ≡ speaks T i e
      spoken-before i h = ap (λ (x : Taken). x.speaks) (c.with_it i h)

      pub counting-small : (es : List Claim) → Counted table es last old → length es ≤ most_records → j < length T → Small (get_or work j nothing)
      counting-small es counted few h = rw (c.left j (omega arith)) (small-at table es last old counted j h few)

      -- the entry is some party's
      pub counting-on : (s : Bool) (given : Rights) → s ≡ speaks T j e → given ≡ rights (λ r. gives r e) → j < length work
          → (x : Taken) → x ≡ taken_with s (not (eqb e.party last)) given (get_or work j nothing) → Counting table e last old (j + 1) (set work j x)
      counting-on s given f g room x is =
          record {
            with_it =
                λ i l.
                by_cases (eqb i j)
                (λ z. rw (eqb-true i j z, get_or-set_same work j x nothing room) (is ∙ rw (f, g, c.left j (omega arith)) refl))
                (λ z. let n = eqb-false i j z in get_or-set_other work j i x nothing n ∙ c.with_it i (omega (arith, l, n)));
            left = λ i l. get_or-set_other work j i x nothing (λ z. omega (arith, z, l)) ∙ c.left i (omega arith);
          }

    -- once all have it
    pub small-each : (given : Rights) → given ≡ rights (λ r. gives r e) → AtMost (2 ^ 32) given → (r : Right) → gives r e ≤ 2 ^ 32
    small-each given g most PR = rw g at most.0
    small-each given g most MR = rw g at most.1
    small-each given g most SR = rw g at most.2

    module _ (work : List Taken) (n : ℕ) (c : Counting table e last old n work) (its : is_ignored e ≡ false) where
      current-with : (i : ℕ) → i < n → (r : Right) → current work i r ≡ gives_with T r i last (current old i r) e
      current-with i h r =
          let x = get_or old i nothing in
          let b = not (eqb e.party last) in
          let none = rights (λ _. 0) in
          ap (λ (y : Taken). of_right y.current r) (c.with_it i h)
          ∙ rw (its, of-cond (speaks T i e) (rights (λ q. gives q e)) (cond b none x.current) r, of-cond b none x.current r, of-rights (λ q. gives q e) r, of-rights (λ _. 0) r) refl

      closed-with : (i : ℕ) → i < n → (r : Right) → closed work i r ≡ closed old i r + cond (begins last e) (current old i r) 0
      closed-with i h r =
          let x = get_or old i nothing in
          let b = not (eqb e.party last) in
          let none = rights (λ _. 0) in
          ap (λ (y : Taken). of_right y.before r) (c.with_it i h)
          ∙ rw (its, of-plus x.before (cond b x.current none) r, of-cond b x.current none r, of-rights (λ _. 0) r) refl

      pub counting-all : length work ≡ length old → n ≡ length T → ((r : Right) → gives r e ≤ 2 ^ 32)
          → (es : List Claim) → Counted table es last old → Counted table (es ++ e ∷ []) e.party work
      counting-all long is small es counted =
          record {
            long = long ∙ counted.long;
            stands =
                λ j h r.
                let before : j < n = omega (arith, is, h) in
                let party : party_with last e ≡ e.party = rw its in
                stands-as T (es ++ e ∷ []) _ _ j r _ _ _ _ party (current-with j before r) (closed-with j before r)
                (stands_on T es last j r (current old j r) (closed old j r) e (counted.stands j h r) (λ _. small r));
          }

-- an entry that is ignored
pub counted-ignored : (table : Bytes) (es : List Claim) (last : ℕ) (work : List Taken) (e : Claim) → is_ignored e ≡ true
    → Counted table es last work → Counted table (es ++ e ∷ []) last work
counted-ignored table es last work e its counted =
    record {
      long = counted.long;
      stands =
          λ j h r.
          let n = current work j r in
          let c = closed work j r in
          stands-as (territories_in table) (es ++ e ∷ []) _ _ j r _ _ _ _ (rw its) (rw its) (none its c n)
          (stands_on (territories_in table) es last j r n c e (counted.stands j h r) (λ f. absurd (true≢false (sym its ∙ f))));
    }
  where
    none : is_ignored e ≡ true → (c n : ℕ) → c ≡ c + cond (begins last e) n 0
    none its c n = rw its (omega arith)

-- before any
pub counted_start : (table : Bytes) → right_territories table ≡ true → Counted table [] 0 (replicate 512 nothing)
counted_start table right =
    record {
      long = length-replicate {A = Taken} 512 nothing;
      stands = λ j h r. rw (get_or-replicate 512 j nothing nothing (omega (arith, h, few)), of-rights (λ _. 0) r) none;
    }
  where
    none : {T : List Territory} {j : ℕ} {r : Right} → Stands T [] 0 j r 0 0
    none = record { rest = λ more. zero-add _; small = omega arith; roomy = omega arith }

    few : length (territories_in table) ≤ 512
    few = (right-table table right).few
