-- What a right territory table is, and the names of each of its territories: its own code, and those of the groups that hold it. Assumes
-- nothing.
use Prim.Native.Nat.{ℕ, zero, suc, ◌+◌, ◌/◌, ◌%◌, ◌≤◌, ◌<◌}
use native.Mathlib.Omega.{arith}
use mathlib.Core.Path.{◌≡◌, refl, sym, ap, ◌∙◌}
use mathlib.Core.Bool.{Bool, true, false, not, false≢true, ◌&&◌, ◌||◌, or-true}
use mathlib.Core.List.{List, [], ◌∷◌, ◌++◌, map, append_assoc}
use mathlib.Core.Logic.{◌↔◌, ◌⊎◌, inl, inr}
use borrow.Author.Tests.{ltb-true, leb-true, eqb-true, not-true}
use lib.Dec.{leb, ltb, eqb}
use lib.ListN.{length, drop, get_or, length-map, length-append, get_or-append, get_or-eq_default}
use Rattle.format.specs.Bytes.{Bytes, same_bytes, among}
use Rattle.format.proofs.Logic.{is_true, same_bytes-refl}
use Rattle.format.proofs.Tests.{by_cases, both, same→eq}
use Rattle.rules.specs.Tables.{first_entries, entries}
use Rattle.rules.specs.Territories.{Territory, territory_of, territories_in, codes_of, no_group, most_territories, any_twice, groups_earlier}
use Rattle.rules.specs.Territories.{right_territories, names, names_from, names_of}
use Rattle.rules.specs.Claims.{group_at, code_at, Holds, directly, through}

-- ---- the entries of a table

pub counted : (n size : ℕ) (s : Bytes) → length (first_entries n size s) ≡ n
counted zero size s = refl
counted (suc n) size s = ap suc (counted n size (drop size s))

pub length-territories : (table : Bytes) → length (territories_in table) ≡ length table / 6
unfolding territories_in entries
length-territories table =
    length-map (first_entries (length table / 6) 6 table) territory_of ∙ counted (length table / 6) 6 table

-- ---- a right table

pub record RightTable (table : Bytes) : Type 0 where
  pub few : length (territories_in table) ≤ most_territories
  pub once : any_twice (codes_of (territories_in table)) ≡ false
  pub earlier : groups_earlier 0 (territories_in table) ≡ true

pub right-table : (table : Bytes) → right_territories table ≡ true → RightTable table
unfolding right_territories
right-table table e =
    let whole = eqb (length table % 6) 0 in
    let few = leb (length table / 6) 512 in
    let once = not (any_twice (codes_of (territories_in table))) in
    let all = both (whole && few && once) (groups_earlier 0 (territories_in table)) e in
    let codes = both (whole && few) once all.0 in
    record {
      few = rw (length-territories table) (leb-true (length table / 6) 512 (both whole few codes.0).1);
      once = not-true (any_twice (codes_of (territories_in table))) codes.1;
      earlier = all.1;
    }

-- ---- groups, and the names of a territory

groups-from : (i : ℕ) (xs : List Territory) → groups_earlier i xs ≡ true → (j : ℕ) → j < length xs
    → (eqb (group_at xs j) no_group || ltb (group_at xs j) (i + j)) ≡ true
groups-from i [] e j h = absurd (omega arith)
groups-from i (x ∷ xs) e zero h = let none : i + 0 ≡ i = omega arith in rw none (both (eqb x.group no_group || ltb x.group i) _ e).0
groups-from i (x ∷ xs) e (suc j) h =
    let next : i + suc j ≡ suc i + j = omega arith in
    rw next (groups-from (suc i) xs (both (eqb x.group no_group || ltb x.group i) _ e).1 j (omega arith))

-- the group of a territory is none, or stands earlier
group-earlier : (xs : List Territory) → groups_earlier 0 xs ≡ true → (j : ℕ) → j < length xs
    → (eqb (group_at xs j) no_group || ltb (group_at xs j) j) ≡ true
group-earlier xs e j h = let same : 0 + j ≡ j = omega arith in rw same at (groups-from 0 xs e j h)

-- one or the other
either-group : {P : Type 0} (g i : ℕ) → (eqb g no_group || ltb g i) ≡ true → (g ≡ no_group → P) → (g < i → P) → P
either-group g i e none earlier =
    by_cases (eqb g no_group) (λ t. none (eqb-true g no_group t)) (λ t. earlier (ltb-true g i (rw t at e)))

pub by-group : {P : Type 0} (xs : List Territory) → groups_earlier 0 xs ≡ true → (j : ℕ) → j < length xs
    → (group_at xs j ≡ no_group → P) → (group_at xs j < j → P) → P
by-group xs e j h none earlier = either-group (group_at xs j) j (group-earlier xs e j h) none earlier

length_from : (known : List (List Bytes)) (xs : List Territory) → length (names_from known xs) ≡ length xs
length_from known [] = refl
length_from known (x ∷ xs) = ap suc (length_from (known ++ names_of known x ∷ []) xs)

pub length-names : (xs : List Territory) → length (names xs) ≡ length xs
unfolding names
length-names xs = length_from [] xs

names-from : (known : List (List Bytes)) (xs : List Territory) → groups_earlier (length known) xs ≡ true → length known + length xs ≤ most_territories
    → (j : ℕ) → j < length xs
    → get_or (names_from known xs) j [] ≡ code_at xs j ∷ get_or (known ++ names_from known xs) (group_at xs j) []
names-from known [] e few j h = absurd (omega arith)
names-from known (x ∷ xs) e few zero h =
    either-group x.group (length known) (both (eqb x.group no_group || ltb x.group (length known)) _ e).0
    (λ none. ap (λ ns. x.code ∷ ns) (
    get_or-eq_default known [] (omega arith)
    ∙ sym (get_or-eq_default (known ++ names_from known (x ∷ xs)) [] (rw (length-append, length_from known (x ∷ xs)) (omega arith)))
    ))
    (λ earlier. ap (λ ns. x.code ∷ ns) (sym (get_or-append known (names_from known (x ∷ xs)) [] x.group earlier)))
names-from known (x ∷ xs) e few (suc j) h =
    let here = names_of known x in
    let more : length (known ++ here ∷ []) ≡ suc (length known) = rw length-append (omega arith) in
    rw (← append_assoc known (here ∷ []) (names_from (known ++ here ∷ []) xs))
    (names-from (known ++ here ∷ []) xs
    (rw more (both (eqb x.group no_group || ltb x.group (length known)) _ e).1) (rw more (omega arith)) j (omega arith))

module _ (xs : List Territory) (e : groups_earlier 0 xs ≡ true) (few : length xs ≤ most_territories) where
  -- its own code, and the names of its group
  pub names_at : (j : ℕ) → j < length xs → get_or (names xs) j [] ≡ code_at xs j ∷ get_or (names xs) (group_at xs j) []
  unfolding names
  names_at j h = names-from [] xs e (omega arith) j h

  -- ---- so they are the codes of the groups that hold it, beside its own

  -- a position beyond the table has no group, so none holds it
  beyond : (j : ℕ) → length xs ≤ j → group_at xs j ≡ no_group
  beyond j h = get_or-eq_default (map (λ (x : Territory). x.group) xs) no_group (rw (length-map xs (λ (x : Territory). x.group)) h)

  held-by-none : {g j : ℕ} → Holds xs g j → length xs ≤ j → g ≡ no_group
  held-by-none (directly j d) h = sym d ∙ beyond j h
  held-by-none (through j d) h = held-by-none d (omega (arith, beyond j h, few))

  module _ (c : Bytes) where
    named : ℕ → Bool
    named i = among c (get_or (names xs) i [])

    own_code : (i : ℕ) → i < length xs → code_at xs i ≡ c → named i ≡ true
    unfolding named
    own_code i h q = rw (names_at i h, q, is_true (same_bytes c c) (same_bytes-refl c)) refl

    group-code : (i : ℕ) → i < length xs → named (group_at xs i) ≡ true → named i ≡ true
    unfolding named
    group-code i h q = rw (names_at i h, q) (or-true (same_bytes (code_at xs i) c))

    holds_named : {g i : ℕ} → Holds xs g i → g < length xs → i < length xs → code_at xs g ≡ c → named i ≡ true
    holds_named (directly i d) l h q = group-code i h (own_code (group_at xs i) (rw d l) (rw d q))
    holds_named (through i d) l h q =
        by-group xs e i h
        (λ none. absurd (omega (arith, held-by-none d (omega (arith, none, few)), l, few)))
        (λ earlier. group-code i h (holds_named d l (omega (arith, earlier, h)) q))

    abbrev Named : ℕ → Type 0
    Named i = (code_at xs i ≡ c) ⊎ ((g : ℕ) × (g < length xs) × Holds xs g i × (code_at xs g ≡ c))

    outer : (i : ℕ) → group_at xs i < length xs → Named (group_at xs i) → Named i
    outer i l (inl q) = inr (group_at xs i, l, directly i refl, q)
    outer i l (inr (g, k, d, q)) = inr (g, k, through i d, q)

    named-holds : (n i : ℕ) → i < n → i < length xs → named i ≡ true → Named i
    unfolding named
    named-holds zero i m h q = absurd (omega arith)
    named-holds (suc n) i m h q =
        by_cases (same_bytes (code_at xs i) c)
        (λ t. inl (same→eq (code_at xs i) c t))
        (λ t.
        let rest : named (group_at xs i) ≡ true = rw (names_at i h, t) at q in
        by-group xs e i h
        (λ none.
        absurd (false≢true (sym (ap (among c) (get_or-eq_default (names xs) [] (rw (length-names xs) (omega (arith, none, few))))) ∙ rest)))
        (λ earlier.
        outer i (omega (arith, earlier, h)) (named-holds n (group_at xs i) (omega (arith, earlier, m)) (omega (arith, earlier, h)) rest)))

pub named-exactly : (table : Bytes) (i : ℕ) (c : Bytes) → right_territories table ≡ true → i < length (territories_in table)
    → among c (get_or (names (territories_in table)) i []) ≡ true
    ↔ ((code_at (territories_in table) i ≡ c)
    ⊎ ((g : ℕ) × (g < length (territories_in table)) × Holds (territories_in table) g i × (code_at (territories_in table) g ≡ c)))
unfolding named
named-exactly table i c e h = (named-holds xs r.earlier r.few c (suc i) i (omega arith) h, back)
  where
    xs : List Territory
    xs = territories_in table

    r : RightTable table
    r = right-table table e

    back : Named xs r.earlier r.few c i → among c (get_or (names xs) i []) ≡ true
    back (inl q) = own_code xs r.earlier r.few c i h q
    back (inr (g, l, d, q)) = holds_named xs r.earlier r.few c d l h q
