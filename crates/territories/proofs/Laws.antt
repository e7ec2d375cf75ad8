-- Laws for callers: entries of a table, and places of codes. Assumes nothing.
use Prim.Native.Nat.{ℕ, zero, suc, ◌+◌, ◌*◌, ◌<◌, ◌≤◌}
use mathlib.Core.Path.{◌≡◌, refl, sym, ◌∙◌}
use mathlib.Core.Bool.{true, false}
use mathlib.Core.List.{List, [], ◌∷◌}
use native.Mathlib.Omega.{arith}
use borrow.Author.Tests.{eqb-true, lt-ltb, le-ltb, eq-eqb, ne_eqb}
use lib.Dec.{ltb, eqb, leb-suc-suc, eqb-suc-suc}
use lib.ListN.{length, get_or, length-map}
use Rattle.format.specs.Bytes.{Bytes, same_bytes, among}
use Rattle.format.proofs.Tests.{by_cases, same→eq}
use Rattle.rules.specs.Territories.{Territory, territories_in, codes_of, any_twice}
use Rattle.rules.proofs.Found.{neither}
use Rattle.rules.proofs.Names.{length-territories}
use Rattle.territories.specs.Positions.{place_of, groups_of}

-- ---- the entries of a table

pub length-codes : (xs : List Territory) → length (codes_of xs) ≡ length xs
length-codes xs = length-map xs (λ (x : Territory). x.code)

pub length-groups : (xs : List Territory) → length (groups_of xs) ≡ length xs
length-groups xs = length-map xs (λ (x : Territory). x.group)

-- an entry lies within the table
pub within : (table : Bytes) (k : ℕ) → k < length (territories_in table) → 6 * k + 6 ≤ length table
within table k h = omega (arith, length-territories table)

-- ---- the place of a code

pub place-within : (c : Bytes) (cs : List Bytes) → place_of c cs ≤ length cs
place-within c [] = omega arith
place-within c (x ∷ xs) =
    by_cases (same_bytes x c) (λ t. rw t (omega arith)) (λ t. rw t (omega (arith, place-within c xs)))

-- a code is among them where its place is one of theirs
pub among-place : (c : Bytes) (cs : List Bytes) → among c cs ≡ ltb (place_of c cs) (length cs)
among-place c [] = sym (le-ltb 0 0 (omega arith))
among-place c (x ∷ xs) =
    by_cases (same_bytes x c)
    (λ t. rw t (sym (lt-ltb 0 (suc (length xs)) (omega arith))))
    (λ t. rw (t, among-place c xs) (sym (leb-suc-suc (suc (place_of c xs)) (length xs))))

-- there it is
pub place_is : (c : Bytes) (cs : List Bytes) → place_of c cs < length cs → same_bytes (get_or cs (place_of c cs) []) c ≡ true
place_is c [] h = absurd (omega arith)
place_is c (x ∷ xs) h =
    by_cases (same_bytes x c) (λ t. rw (t, t))
    (λ t. let l : suc (place_of c xs) < suc (length xs) = rw t at h in rw t (place_is c xs (omega arith)))

-- ---- no code twice

absent : (c : Bytes) (cs : List Bytes) → among c cs ≡ false → (j : ℕ) → j < length cs → same_bytes (get_or cs j []) c ≡ false
absent c [] n j h = absurd (omega arith)
absent c (x ∷ xs) n zero h = (neither (same_bytes x c) (among c xs) n).0
absent c (x ∷ xs) n (suc j) h = absent c xs (neither (same_bytes x c) (among c xs) n).1 j (omega arith)

-- what is at j comes to be found no later
pub place-before : (c : Bytes) (cs : List Bytes) (j : ℕ) → j < length cs → same_bytes (get_or cs j []) c ≡ true → place_of c cs ≤ j
place-before c [] j h e = absurd (omega arith)
place-before c (x ∷ xs) zero h e = rw e (omega arith)
place-before c (x ∷ xs) (suc j) h e =
    by_cases (same_bytes x c) (λ t. rw t (omega arith)) (λ t. rw t (omega (arith, place-before c xs j (omega arith) e)))

-- a code that is among them is at its place and nowhere else
pub only-place : (c : Bytes) (cs : List Bytes) → any_twice cs ≡ false → (j : ℕ) → j < length cs → place_of c cs < length cs
    → same_bytes (get_or cs j []) c ≡ eqb j (place_of c cs)
only-place c [] once j h p = absurd (omega arith)
only-place c (x ∷ xs) once zero h p =
    by_cases (same_bytes x c) (λ t. rw t (sym (eq-eqb 0 0 refl))) (λ t. rw t (sym (ne_eqb 0 (suc (place_of c xs)) (λ e. omega arith))))
only-place c (x ∷ xs) once (suc j) h p =
    let apart = neither (among x xs) (any_twice xs) once in
    by_cases (same_bytes x c)
    (λ t.
    rw t
    (absent c xs (rw (same→eq x c t) at apart.0) j (omega arith)
    ∙ sym (ne_eqb (suc j) 0 (λ e. omega arith))))
    (λ t.
    rw t
    (only-place c xs apart.1 j (omega arith) (let q : suc (place_of c xs) < suc (length xs) = rw t at p in omega arith)
    ∙ sym (eqb-suc-suc j (place_of c xs))))

-- so it is found wherever it stands
pub at_place : (c : Bytes) (cs : List Bytes) → any_twice cs ≡ false → (j : ℕ) → j < length cs → same_bytes (get_or cs j []) c ≡ true
    → j ≡ place_of c cs
at_place c cs once j h e =
    let before = place-before c cs j h e in
    eqb-true j (place_of c cs) (sym (only-place c cs once j h (omega arith)) ∙ e)
