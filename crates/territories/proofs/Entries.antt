-- The entries of a territory table by their bytes. Assumes nothing.
use Prim.Native.Nat.{ℕ, zero, suc, ◌+◌, ◌*◌, ◌/◌, ◌<◌}
use mathlib.Core.Path.{◌≡◌, refl, ap, ◌∙◌}
use mathlib.Core.Bool.{Bool, ◌&&◌}
use mathlib.Core.List.{List, [], ◌∷◌, map}
use native.Mathlib.Nat.{mul-suc}
use native.Mathlib.Omega.{arith}
use lib.Dec.{eqb}
use lib.ListN.{length, take, drop, get_or}
use lib.Seq.{drop-drop, take-take, get_or-take, get_or-drop}
use Rattle.std.specs.Cmp.Lexicographic.{pointwise}
use Rattle.format.specs.Bytes.{Bytes, same_bytes}
use Rattle.rules.specs.Tables.{first_entries, entries}
use Rattle.rules.specs.Territories.{Territory, territory_of, territories_in, codes_of, no_group}
use Rattle.territories.specs.Positions.{groups_of}
use Rattle.rules.proofs.Names.{counted, length-territories}

-- ---- any entries

entry_at : (n size : ℕ) (s : Bytes) (k : ℕ) → k < n → get_or (first_entries n size s) k [] ≡ take size (drop (size * k) s)
entry_at zero size s k h = absurd (omega arith)
entry_at (suc n) size s zero h = let none : size * 0 ≡ 0 = omega arith in rw none
entry_at (suc n) size s (suc k) h =
    let next : size * suc k ≡ size + size * k = rw mul-suc (omega arith) in
    rw (next, ← drop-drop (size * k) size s) (entry_at n size (drop size s) k (omega arith))

pub map_at : {A B : Type 0} (f : A → B) (xs : List A) (k : ℕ) (d : B) (e : A) → k < length xs → get_or (map f xs) k d ≡ f (get_or xs k e)
map_at f [] k d e h = absurd (omega arith)
map_at f (x ∷ xs) zero d e h = refl
map_at f (x ∷ xs) (suc k) d e h = map_at f xs k d e (omega arith)

-- ---- slices are compared as the format compares bytes

pub sliced : (x y : Bytes) → pointwise eqb x y ≡ same_bytes x y
sliced [] [] = refl
sliced [] (b ∷ y) = refl
sliced (a ∷ x) [] = refl
sliced (a ∷ x) (b ∷ y) = ap (λ (t : Bool). eqb a b && t) (sliced x y)

-- ---- territories

module _ (table : Bytes) (k : ℕ) (h : k < length table / 6) where
  territory-at : (d : Territory) → get_or (territories_in table) k d ≡ territory_of (take 6 (drop (6 * k) table))
  unfolding territories_in entries
  territory-at d =
      map_at territory_of (first_entries (length table / 6) 6 table) k d [] (rw (counted (length table / 6) 6 table) h)
      ∙ ap territory_of (entry_at (length table / 6) 6 table k h)

  exists : k < length (territories_in table)
  exists = rw (length-territories table) h

  pub code_is : get_or (codes_of (territories_in table)) k [] ≡ take 4 (drop (6 * k) table)
  code_is =
      map_at (λ (x : Territory). x.code) (territories_in table) k [] (territory_of []) exists
      ∙ ap (λ (x : Territory). x.code) (territory-at (territory_of []))
      ∙ take-take 4 6 (drop (6 * k) table) (omega arith)

  pub group-is : get_or (groups_of (territories_in table)) k no_group ≡ get_or table (6 * k + 4) 0 + 256 * get_or table (6 * k + 5) 0
  group-is =
      map_at (λ (x : Territory). x.group) (territories_in table) k no_group (territory_of []) exists
      ∙ ap (λ (x : Territory). x.group) (territory-at (territory_of []))
      ∙ rw (
        get_or-take 6 (drop (6 * k) table) 4 0 (omega arith),
        get_or-take 6 (drop (6 * k) table) 5 0 (omega arith),
        get_or-drop (6 * k) table 4 0,
        get_or-drop (6 * k) table 5 0,
      )
