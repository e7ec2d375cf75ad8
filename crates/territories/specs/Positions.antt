-- Internal: positions in a territory table, and hints that say where a code may stand.
use Rattle.std.specs.Prelude.{ℕ, suc, ◌+◌, ◌*◌, ◌%◌, ◌<◌, ◌≤◌, cond, List, [], ◌∷◌, map, length, get_or}
use Rattle.format.specs.Bytes.{Bytes, same_bytes}
use Rattle.rules.specs.Territories.{Territory}

-- how many stand before the first that is this one; where none is, how many there are
abbrev pub place_of : Bytes → List Bytes → ℕ
place_of c [] = 0
place_of c (x ∷ xs) = cond (same_bytes x c) 0 (suc (place_of c xs))

-- the position of the group of each
abbrev pub groups_of : List Territory → List ℕ
groups_of xs = map (λ (x : Territory). x.group) xs

-- ---- hints: a slot for some code, with the position of an entry

abbrev pub hint_count : ℕ
hint_count = 4096

-- codes of four digits that write less than 4,096 have slots of their own
unfoldable pub slot_of : Bytes → ℕ
slot_of code = ((get_or code 0 0 % 16) * 1000 + (get_or code 1 0 % 16) * 100 + (get_or code 2 0 % 16) * 10 + get_or code 3 0 % 16) % hint_count

-- the slot of each code holds a position that is not before it
abbrev pub Hinted : List Bytes → List ℕ → Type 0
Hinted cs hints = (j : ℕ) → j < length cs → j ≤ get_or hints (slot_of (get_or cs j [])) 0
