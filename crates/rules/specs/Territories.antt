-- The territory table that a caller lends (M-105): up to 512 territories, six bytes each. Which tables are right (13), by which codes a claim
-- may name a territory, and which territories have no members.
use Rattle.std.specs.Prelude.{ℕ, suc, ◌+◌, ◌*◌, ◌/◌, ◌%◌, Bool, true, false, not, ◌&&◌, ◌||◌, List, [], ◌∷◌, ◌++◌, map, leb, ltb, eqb, length, take, get_or}
use Rattle.format.specs.Bytes.{Bytes, among}
use Rattle.rules.specs.Tables.{entries}
use Rattle.rules.specs.Records.{any}

abbrev pub territory_size : ℕ
territory_size = 6

abbrev pub most_territories : ℕ
most_territories = 512

-- a code, and the position in the table of the group that holds it
pub record Territory : Type 0 where
  pub code : Bytes
  pub group : ℕ

-- four bytes, and two with the least significant first
abbrev pub territory_of : Bytes → Territory
territory_of e = record { code = take 4 e; group = get_or e 4 0 + 256 * get_or e 5 0 }

unfoldable pub territories_in : Bytes → List Territory
territories_in table = map territory_of (entries territory_size table)

-- the group of a territory that none holds
abbrev pub no_group : ℕ
no_group = 65535

abbrev pub codes_of : List Territory → List Bytes
codes_of xs = map (λ (x : Territory). x.code) xs

-- ---- 13

-- some code stands twice
abbrev pub any_twice : List Bytes → Bool
any_twice [] = false
any_twice (c ∷ cs) = among c cs || any_twice cs

-- from position i on, each group stands earlier than what it holds
abbrev pub groups_earlier : ℕ → List Territory → Bool
groups_earlier i [] = true
groups_earlier i (x ∷ xs) = (eqb x.group no_group || ltb x.group i) && groups_earlier (suc i) xs

-- the length is a multiple of 6, there are at most 512 entries, no code stands twice, and each group stands earlier
unfoldable pub right_territories : Bytes → Bool
right_territories table =
    eqb (length table % territory_size) 0
    && leb (length table / territory_size) most_territories
    && not (any_twice (codes_of (territories_in table)))
    && groups_earlier 0 (territories_in table)

-- ---- which territory is held by which

-- the codes that name a territory: its own, and those that name its group. A group stands earlier, so that its names are known by then; none
-- are known at 65535
abbrev pub names_of : List (List Bytes) → Territory → List Bytes
names_of known x = x.code ∷ get_or known x.group []

abbrev pub names_from : List (List Bytes) → List Territory → List (List Bytes)
names_from known [] = []
names_from known (x ∷ xs) = names_of known x ∷ names_from (known ++ names_of known x ∷ []) xs

-- of each territory of a table
unfoldable pub names : List Territory → List (List Bytes)
names xs = names_from [] xs

-- the territory at position i holds another
unfoldable pub has_members : List Territory → ℕ → Bool
has_members xs i = any (λ (x : Territory). eqb x.group i) xs
