-- Internal: a walk over the details of a transaction, from one claim to the next.
use Rattle.std.specs.Prelude.{ℕ, ◌+◌, ◌≤◌, ◌≡◌, true, ◌||◌, Option, None, Some, List, [], ◌∷◌, eqb, length}
use Rattle.format.specs.Bytes.{Bytes}
use Rattle.format.specs.Table.{head}
use Rattle.format.specs.Cwr22.{cwr22}
use Rattle.format.specs.Structure.{most_bytes, most_records}
use Rattle.format.specs.Tree.{span, is_detail}
use Rattle.rules.specs.Territories.{territories_in, right_territories}
use Rattle.kinds.specs.declared.Row.{Row}
use Rattle.kinds.specs.declared.Class.TheVariants.{Detail}
use Rattle.kinds.specs.Rows.{row_for, of_claim}
use Rattle.claims.specs.declared.Claim.{Claim}
use Rattle.claims.specs.Entries.{entries_from}
use Rattle.structure.specs.Cursor.{Here}
use Rattle.transactions.specs.Walk.{rest_at}
use Rattle.parties.specs.declared.Next.{Next}

-- the entries of the claims among the details from a byte on, after so many parties
unfoldable pub entries_at : (f table : Bytes) (at party : ℕ) → List Claim
entries_at f table at party = entries_from (territories_in table) party (span (is_detail cwr22) (rest_at f at))

-- the walk stands there, and parties may be counted up to the file's end
pub record Within (f table : Bytes) (at party : ℕ) : Type 0 where
  pub here : Here f at head (rest_at f at)
  pub short : length f ≤ most_bytes
  pub right : right_territories table ≡ true
  pub few : party + length (rest_at f at) ≤ most_records

-- a row is that of a type, and of a claim
abbrev pub ClaimRow : Row → Bytes → Type 0
ClaimRow row type = (row ≡ row_for type) × (row.class ≡ Detail) × (of_claim row.sort ≡ true)

-- from there, a claim is the next, and the walk stands there after it
pub record Found (f table : Bytes) (at party : ℕ) (s : Next) : Type 0 where
  pub within : Within f table s.at s.party
  pub left : entries_at f table at party ≡ s.claim ∷ entries_at f table s.at s.party

-- the next claim, or none is left
abbrev pub Ahead : (f table : Bytes) (at party : ℕ) → Option Next → Type 0
Ahead f table at party None = entries_at f table at party ≡ []
Ahead f table at party (Some s) = Found f table at party s
