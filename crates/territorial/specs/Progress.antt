-- Internal: where a check with a territory table stands between two transactions in doubt, and what it has come to.
use Rattle.std.specs.Prelude.{ℕ, ◌≤◌, ◌≡◌, true, false, length, None, Some}
use Rattle.std.proofs.Math.Option.{none}
use Rattle.format.specs.Bytes.{Bytes}
use Rattle.format.specs.Table.{unknown}
use Rattle.format.specs.Structure.{Answer, refused, passed, most_bytes, most_records}
use Rattle.rules.specs.Tables.{Tables}
use Rattle.rules.specs.Values.{largest_tolerance}
use Rattle.rules.specs.Verdicts.{file_findings_by, file_verdicts_by}
use Rattle.rules.specs.Outcome.{enough, content}
use Rattle.rules.specs.Territories.{territories_in, right_territories}
use Rattle.rules.specs.WithTerritories.{claimed_findings, file_over, crowded_from, answer_with}
use Rattle.structure.specs.Cursor.{Here}
use Rattle.buffers.specs.Written.{Written}
use Rattle.transactions.specs.Walk.{rest_at}
use Rattle.claims.specs.Entries.{over_in}
use Rattle.parties.specs.Ahead.{Within, entries_at}
use Rattle.collection.specs.declared.Walk.{Walk}
use Rattle.collection.specs.declared.Sought.{Sought}
use Rattle.collection.specs.Walk.{Lent, Reached}

-- the file passes, with buffers of so many bytes and a list of so many entries
abbrev pub Passes : Tables → Bytes → ℕ → Bytes → ℕ → ℕ → ℕ → Type 0
Passes tables table t f v g room = (k : ℕ) × (m : ℕ) × (n : ℕ) × (passed k m n ≡ answer_with tables table t f (enough v g) room)

-- in a file that passes, with a list of so many entries, and the buffers v₀ and g₀ at the outset: v' and g' are the buffers as they are to be,
-- and every transaction's claims have room in the list
pub record Going (tables : Tables) (table : Bytes) (t : ℕ) (f : Bytes) (room : ℕ) (v₀ g₀ : Bytes) (s : Sought) (v g : Bytes) : Type 0 where
  pub m : ℕ
  pub lent : Lent f table t m v g
  pub v' : Bytes
  pub g' : Bytes
  pub written : Written 0 (file_verdicts_by (claimed_findings tables (territories_in table) t) (content f))
      (file_findings_by (claimed_findings tables (territories_in table) t) (content f)) v₀ g₀ v' g'
  pub reached : Reached f table t m v' g' (file_over (territories_in table) t (content f)) s v g
  pub fits : crowded_from room 0 (rest_at f 0) ≡ none

-- what is known of a transaction in doubt
pub record Doubt (table : Bytes) (t : ℕ) (f : Bytes) (room first : ℕ) : Type 0 where
  pub within : Within f table first 0
  pub fits : length (entries_at f table first 0) ≤ room
  pub few : length (entries_at f table first 0) ≤ most_records
  pub right : right_territories table ≡ true
  pub small : t ≤ largest_tolerance

-- its claims are counted
abbrev pub Doubted : Bytes → ℕ → Bytes → Sought → ℕ → Bytes → Bytes → Type 0
Doubted table t f s over v g =
    (first : ℕ) × (tables : Tables) × (room : ℕ) × (v₀ : Bytes) × (g₀ : Bytes) × Going tables table t f room v₀ g₀ s v g × (s.doubt ≡ Some first)
    × (over ≡ over_in table t (entries_at f table first 0))

abbrev pub start_walk : Walk
start_walk = record { at = 0; index = 0; number = 0; over = None; header = 0 }

-- a file that passes can be walked over, and has as many records as are told
abbrev pub Counted : Bytes → Answer → Type 0
Counted f (refused n i) = Unit {0}
Counted f (passed k m n) = (length f ≤ most_bytes) × Here f 0 unknown (rest_at f 0) × (length (rest_at f 0) ≡ n) × (n ≤ most_records)
