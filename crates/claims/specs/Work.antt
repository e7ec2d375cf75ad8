-- Internal: the work table in which entries are counted, one element for a territory.
use Rattle.std.specs.Prelude.{ℕ, ◌+◌, ◌*◌, ◌^◌, ◌<◌, ◌≤◌, ◌≡◌, Bool, true, false, cond, List, ◌++◌, length, get_or}
use Rattle.format.specs.Bytes.{Bytes}
use Rattle.format.specs.Structure.{most_records}
use Rattle.rules.specs.Totals.{Right, PR, MR, SR}
use Rattle.rules.specs.Territories.{Territory, territories_in, most_territories, right_territories, has_members}
use Rattle.totals.specs.declared.Rights.{Rights}
use Rattle.totals.specs.Sums.{rights, plus, AtMost}
use Rattle.claims.specs.declared.Claim.{Claim}
use Rattle.claims.specs.declared.Taken.{Taken}
use Rattle.claims.specs.Entries.{comes_to}

abbrev pub of_right : Rights → Right → ℕ
of_right r PR = r.pr
of_right r MR = r.mr
of_right r SR = r.sr

-- ---- one territory

abbrev pub no_rights : Rights
no_rights = rights (λ _. 0)

abbrev pub nothing : Taken
nothing = record { speaks = false; current = no_rights; before = no_rights }

abbrev pub Small : Taken → Type 0
Small x = AtMost (2 ^ 32) x.current × AtMost (2 ^ 60) x.before

-- with one entry more, that speaks of it or not, and begins a party or not
abbrev pub taken_with : Bool → Bool → Rights → Taken → Taken
taken_with speaks begins given x =
    record {
      speaks = speaks;
      current = cond speaks given (cond begins no_rights x.current);
      before = plus x.before (cond begins x.current no_rights);
    }

-- by right, what the party at hand gives in the territory at position j, and what those before it gave
abbrev pub current : List Taken → ℕ → Right → ℕ
current work j right = of_right (get_or work j nothing).current right

abbrev pub closed : List Taken → ℕ → Right → ℕ
closed work j right = of_right (get_or work j nothing).before right

-- ---- all territories, after some entries of which party `last` had the latest

-- one right in one territory: whatever entries follow, they come to what all of them do
pub record Stands (territories : List Territory) (es : List Claim) (last j : ℕ) (right : Right) (n c : ℕ) : Type 0 where
  pub rest : (more : List Claim) → c + comes_to territories right j last n more ≡ comes_to territories right j 0 0 (es ++ more)
  pub small : n ≤ 2 ^ 32
  pub roomy : c ≤ 2 ^ 32 * length es

pub record Counted (table : Bytes) (es : List Claim) (last : ℕ) (work : List Taken) : Type 0 where
  pub long : length work ≡ most_territories
  pub stands : (j : ℕ) → j < length (territories_in table) → (right : Right)
      → Stands (territories_in table) es last j right (current work j right) (closed work j right)

-- fewer entries than records are counted
abbrev pub Underway : Bytes → ℕ → List Taken → Type 0
Underway table last work = (es : List Claim) × Counted table es last work × (length es < most_records) × (right_territories table ≡ true)

abbrev pub Summed : Bytes → List Taken → Type 0
Summed table work = (es : List Claim) × (last : ℕ) × Counted table es last work × (length es ≤ most_records)

-- ---- which positions hold another

abbrev pub Held : List Territory → List Bool → Type 0
Held territories held = (i : ℕ) → i < most_territories → get_or held i false ≡ has_members territories i
