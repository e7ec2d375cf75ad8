-- Internal: where a walk over a file stands, what it has met, and what it asks of a record.
use Rattle.std.specs.Prelude.{ℕ, ◌+◌, ◌≤◌, ◌≡◌, Bool, true, not, ◌||◌, length, take, drop, Option as CodeOption, None, Some}
use Rattle.std.proofs.Math.Option.{Option, none, some}
use Rattle.format.specs.Bytes.{Bytes, same_bytes, every, is_text, begins_pair}
use Rattle.format.specs.Table.{known, at, width, unknown}
use Rattle.format.specs.Cwr22.{cwr22}
use Rattle.format.specs.Checks.{none_counted, count, may_follow, slot, expected}
use Rattle.kinds.specs.Rows.{class_in, type_of}
use Rattle.kinds.specs.declared.Class.{Class as CodeClass}
use Rattle.kinds.specs.declared.Row.{Row}
use Rattle.counts.specs.Counting.{counts_in}
use Rattle.structure.specs.declared.standing.Stand.{Stand}
use Rattle.structure.specs.declared.FirstFaults.{FirstFaults}
use Rattle.structure.specs.Rest.{Faults, rest_from}

-- a row has a known class, and room for a type and the numbers
pub record Roomy (r : Row) : Type 0 where
  pub class : known (class_in r.class) ≡ true
  pub type : 3 ≤ r.length
  pub numbers : at (class_in r.class) + width (class_in r.class) ≤ r.length

-- at a byte of the file
pub record Bounded (f : Bytes) (s : Stand) : Type 0 where
  pub inside : s.at ≤ length f

-- all before was right, so the rest decides, whatever is found of the version
pub record Stood (f : Bytes) (asked : Bool) (s : Stand) : Type 0 where
  pub bounded : Bounded f s
  pub rest : (version : Bool)
      → rest_from cwr22 asked version (class_in s.class) (counts_in s.counts) (drop s.at f) ≡ rest_from cwr22 asked version unknown none_counted f

-- the record of that row which stands there is whole, and right in all that is asked
pub record RightAt (f : Bytes) (asked : Bool) (s : Stand) (r : Row) : Type 0 where
  pub fits : s.at + r.length + 2 ≤ length f
  pub type : same_bytes (type_of r) (take 3 (drop s.at f)) ≡ true
  pub text : every is_text (take r.length (drop s.at f)) ≡ true
  pub pair : begins_pair (drop (s.at + r.length) f) ≡ true
  pub follows : may_follow (class_in s.class) (class_in r.class) ≡ true
  pub numbers :
      (not asked || same_bytes (slot (class_in r.class) (take r.length (drop s.at f))) (expected (counts_in s.counts) (class_in r.class))) ≡ true

-- after one record more, of that length and class
pub record Next (s : Stand) (l : ℕ) (p : CodeClass) (r : Stand) : Type 0 where
  pub at : r.at ≡ s.at + l + 2
  pub class : r.class ≡ p
  pub counts : counts_in r.counts ≡ count (counts_in s.counts) (class_in p)

-- the place of a fault as code has it
abbrev pub fault_in : CodeOption ℕ → Option ℕ
fault_in None = none
fault_in (Some n) = some n

abbrev pub faults_of : FirstFaults → Faults
faults_of m = record { seven = fault_in m.seven; eight = fault_in m.eight; nine = fault_in m.nine }
