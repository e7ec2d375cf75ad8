-- Internal: where a walk stands in a file that is right by 4, 6 and 7. Later walks speak of the records that are left, and of offsets only
-- here.
use Rattle.std.specs.Prelude.{◌≡◌, true, List, ℕ, ◌+◌, ◌≤◌, length, take, drop}
use Rattle.format.specs.Bytes.{Bytes}
use Rattle.format.specs.Table.{Class}
use Rattle.format.specs.Cwr22.{cwr22}
use Rattle.format.specs.Lines.{lines}
use Rattle.format.specs.Checks.{check6, check7, cls, may_follow, Along, AlongFrom}
use Rattle.format.specs.Numbering.{records_in}
use Rattle.kinds.specs.declared.Row.{Row}
use Rattle.kinds.specs.Rows.{class_in, row_for}
use Rattle.structure.specs.Rest.{is_good}

-- at byte i of the file, after a record of class c, the records rs begin
pub record Here (f : Bytes) (i : ℕ) (c : Class) (rs : List Bytes) : Type 0 where
  pub within : i ≤ length f
  pub good : is_good (lines (drop i f)) ≡ true
  pub left : records_in (lines (drop i f)) ≡ rs
  pub typed : Along (check6 cwr22) rs
  pub placed : AlongFrom (check7 cwr22) c rs

-- the record r of that row stands at byte i, after one of class c; after its CR LF the records rs begin
pub record First (f : Bytes) (i : ℕ) (c : Class) (row : Row) (r : Bytes) (rs : List Bytes) : Type 0 where
  pub ends : i + row.length + 2 ≤ length f
  pub bytes : take row.length (drop i f) ≡ r
  pub long : length r ≡ row.length
  pub three : 3 ≤ row.length
  pub own : row ≡ row_for (take 3 r)
  pub class : cls cwr22 r ≡ class_in row.class
  pub follows : may_follow c (cls cwr22 r) ≡ true
  pub next : Here f (i + row.length + 2) (cls cwr22 r) rs
