-- An edition's table of record types: the place, the length and the number positions of each type's records.
use Rattle.std.specs.Prelude.{ℕ, ◌+◌, ◌-◌, ◌≤◌, Bool, true, false, cond, ◌&&◌, List, [], ◌∷◌, T, leb}
use Rattle.std.proofs.Common.{leb→le}
use Rattle.format.specs.Bytes.{Bytes, same_bytes}

-- the places that records take; `unknown` is no type of the edition, and also what stands before the first record
pub data Class : Type 0 where
  hdr grh head detail grt trl unknown : Class

abbrev pub known : Class → Bool
known hdr = true
known grh = true
known head = true
known detail = true
known grt = true
known trl = true
known unknown = false

-- where a record of the class has its numbers: their start, counted from 1, and how many bytes they take
abbrev pub start : Class → ℕ
start hdr = 4
start grh = 7
start head = 4
start detail = 4
start grt = 4
start trl = 4
start unknown = 4

abbrev pub width : Class → ℕ
width hdr = 0
width grh = 5
width head = 8 + 8
width detail = 8 + 8
width grt = 5 + 8 + 8
width trl = 5 + 8 + 8
width unknown = 0

-- the bytes before them
abbrev pub at : Class → ℕ
at c = start c - 1

-- an edition: class and length by the three type bytes, the test of HDR (10), and that the numbers lie within the records
pub record Table : Type 0 where
  pub class : Bytes → Class
  pub len : Bytes → ℕ
  pub version : Bytes → Bool
  pub inside : (type : Bytes) → T (known (class type)) → at (class type) + width (class type) ≤ len type

-- ---- a table from its rows

-- type, length, place
pub data Row : Type 0 where
  row : Bytes → ℕ → Class → Row

abbrev pub len_of : Row → ℕ
len_of (row type n c) = n

abbrev pub class_of : Row → Class
class_of (row type n c) = c

abbrev pub no_type : Row
no_type = row [] 0 unknown

-- the first row of that type
abbrev pub row_of : List Row → Bytes → Row
row_of [] type = no_type
row_of (row u n c ∷ rows) type = cond (same_bytes u type) (row u n c) (row_of rows type)

-- one test over the whole table says that the numbers lie within the records
abbrev pub all_inside : List Row → Bool
all_inside [] = true
all_inside (row type n c ∷ rows) = leb (at c + width c) n && all_inside rows

abbrev pub Inside : Row → Type 0
Inside r = T (known (class_of r)) → at (class_of r) + width (class_of r) ≤ len_of r

pub inside : (rows : List Row) → T (all_inside rows) → (type : Bytes) → Inside (row_of rows type)
inside [] q type = λ k. absurd k
inside (row u n c ∷ rows) q type = go (same_bytes u type) (leb (at c + width c) n) (leb→le (at c + width c) n) q (λ p. inside rows p type)
  where
    go : (b m : Bool) → (T m → at c + width c ≤ n) → T (m && all_inside rows) → (T (all_inside rows) → Inside (row_of rows type))
        → Inside (cond b (row u n c) (row_of rows type))
    go true true w p rest k = w tt
    go true false w p rest k = absurd p
    go false true w p rest k = rest p k
    go false false w p rest k = absurd p

abbrev pub table_of : (rows : List Row) → (Bytes → Bool) → T (all_inside rows) → Table
table_of rows version q =
    record { class = λ type. class_of (row_of rows type); len = λ type. len_of (row_of rows type); version = version; inside = inside rows q }
