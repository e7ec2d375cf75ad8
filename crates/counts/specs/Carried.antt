-- Internal: the numbers of a record as digits, where they stand, and which a record has to carry.
use Rattle.std.specs.Prelude.{ℕ, ◌+◌, ◌-◌, ◌≡◌, [], ◌++◌, length, take, drop}
use Rattle.format.specs.Bytes.{Bytes, decimal, bytes_of}
use Rattle.format.specs.Table.{Class, at, width}
use Rattle.format.specs.Checks.{Counts, expected}
use Rattle.counts.specs.declared.Numbers.{Numbers}
use Rattle.counts.specs.declared.Numbers.TheVariants.{Nothing, Group, Prefix, Closing, Totals}

-- two numbers beside one another, and two words
unfoldable pub pair : ℕ → ℕ → Bytes
pair m r = decimal 8 m ++ decimal 8 r

unfoldable pub words : ℕ → ℕ → Bytes
words m r = bytes_of 8 m ++ bytes_of 8 r

abbrev pub digits_of : Numbers → Bytes
digits_of Nothing = []
digits_of (Group g) = decimal 5 g
digits_of (Prefix m r) = words m r
digits_of (Closing g m r) = decimal 5 g ++ words m r
digits_of (Totals g m r) = decimal 5 g ++ pair m r

-- where they start, counted from 1, and how many bytes they take
abbrev pub start_of : Numbers → ℕ
start_of Nothing = 4
start_of (Group g) = 7
start_of (Prefix m r) = 4
start_of (Closing g m r) = 4
start_of (Totals g m r) = 4

abbrev pub size_of : Numbers → ℕ
size_of Nothing = 0
size_of (Group g) = 5
size_of (Prefix m r) = 8 + 8
size_of (Closing g m r) = 5 + (8 + 8)
size_of (Totals g m r) = 5 + (8 + 8)

-- they are what the format expects of a record of the class, and stand where it has them
pub record Carried (n : Counts) (c : Class) (r : Numbers) : Type 0 where
  pub right : digits_of r ≡ expected n c
  pub start : start_of r - 1 ≡ at c
  pub wide : size_of r ≡ width c

-- s with x over it from a start, counted from 1
unfoldable pub over : ℕ → Bytes → Bytes → Bytes
over start x s = take (start - 1) s ++ x ++ drop (start - 1 + length x) s
