-- The tables that a code is looked up in: three that the caller lends, and two that are fixed.
use Rattle.std.specs.Prelude.{ℕ, zero, suc, ◌/◌, ◌%◌, Bool, ◌&&◌, List, [], ◌∷◌, leb, eqb, length, take, drop}
use Rattle.format.specs.Ascii.{ascii}
use Rattle.format.specs.Bytes.{Bytes, among}

-- ---- lent, in this order; any order of entries, repeats and emptiness allowed

pub record Tables : Type 0 where
  pub languages : Bytes
  pub societies : Bytes
  pub categories : Bytes

abbrev pub tables_of : Bytes → Bytes → Bytes → Tables
tables_of languages societies categories = record { languages = languages; societies = societies; categories = categories }

abbrev pub language_size : ℕ
language_size = 2

abbrev pub society_size : ℕ
society_size = 3

abbrev pub category_size : ℕ
category_size = 3

abbrev pub most_entries : ℕ
most_entries = 1024

-- 2: the length is a multiple of the entry size, and there are at most 1,024 entries
unfoldable pub right_table : ℕ → Bytes → Bool
right_table size table = eqb (length table % size) 0 && leb (length table / size) most_entries

-- so many entries, one after the other
abbrev pub first_entries : ℕ → ℕ → Bytes → List Bytes
first_entries zero size table = []
first_entries (suc n) size table = take size table ∷ first_entries n size (drop size table)

unfoldable pub entries : ℕ → Bytes → List Bytes
entries size table = first_entries (length table / size) size table

-- a code of that size stands in the table
unfoldable pub is_in : ℕ → Bytes → Bytes → Bool
is_in size table code = among code (entries size table)

-- ---- fixed; one letter is followed by a space

abbrev pub publisher_types : List Bytes
publisher_types = ascii "E " ∷ ascii "AQ" ∷ ascii "AM" ∷ ascii "PA" ∷ ascii "SE" ∷ ascii "ES" ∷ []

abbrev pub designations : List Bytes
designations =
    ascii "CA"
    ∷ ascii "A "
    ∷ ascii "C "
    ∷ ascii "AR"
    ∷ ascii "AD"
    ∷ ascii "SR"
    ∷ ascii "SA"
    ∷ ascii "TR"
    ∷ ascii "PA"
    ∷ []
