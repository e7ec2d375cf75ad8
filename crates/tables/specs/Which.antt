-- Internal: of the table that a code is looked up in, how long its codes are, its bytes, and where its part of the index begins.
use Rattle.std.specs.Prelude.{ℕ, ◌+◌}
use Rattle.format.specs.Bytes.{Bytes}
use Rattle.rules.specs.Tables.{Tables, language_size, society_size, category_size}
use Rattle.tables.specs.declared.Table.{Table}
use Rattle.tables.specs.Index.{part_size}

abbrev pub size_of : Table → ℕ
size_of Table.Languages = language_size
size_of Table.Societies = society_size
size_of Table.Categories = category_size

abbrev pub table_of : Table → Tables → Bytes
table_of Table.Languages lent = lent.languages
table_of Table.Societies lent = lent.societies
table_of Table.Categories lent = lent.categories

abbrev pub first_of : Table → ℕ
first_of Table.Languages = 0
first_of Table.Societies = part_size
first_of Table.Categories = part_size + part_size
