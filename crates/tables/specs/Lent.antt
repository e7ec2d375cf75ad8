-- The three tables that a call is lent, as the rules speak of them.
use Rattle.rules.specs.Tables.{Tables as RulesTables, tables_of}
use Rattle.tables.specs.declared.Tables.{Tables}

abbrev pub lent_in : Tables → RulesTables
lent_in t = tables_of t.languages.now t.societies.now t.categories.now
