-- Internal: what the marks say of a transaction's details.
use Rattle.std.specs.Prelude.{◌≡◌, Bool, ◌||◌, List}
use Rattle.format.specs.Bytes.{Bytes}
use Rattle.rules.specs.Records.{is_type, is_writer, any}
use Rattle.rules.specs.Writers.{any_writer, creators, changers, authors}
use Rattle.rules.specs.Works.{several}
use Rattle.tally.specs.declared.marks.Marks.{Marks}

abbrev pub is_instrument : Bytes → Bool
is_instrument r = is_type "INS" r || is_type "IND" r

pub record Marked (m : Marks) (ds : List Bytes) : Type 0 where
  pub writer : m.writer ≡ any is_writer ds
  pub creator : m.creator ≡ any_writer creators ds
  pub changer : m.changer ≡ any_writer changers ds
  pub author : m.author ≡ any_writer authors ds
  pub instrument : m.instrument ≡ any is_instrument ds
  pub ewt : m.ewt ≡ any (is_type "EWT") ds
  pub ewts : m.ewts ≡ several "EWT" ds
  pub ver : m.ver ≡ any (is_type "VER") ds
  pub vers : m.vers ≡ several "VER" ds
