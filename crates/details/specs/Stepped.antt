-- Internal: what is promised of one detail more.
use Rattle.std.specs.Prelude.{List, [], ◌∷◌, ◌++◌}
use Rattle.format.specs.Bytes.{Bytes}
use Rattle.rules.specs.Tables.{Tables}
use Rattle.edits.specs.Judged.{Judged}
use Rattle.tally.specs.Known.{Known}
use Rattle.details.specs.declared.Step.{Step}

-- after the details ds: the findings of r, and what is known with it
pub record Stepped (tables : Tables) (ds : List Bytes) (r : Bytes) (s : Step) : Type 0 where
  pub judged : Judged tables ds r s.found
  pub known : Known s.tally (ds ++ r ∷ [])
