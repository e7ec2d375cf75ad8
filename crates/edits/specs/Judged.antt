-- Internal: what is promised of a judged record.
use Rattle.std.specs.Prelude.{◌≡◌, List}
use Rattle.format.specs.Bytes.{Bytes}
use Rattle.rules.specs.Tables.{Tables}
use Rattle.rules.specs.Findings.{own_findings, set_of, worst}
use Rattle.edits.specs.declared.Found.{Found}

-- the set of its own findings, and the largest verdict among them
pub record Judged (tables : Tables) (before : List Bytes) (r : Bytes) (f : Found) : Type 0 where
  pub set : f.set ≡ set_of (own_findings tables before r)
  pub level : f.level ≡ worst (own_findings tables before r)
