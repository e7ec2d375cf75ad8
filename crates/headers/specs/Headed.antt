-- Internal: what is known of a transaction's chains, and what is promised of its header.
use Rattle.std.specs.Prelude.{◌≡◌, Bool, List, ℕ}
use Rattle.format.specs.Bytes.{Bytes}
use Rattle.format.specs.Doc.{Transaction}
use Rattle.rules.specs.Tables.{Tables}
use Rattle.rules.specs.Chains.{is11, is12, is13, is14}
use Rattle.rules.specs.Findings.{set_of, worst}
use Rattle.rules.specs.Works.{is0, header_findings}
use Rattle.rules.specs.Verdicts.{rejects}
use Rattle.headers.specs.declared.Links.{Links}
use Rattle.headers.specs.declared.Head.{Head}

-- findings 11 to 14 of the details
pub record Linked (l : Links) (ds : List Bytes) : Type 0 where
  pub many : l.many ≡ is11 ds
  pub shareless : l.shareless ≡ is12 ds
  pub joined : l.joined ≡ is13 ds
  pub kept : l.kept ≡ is14 ds

-- h has the set of these findings and the largest verdict, and says whether one rejects the transaction; and it says whether 0 holds
pub record Gathered (findings : List Bool) (zeroth : Bool) (h : Head) : Type 0 where
  pub set : h.set ≡ set_of findings
  pub level : h.level ≡ worst findings
  pub rejects : h.rejects ≡ rejects findings
  pub stray : h.stray ≡ zeroth

-- of a transaction's header, under a GRH that names a type
abbrev pub Headed : Tables → ℕ → Bytes → Transaction → Head → Type 0
Headed tables t named x h = Gathered (header_findings tables t named x) (is0 named x.header) h
