-- `sheet::Missed::with` meets its contract: each figure is its own call's, and what the code reads back from a sum's bits is the sum.
-- Assumes nothing.
use mathlib.Core.Path.{◌∙◌}
use borrow.Author.Rules.{rules}
use lib.IntN.{◌+ℤ◌}
use mir.Syntax.{w64}
use mir.Val.{SFits}
use mir.ValLaws.{to_z-of_z}
use Rattle.rules.specs.Sheet.{within}
use Rattle.sheet.proofs.Stops.{plus-is, within-is, larger-is}
use Rattle.sheet.proofs.Missed.with.Goals as goal

pub returns : goal.returns
returns c =
    let (a, b) : SFits w64 c.args.self.sum × SFits w64 c.args.m.sum = (search rules, search rules) in
    let added = c.saturating_add-2 in
    let sum =
    to_z-of_z w64 added.result (record { sfits = added.type_inv }) ∙ added.ensures ∙ within-is _
    ∙ (λ i. within (to_z-of_z w64 c.args.self.sum a i +ℤ to_z-of_z w64 c.args.m.sum b i))
    in
    λ i. record {
      transactions = (c.saturating_add.ensures ∙ plus-is _ _) i;
      shortfall = (c.max.ensures ∙ larger-is _ _) i;
      excess = (c.max-2.ensures ∙ larger-is _ _) i;
      sum = sum i;
    }
