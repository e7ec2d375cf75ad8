-- `territories::find` meets its contract: the hinted entry is this code's, or its position is looked for.
use mathlib.Core.Path.{sym, ◌∙◌}
use native.Mathlib.Omega.{arith}
use borrow.Author.Rules.{rules}
use Rattle.rules.specs.Territories.{territories_in, codes_of}
use Rattle.rules.proofs.Names.{length-territories, right-table}
use Rattle.territories.proofs.Laws.{length-codes, at_place}
use Rattle.territories.proofs.find.Goals as goal

pub is_at-requires : goal.is_at-requires
is_at-requires c =
    let g = c.args in
    (omega (arith, length-territories g.table.now), search rules)

pub returns-then-is_at : goal.returns-then-is_at
returns-then-is_at c =
    let table = c.args.table.now in
    at_place c.args.code.now (codes_of (territories_in table)) (right-table table c.requires.0).once _ (omega (arith, length-codes (territories_in table)))
    (sym c.is_at.ensures ∙ c.if-is_at.true)
