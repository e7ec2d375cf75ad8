-- `territories::again` meets its contract.
use Prim.Native.Nat.{◌+◌}
use mathlib.Core.Path.{sym, ap, ◌∙◌}
use native.Mathlib.Omega.{arith}
use borrow.Author.Tests.{eq-eqb}
use lib.ListN.{get_or}
use Rattle.rules.specs.Territories.{territories_in, codes_of}
use Rattle.territories.specs.Positions.{slot_of}
use Rattle.rules.proofs.Names.{length-territories}
use Rattle.territories.proofs.Laws.{length-codes}
use Rattle.territories.proofs.Places.{again-from, not-again}
use Rattle.territories.proofs.again.Goals as goal

pub returns-else-hint_of-k : goal.returns-else-hint_of-k
returns-else-hint_of-k c =
    let g = c.args in
    let table = g.table.now in
    rw (eq-eqb _ _ c.if-hint_of-k.false)
    (sym
    (not-again (codes_of (territories_in table)) g.hints.now c.requires.1 g.k (omega (arith, length-territories table, length-codes (territories_in table)))
    (ap (λ s. get_or g.hints.now (slot_of s) 0) (sym c.code_at-code.ensures.result_value) ∙ sym c.hint_of.ensures ∙ c.if-hint_of-k.false)))

pub returns-then-hint_of-k : goal.returns-then-hint_of-k
returns-then-hint_of-k c =
    let g = c.args in
    let table = g.table.now in
    rw (c.place_from.ensures, c.code_at-code.ensures.result_value, c.count.ensures, ← length-codes (territories_in table))
    (again-from _ (codes_of (territories_in table)) (g.k + 1) (omega (arith, length-territories table, length-codes (territories_in table))))
