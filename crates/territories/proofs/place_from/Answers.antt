-- `territories::place_from` meets its contract: the entries from the k-th on decide.
use mathlib.Core.Path.{◌≡◌, refl, sym, ◌∙◌}
use native.Mathlib.Omega.{arith}
use borrow.Author.Rules.{rules}
use Rattle.rules.specs.Territories.{territories_in, codes_of}
use Rattle.rules.proofs.Names.{length-territories}
use Rattle.territories.proofs.Laws.{length-codes}
use Rattle.territories.proofs.Places.{place_here, place-on, place_end}
use Rattle.territories.proofs.place_from.Goals as goal

pub loop-k-init : goal.loop-k-init
loop-k-init c = refl

pub is_at-requires : goal.is_at-requires
is_at-requires c =
    let g = c.args in
    (omega (arith, length-territories g.table.now), search rules)

pub returns-then-is_at : goal.returns-then-is_at
returns-then-is_at c =
    let l = c.loop-k in
    let g = c.args in
    place_here g.code.now (codes_of (territories_in g.table.now)) l.k
    (omega (arith, length-codes (territories_in g.table.now))) (sym c.is_at.ensures ∙ c.if-is_at.true)
    ∙ l.invariant

pub loop-k-preserved : goal.loop-k-preserved
loop-k-preserved c =
    let l = c.loop-k in
    let g = c.args in
    place-on g.code.now (codes_of (territories_in g.table.now)) l.k
    (omega (arith, length-codes (territories_in g.table.now))) (sym c.is_at.ensures ∙ c.if-is_at.false)
    ∙ l.invariant

pub returns : goal.returns
returns c =
    let l = c.loop-k in
    let g = c.args in
    let last : c.count-end.result ≡ l.k = omega arith in
    last ∙ place_end g.code.now (codes_of (territories_in g.table.now)) l.k (omega (arith, length-codes (territories_in g.table.now))) ∙ l.invariant
