-- `collection::read` meets its contract.
use mathlib.Core.Path.{ap, ◌∙◌}
use native.Mathlib.Omega.{arith}
use Rattle.rules.specs.Territories.{territories_in, codes_of}
use Rattle.rules.proofs.Names.{right-table}
use Rattle.territories.specs.Positions.{place_of}
use Rattle.territories.proofs.Laws.{place-within, length-codes}
use Rattle.collection.proofs.read.Goals as goal

pub entry-requires : goal.entry-requires
entry-requires c =
    let place = c.find-place.ensures in
    let T = territories_in c.args.places.table.now in
    let few = (right-table c.args.places.table.now c.args.places.right).few in
    omega (arith, place, place-within c.code.result.now (codes_of T), length-codes T, few)

pub returns : goal.returns
returns c =
    let T = territories_in c.args.places.table.now in
    c.entry.ensures T (c.find-place.ensures ∙ ap (λ code. place_of code (codes_of T)) c.code.ensures.result_value)
    c.count.ensures
