-- `territories::any_twice` meets its contract: the entries from the k-th on decide.
use Prim.Native.Nat.{ℕ, ◌≤◌}
use mathlib.Core.Path.{refl, sym, ap, ◌∙◌}
use native.Mathlib.Omega.{arith}
use lib.ListN.{length, drop_of_length-le, length-replicate}
use Rattle.rules.specs.Territories.{territories_in, codes_of, any_twice}
use Rattle.territories.specs.Positions.{hint_count}
use Rattle.rules.proofs.Names.{length-territories}
use Rattle.territories.proofs.Laws.{length-codes}
use Rattle.territories.proofs.Places.{twice-stop, twice-on}
use Rattle.territories.proofs.any_twice.Goals as goal

pub loop-k-init : goal.loop-k-init
loop-k-init c = refl

pub again-requires : goal.again-requires
again-requires c =
    let g = c.args in
    (omega (arith, length-territories g.table.now), c.hint.ensures (length-replicate {A = ℕ} hint_count 0))

pub returns-then-again : goal.returns-then-again
returns-then-again c =
    let l = c.loop-k in
    let g = c.args in
    let codes = codes_of (territories_in g.table.now) in
    twice-stop codes l.k (omega (arith, length-codes (territories_in g.table.now))) (sym c.again.ensures ∙ c.if-again.true) ∙ l.invariant

pub loop-k-preserved : goal.loop-k-preserved
loop-k-preserved c =
    let l = c.loop-k in
    let g = c.args in
    let codes = codes_of (territories_in g.table.now) in
    twice-on codes l.k (omega (arith, length-codes (territories_in g.table.now))) (sym c.again.ensures ∙ c.if-again.false) ∙ l.invariant

pub returns : goal.returns
returns c =
    let l = c.loop-k in
    let g = c.args in
    let codes = codes_of (territories_in g.table.now) in
    let past : length codes ≤ l.k = omega (arith, length-codes (territories_in g.table.now)) in
    sym (ap any_twice (drop_of_length-le codes past)) ∙ l.invariant
