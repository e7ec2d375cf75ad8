-- `territories::groups_earlier` meets its contract: the entries from the k-th on decide.
use Prim.Native.Nat.{◌≤◌}
use mathlib.Core.Path.{refl, sym, ap, ◌∙◌}
use native.Mathlib.Omega.{arith}
use borrow.Author.Tests.{not-true, not-false}
use lib.ListN.{length, drop_of_length-le}
use Rattle.rules.specs.Territories.{territories_in, groups_earlier}
use Rattle.rules.proofs.Names.{length-territories}
use Rattle.territories.proofs.Places.{groups-stop, groups-on}
use Rattle.territories.proofs.groups_earlier.Goals as goal

pub loop-k-init : goal.loop-k-init
loop-k-init c = refl

pub group-position-requires : goal.group-position-requires
group-position-requires c = let g = c.args in omega (arith, length-territories g.table.now)

pub returns-then-not-earlier : goal.returns-then-not-earlier
returns-then-not-earlier c =
    let l = c.loop-k in
    let g = c.args in
    groups-stop (territories_in g.table.now) l.k _ (omega arith) c.group-position.ensures.value (not-true _ c.if-not-earlier.true-raw) ∙ l.invariant

pub loop-k-preserved : goal.loop-k-preserved
loop-k-preserved c =
    let l = c.loop-k in
    let g = c.args in
    groups-on (territories_in g.table.now) l.k _ (omega arith) c.group-position.ensures.value (not-false _ c.if-not-earlier.false-raw) ∙ l.invariant

pub returns : goal.returns
returns c =
    let l = c.loop-k in
    let g = c.args in
    let past : length (territories_in g.table.now) ≤ l.k = omega arith in
    sym (ap (groups_earlier l.k) (drop_of_length-le (territories_in g.table.now) past)) ∙ l.invariant
