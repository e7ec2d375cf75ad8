-- `claims::first_over` meets its contract: none of the territories before the j-th is over.
use Prim.Native.Nat.{ℕ, ◌-◌, ◌≤◌}
use mathlib.Core.Path.{◌≡◌, refl, sym, ◌∙◌}
use mathlib.Core.Bool.{Bool}
use native.Mathlib.Omega.{arith}
use Rattle.rules.specs.Territories.{territories_in}
use Rattle.rules.proofs.Names.{right-table}
use Rattle.claims.specs.Entries.{is_over_at, first_from}
use Rattle.claims.proofs.Overs.{first-here, first_on, tested, over-start}
use Rattle.claims.proofs.Counting.{small-at}
use Rattle.claims.proofs.first_over.Goals as goal

pub hold_all-requires : goal.hold_all-requires
hold_all-requires c = (c.requires.0, refl)

pub loop-j-init : goal.loop-j-init
loop-j-init c es last counted = over-start _ _ es _ c.count-n.ensures

pub bounds-held-j : goal.bounds-held-j
bounds-held-j c =
    let few = (right-table c.args.table.now c.requires.0).few in
    omega (arith, c.loop-j-test.true, c.count-n.ensures, few)

pub is_over-requires : goal.is_over-requires
is_over-requires c =
    let l = c.loop-j in
    let (es, last, counted, less) = c.requires.1 in
    small-at c.args.table.now es last c.args.work.now counted l.j (omega (arith, c.loop-j-test.true, c.count-n.ensures)) less

pub bounds-work-j : goal.bounds-work-j
bounds-work-j c =
    let (es, last, counted, less) = c.requires.1 in
    let few = (right-table c.args.table.now c.requires.0).few in
    omega (arith, c.loop-j-test.true, c.count-n.ensures, few, counted.long)

pub offset_bounds-work-j : goal.offset_bounds-work-j
offset_bounds-work-j c =
    let few = (right-table c.args.table.now c.requires.0).few in
    omega (arith, c.loop-j-test.true, c.count-n.ensures, few)

pub returns-then-held-j : goal.returns-then-held-j
returns-then-held-j c es last counted =
    let l = c.loop-j in
    let few = (right-table c.args.table.now c.requires.0).few in
    let marked = c.hold_all.ensures in
    let inside = c.loop-j-test.true in
    let over = tested c.args.table.now es last c.args.work.now counted c.args.t l.j
    (omega (arith, inside, c.count-n.ensures)) c.hold_all.new.held _ _ few marked c.is_over.ensures c.if-held-j.true in
    sym (first-here (is_over_at (territories_in c.args.table.now) c.args.t es) l.j (c.count-n.result - l.j) (omega (arith, inside)) over) ∙ l.invariant es last counted

pub loop-j-preserved : goal.loop-j-preserved
loop-j-preserved c es last counted =
    let l = c.loop-j in
    let few = (right-table c.args.table.now c.requires.0).few in
    let marked = c.hold_all.ensures in
    let inside = c.loop-j-test.true in
    let over = tested c.args.table.now es last c.args.work.now counted c.args.t l.j
    (omega (arith, inside, c.count-n.ensures)) c.hold_all.new.held _ _ few marked c.is_over.ensures c.if-held-j.false in
    first_on (is_over_at (territories_in c.args.table.now) c.args.t es) l.j _ inside over ∙ l.invariant es last counted

-- past the last
ended : (p : ℕ → Bool) (j n : ℕ) → j ≤ n → n ≤ j → n ≡ first_from p j (n - j)
ended p j n h l = let z : n - j ≡ 0 = omega arith in rw z (omega arith)

pub returns : goal.returns
returns c es last counted =
    let l = c.loop-j in
    ended (is_over_at (territories_in c.args.table.now) c.args.t es) l.j _ l.auto.j-end c.loop-j-test.false ∙ l.invariant es last counted
