-- `claims::count` meets its contract: the territories before position j have the entry.
use Prim.Native.Nat.{ℕ, ◌<◌, ◌≤◌}
use mathlib.Core.Path.{◌≡◌}
use mathlib.Core.List.{List}
use native.Mathlib.Omega.{arith}
use borrow.Author.Tests.{eq-eqb, ne_eqb}
use lib.ListN.{length}
use Rattle.format.specs.Bytes.{Bytes}
use Rattle.rules.specs.Territories.{territories_in}
use Rattle.rules.proofs.Names.{right-table}
use Rattle.territories.proofs.Laws.{within}
use Rattle.claims.specs.declared.Claim.{Claim}
use Rattle.claims.specs.declared.Taken.{Taken}
use Rattle.claims.proofs.Counting.{Counting, counting-none, counting-small, counting-on, counting-all, counted-ignored, small-each, speaks-at, spoken-before}
use Rattle.claims.proofs.count.Goals as goal

pub returns-then-claim-eq0 : goal.returns-then-claim-eq0
returns-then-claim-eq0 c es counted =
    counted-ignored c.args.table.now es c.args.last c.args.work.now c.args.claim (eq-eqb _ _ c.if-claim-eq0.true) counted

pub loop-j-init : goal.loop-j-init
loop-j-init c = counting-none _ _ _ _

pub group-group-requires : goal.group-group-requires
group-group-requires c =
    let l = c.loop-j in
    within c.args.table.now l.j (omega (arith, c.loop-j-test.true, c.count-n.ensures))

pub group_spoken-requires : goal.group_spoken-requires
group_spoken-requires c =
    let l = c.loop-j in
    let n = c.count-n.ensures in
    let few = (right-table c.args.table.now c.requires.3).few in
    omega (arith, c.loop-j-test.true, n, few, l.auto.work, c.requires.1.long)

pub bounds-work-j : goal.bounds-work-j
bounds-work-j c =
    let l = c.loop-j in
    let few = (right-table c.args.table.now c.requires.3).few in
    omega (arith, c.loop-j-test.true, c.count-n.ensures, few, l.auto.work, c.requires.1.long)

pub offset_bounds-work-j : goal.offset_bounds-work-j
offset_bounds-work-j c =
    let few = (right-table c.args.table.now c.requires.3).few in
    omega (arith, c.loop-j-test.true, c.count-n.ensures, few)

pub with-requires : goal.with-requires
with-requires c =
    let l = c.loop-j in
    let n = c.count-n.ensures in
    let right = right-table c.args.table.now c.requires.3 in
    counting-small c.args.table.now right c.args.claim c.args.last c.args.work.now l.j l.work l.invariant
    c.requires.0 c.requires.1 (omega (arith, c.requires.2)) (omega (arith, c.loop-j-test.true, n))

pub loop-j-preserved : goal.loop-j-preserved
loop-j-preserved c =
    let l = c.loop-j in
    let n = c.count-n.ensures in
    let right = right-table c.args.table.now c.requires.3 in
    let here : l.j < length (territories_in c.args.table.now) = omega (arith, c.loop-j-test.true, n) in
    let so-far = spoken-before c.args.table.now right c.args.claim c.args.last c.args.work.now l.j l.work l.invariant in
    counting-on c.args.table.now right c.args.claim c.args.last c.args.work.now l.j l.work l.invariant _ _
    (rw c.group_spoken.ensures (speaks-at c.args.table.now right c.args.claim l.work l.j _ here c.group-group.ensures.value so-far))
    c.given-given.ensures.value (omega (arith, here, l.auto.work, c.requires.1.long, right.few)) _ c.with.ensures

-- at the end
counted-at : {table : Bytes} {e : Claim} {last j n : ℕ} {old work : List Taken} → j ≤ n → n ≤ j → Counting table e last old j work
    → Counting table e last old n work
counted-at {table} {e} {last} {j} {n} {old} {work} h l c = let z : n ≡ j = omega arith in rw z c

pub returns : goal.returns
returns c es counted =
    let l = c.loop-j in
    let right = right-table c.args.table.now c.requires.3 in
    let some = ne_eqb _ 0 c.if-claim-eq0.false in
    counting-all c.args.table.now right c.args.claim c.args.last c.args.work.now l.work _
    (counted-at l.auto.j-end c.loop-j-test.false l.invariant) some l.auto.work c.count-n.ensures
    (small-each c.args.table.now right c.args.claim c.args.last c.args.work.now _ c.given-given.ensures.value c.given-given.ensures.at_most)
    es counted
