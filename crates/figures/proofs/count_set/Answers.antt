-- `figures::count_set` meets its contract. Assumes nothing.
use native.Mathlib.Omega.{arith}
use borrow.Author.Rules.{rules}
use lib.Count.{count_trailing_zeros}
use Rattle.figures.proofs.Records.{owing-all, few-yet, lowest-in, bit-of, bit_in, bit-some, owing-more, owing-none}
use Rattle.figures.proofs.count_set.Goals as goal

pub loop-left-init : goal.loop-left-init
loop-left-init c = owing-all c.args.findings.now c.args.set (search rules) c.ranges.set.fits

-- the lowest that is left is one of 64
pub overflow_cast-i : goal.overflow_cast-i
overflow_cast-i c = omega (arith, lowest-in c.loop-left.invariant c.loop-left-test.true)

pub offset_bounds-findings-i : goal.offset_bounds-findings-i
offset_bounds-findings-i c = omega (arith, lowest-in c.loop-left.invariant c.loop-left-test.true)

pub bounds-findings-i : goal.bounds-findings-i
bounds-findings-i c = omega (arith, lowest-in c.loop-left.invariant c.loop-left-test.true, c.loop-left.invariant.length)

pub overflow_add-findings : goal.overflow_add-findings
overflow_add-findings c = let l = c.loop-left in omega (arith, few-yet l.invariant c.requires (count_trailing_zeros 64 l.left))

pub bounds-findings-i-in-loop-left : goal.bounds-findings-i-in-loop-left
bounds-findings-i-in-loop-left c = omega (arith, lowest-in c.loop-left.invariant c.loop-left-test.true, c.loop-left.invariant.length)

pub overflow_shl-left : goal.overflow_shl-left
overflow_shl-left c = omega (arith, lowest-in c.loop-left.invariant c.loop-left-test.true)

pub overflow_sub-left : goal.overflow_sub-left
overflow_sub-left c =
    let l = c.loop-left in
    let some = c.loop-left-test.true in
    omega (arith, bit-of l.invariant some, bit_in l.invariant some)

pub loop-left-smaller : goal.loop-left-smaller
loop-left-smaller c =
    let l = c.loop-left in
    let some = c.loop-left-test.true in
    omega (arith, bit-of l.invariant some, bit_in l.invariant some, bit-some l.left)

pub loop-left-preserved : goal.loop-left-preserved
loop-left-preserved c = owing-more c.loop-left.invariant c.loop-left-test.true

pub returns : goal.returns
returns c = owing-none c.loop-left.invariant c.loop-left-test.false
