-- `text::next_eight` meets its contract: the digits that are left, grown by one, and the zeros after them are the next number's.
use native.Mathlib.Omega.{arith}
use Rattle.text.proofs.Words.{carry-start, carry-on, carry-end}
use Rattle.text.proofs.next_eight.Goals as goal

pub loop-i-init : goal.loop-i-init
loop-i-init c = carry-start c.args.n c.args.word c.requires

pub overflow_mul-unit : goal.overflow_mul-unit
overflow_mul-unit c = omega (arith, c.loop-i.invariant.small)

pub overflow_mul-zeros : goal.overflow_mul-zeros
overflow_mul-zeros c = omega (arith, c.loop-i.invariant.small)

pub overflow_add-zeros : goal.overflow_add-zeros
overflow_add-zeros c =
    let l = c.loop-i in
    omega (arith, (carry-on c.args.n l.number l.rest l.unit l.zeros l.i l.invariant c.loop-i-test.true).2)

pub overflow_mul-rest : goal.overflow_mul-rest
overflow_mul-rest c = omega (arith, c.loop-i.invariant.small)

pub overflow_sub-rest : goal.overflow_sub-rest
overflow_sub-rest c =
    let l = c.loop-i in
    (carry-on c.args.n l.number l.rest l.unit l.zeros l.i l.invariant c.loop-i-test.true).1

pub overflow_sub-i : goal.overflow_sub-i
overflow_sub-i c =
    let l = c.loop-i in
    (carry-on c.args.n l.number l.rest l.unit l.zeros l.i l.invariant c.loop-i-test.true).0

pub loop-i-smaller : goal.loop-i-smaller
loop-i-smaller c =
    let l = c.loop-i in
    omega (arith, (carry-on c.args.n l.number l.rest l.unit l.zeros l.i l.invariant c.loop-i-test.true).0)

pub loop-i-preserved : goal.loop-i-preserved
loop-i-preserved c =
    let l = c.loop-i in
    (carry-on c.args.n l.number l.rest l.unit l.zeros l.i l.invariant c.loop-i-test.true).3

pub overflow_add-result : goal.overflow_add-result
overflow_add-result c =
    let l = c.loop-i in
    omega (arith, (carry-end c.args.n l.number l.rest l.unit l.zeros l.i l.invariant c.loop-i-test.false).1)

pub overflow_add-result-2 : goal.overflow_add-result-2
overflow_add-result-2 c =
    let l = c.loop-i in
    omega (arith, (carry-end c.args.n l.number l.rest l.unit l.zeros l.i l.invariant c.loop-i-test.false).1)

pub returns : goal.returns
returns c =
    let l = c.loop-i in
    (carry-end c.args.n l.number l.rest l.unit l.zeros l.i l.invariant c.loop-i-test.false).0
