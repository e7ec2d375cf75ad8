-- `text::number` meets its contract: n is what the bytes passed write, and has at most as many digits as they are.
use native.Mathlib.Omega.{arith}
use mathlib.Core.Path.{refl}
use lib.Dec.{lit<}
use Rattle.format.specs.Fields.{number_of}
use Rattle.text.proofs.Laws.{number_small, number-on, number-end}
use Rattle.text.proofs.number.Goals as goal

pub loop-b-init : goal.loop-b-init
unfolding number_of
loop-b-init c = (omega arith, lit< tt, refl)

pub overflow_mul-n : goal.overflow_mul-n
overflow_mul-n c = let l = c.loop-b in omega (arith, number_small _ l.n l.b-index l.invariant (omega arith) (omega arith))

pub overflow_add-n : goal.overflow_add-n
overflow_add-n c =
    let l = c.loop-b in
    omega (arith, number_small _ l.n l.b-index l.invariant (omega arith) (omega arith))

pub loop-b-preserved : goal.loop-b-preserved
loop-b-preserved c =
    let l = c.loop-b in
    let d = c.digit in
    number-on _ l.n l.b-index l.invariant d.result c.loop-b-test.true d.ensures.value d.ensures.upper_bound

pub returns : goal.returns
returns c = let told = let l = c.loop-b in number-end _ l.n l.b-index l.invariant c.loop-b-test.false in record { value = told.0; upper_bound = told.1 }
