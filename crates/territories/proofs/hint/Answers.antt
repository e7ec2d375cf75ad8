-- `territories::hint` meets its contract: the codes before the k-th have their hints.
use mathlib.Core.Path.{ap, ◌∙◌}
use native.Mathlib.Omega.{arith}
use lib.ListN.{length-set}
use Rattle.rules.specs.Territories.{territories_in, codes_of}
use Rattle.territories.specs.Positions.{slot_of}
use Rattle.rules.proofs.Names.{length-territories}
use Rattle.territories.proofs.Laws.{length-codes}
use Rattle.territories.proofs.Places.{hint-on}
use Rattle.territories.proofs.hint.Goals as goal

pub loop-k-init : goal.loop-k-init
loop-k-init c long = (long, λ j h. absurd (omega arith))

pub code_at-requires : goal.code_at-requires
code_at-requires c = let g = c.args in omega (arith, length-territories g.table.now)

pub overflow_cast-hints : goal.overflow_cast-hints
overflow_cast-hints c = omega (arith, c.requires)

pub loop-k-preserved : goal.loop-k-preserved
loop-k-preserved c long =
    let l = c.loop-k in
    let g = c.args in
    let so_far = l.invariant long in (
      simp length-set so_far.0,
      hint-on (codes_of (territories_in g.table.now)) l.hints l.k c.slot.result so_far.1
          (c.slot.ensures.value ∙ ap slot_of c.code_at.ensures.result_value) (omega (arith, so_far.0, c.slot.ensures.upper_bound)),
    )

pub returns : goal.returns
returns c long j h =
    let l = c.loop-k in
    let g = c.args in
    (l.invariant long).1 j (omega (arith, length-codes (territories_in g.table.now)))
