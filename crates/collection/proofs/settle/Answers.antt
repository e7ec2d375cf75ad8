-- `collection::settle` meets its contract.
use Prim.Native.Nat.{ℕ, ◌+◌}
use native.Mathlib.Omega.{arith}
use mathlib.Core.Path.{◌≡◌, refl, ap, ◌∙◌}
use lib.Dec.{ltb}
use Rattle.std.specs.Option.{option_or}
use lib.ListN.{length}
use Rattle.rules.specs.Territories.{territories_in}
use Rattle.collection.specs.declared.Walk.{Walk}
use Rattle.collection.specs.Walk.{or_over}
use Rattle.collection.proofs.Owed.{settled}
use Rattle.collection.proofs.Found.{is-over, told_with}
use Rattle.collection.proofs.settle.Goals as goal

pub set_47-requires : goal.set_47-requires
set_47-requires c =
    let (m, f, t, first, v', g', o, lent, doubts) = c.requires in
    omega (arith, lent.in_g, doubts.ends, doubts.standing.position.left)

pub raise-requires : goal.raise-requires
raise-requires c =
    let (m, f, t, first, v', g', o, lent, doubts) = c.requires in
    (omega (arith, doubts.ends), omega (arith, lent.in_v, doubts.standing.position.left))

pub overflow_add-result : goal.overflow_add-result
overflow_add-result c =
    let (m, f, t, first, v', g', o, lent, doubts) = c.requires in
    omega (arith, lent.few, doubts.numbered, doubts.ends, doubts.standing.position.left)

pub returns : goal.returns
returns c =
    let a = c.args in
    let n = c.count.ensures in
    let test = ltb a.over c.count.result in
    let same : test ≡ ltb a.over (length (territories_in a.table.now)) = ap (λ (k : ℕ). ltb a.over k) n in
    let after : Walk = record { at = a.w.at; index = a.w.index; number = a.w.number + 1; over = c.or.result; header = a.w.header } in
    record {
      owes = λ f t m first v' g' o doubts is.
          let found = told_with f a.table.now t first a.over is a.w.over a.w.number test same in
          rw (c.raise.ensures, c.set_47.ensures)
          (settled doubts after refl refl refl test (same ∙ is-over f a.table.now t first a.over is)
          (λ later. ap (λ x. or_over x later) (c.or.ensures ∙ ap (option_or a.w.over) c.then_some-here.ensures) ∙ found later));
      at_value = refl;
    }
