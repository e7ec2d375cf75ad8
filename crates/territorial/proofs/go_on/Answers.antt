-- `territorial::go_on` meets its contract. Assumes nothing.
use mathlib.Core.Path.{◌∙◌}
use Rattle.territorial.proofs.Begun.{still-lent, gone-on, fewer-steps}
use Rattle.territorial.proofs.go_on.Goals as goal

pub settle-settled-requires : goal.settle-settled-requires
settle-settled-requires c =
    let (first, tables, room, v₀, g₀, going, e, counted) = c.requires in
    (going.m, c.args.file.now, c.args.tolerance, first, going.v', going.g', _, going.lent, going.reached.doubts first e)

pub seek-requires : goal.seek-requires
seek-requires c =
    let (first, tables, room, v₀, g₀, going, e, counted) = c.requires in
    let owes = c.settle-settled.ensures.owes _ _ _ _ _ _ _ (going.reached.doubts first e) counted in (
      going.m,
      still-lent going e c.settle-settled.auto.verdicts c.settle-settled.auto.findings,
      owes.standing,
    )

pub returns : goal.returns
returns c =
    let (first, tables₀, room₀, v, g, going₀, e, counted) = c.requires in
    record {
      going = λ tables room v₀ g₀ going.
          gone-on going e
          (c.seek.auto.verdicts ∙ c.settle-settled.auto.verdicts) (c.seek.auto.findings ∙ c.settle-settled.auto.findings)
          c.seek.result
          (c.seek.ensures.by_index _ _ _ _ (c.settle-settled.ensures.owes _ _ _ _ _ _ _ (going.reached.doubts first e) counted));
      fewer_steps = fewer-steps going₀ e c.seek.result _ c.settle-settled.ensures.at_value c.seek.ensures.result_bound;
    }
