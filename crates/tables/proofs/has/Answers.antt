-- `tables::has` meets its contract.
use mathlib.Core.Path.{◌∙◌}
use native.Mathlib.Omega.{arith}
use Rattle.rules.specs.Tables.{is_in}
use Rattle.tables.proofs.Parts.{found, no-hint, searched, part_of}
use Rattle.tables.proofs.has.Goals as goal

pub returns-then-hinted-eq0 : goal.returns-then-hinted-eq0
unfolding is_in
returns-then-hinted-eq0 c lent indexed =
    no-hint _ _ _ _ (part_of c.args.table lent _ _ c.first-first.ensures.value indexed) _
    (rw (← c.key-wanted.ensures.value, ← c.hint.ensures.value) c.if-hinted-eq0.true)

pub returns-then-hinted-wanted : goal.returns-then-hinted-wanted
unfolding is_in
returns-then-hinted-wanted c lent indexed =
    found _ _ _ _ (part_of c.args.table lent _ _ c.first-first.ensures.value indexed) _ (record { long = c.requires; bytes = c.key-wanted.ensures.are_bytes }) _
    (omega arith) (omega (arith, c.hint.ensures.upper_bound)) (c.if-hinted-wanted.true ∙ c.key-wanted.ensures.value)

pub returns : goal.returns
unfolding is_in
returns c lent indexed =
    searched _ _ _ _ (part_of c.args.table lent _ _ c.first-first.ensures.value indexed) _ _ c.key-wanted.ensures.value
    (record { long = c.requires; bytes = c.key-wanted.ensures.are_bytes }) _ c.listed.ensures.stands c.listed.ensures.value
