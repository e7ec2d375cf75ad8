-- `cwr_c::refuse` meets its contract: 11 comes after the refusals before it. Assumes nothing.
use mathlib.Core.Path.{ap, ◌∙◌}
use Rattle.format.specs.Structure.{Answer}
use Rattle.answers.specs.Packed.{packed_of}
use Rattle.cwr_c.specs.Told.{without_room, refused_of}
use Rattle.cwr_c.proofs.refuse.Goals as goal

pub returns-in-Ok : goal.returns-in-Ok
unfolding refused_of
returns-in-Ok c = c.packed.ensures ∙ ap (λ (a : Answer). packed_of (without_room a)) c.in-Ok.ensures

pub returns-in-Err : goal.returns-in-Err
unfolding refused_of
returns-in-Err c = c.packed-in-Err.ensures ∙ ap (λ (a : Answer). packed_of (without_room a)) c.in-Err.ensures
