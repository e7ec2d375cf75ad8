-- `cwr_c::tell` meets its contract. Assumes nothing.
use mathlib.Core.Path.{refl, ◌∙◌}
use Rattle.territorial.specs.Promises.{over_of}
use Rattle.cwr_c.specs.Told.{packed_claimed, over_left}
use Rattle.cwr_c.proofs.ClaimsLaws.{over-put, over-left}
use Rattle.cwr_c.proofs.tell.Goals as goal

pub returns-in-Ok : goal.returns-in-Ok
unfolding packed_claimed over_left
returns-in-Ok c =
    let o = over_of c.in-Ok.claimed.over in
    record {
      number = rw c.in-Ok.is c.packed.ensures;
      left = rw c.in-Ok.is (over-put o c.args.over.now _ (c.store_eight.ensures ∙ c.word_of.ensures) ∙ over-left o c.args.over.now);
    }

pub returns-in-Err : goal.returns-in-Err
unfolding packed_claimed over_left
returns-in-Err c = record { number = rw c.in-Err.is c.packed-in-Err.ensures; left = rw c.in-Err.is refl }
