-- `parties::only` meets its contract. Assumes nothing.
use native.Mathlib.Omega.{arith}
use Rattle.claims.proofs.Work.{cond-most}
use Rattle.parties.proofs.only.Goals as goal

pub returns : goal.returns
returns c =
    let shares = c.args.shares in
    let b = c.args.c in
    record {
      value = rw (c.pick.ensures, c.pick-2.ensures, c.pick-3.ensures);
      by_index =
          λ most h. (
            rw c.pick.ensures (cond-most b shares.pr 0 most h.0 (omega arith)),
            rw c.pick-2.ensures (cond-most b shares.mr 0 most h.1 (omega arith)),
            rw c.pick-3.ensures (cond-most b shares.sr 0 most h.2 (omega arith)),
          );
    }
