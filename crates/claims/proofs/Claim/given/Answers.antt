-- `Claim::given` meets its contract.
use Prim.Native.Nat.{◌^◌}
use mathlib.Core.Path.{◌≡◌, ap, ◌∙◌}
use mathlib.Core.Bool.{cond}
use native.Mathlib.Omega.{arith}
use lib.Dec.{eqb}
use Rattle.claims.proofs.Work.{cond-most}
use Rattle.claims.proofs.Claim.given.Goals as goal

pub returns : goal.returns
returns c =
    let a = c.args.self in
    let out = eqb a.mark 69 in
    let pr : c.pick.result ≡ cond out 0 a.pr = c.pick.ensures ∙ ap (cond out 0) c.from.ensures in
    let mr : c.pick-2.result ≡ cond out 0 a.mr = c.pick-2.ensures ∙ ap (cond out 0) c.from-2.ensures in
    let sr : c.pick-3.result ≡ cond out 0 a.sr = c.pick-3.ensures ∙ ap (cond out 0) c.from-3.ensures in
    record {
      value = rw (pr, mr, sr);
      at_most = (
        rw pr (cond-most out 0 a.pr (2 ^ 32) (omega arith) (omega arith)),
        rw mr (cond-most out 0 a.mr (2 ^ 32) (omega arith) (omega arith)),
        rw sr (cond-most out 0 a.sr (2 ^ 32) (omega arith) (omega arith)),
      );
    }
