-- `collection::raise` meets its contract.
use Prim.Native.Nat.{ℕ, ◌-◌, ◌≤◌}
use mathlib.Core.Path.{◌≡◌, ◌∙◌}
use mathlib.Core.Bool.{Bool, cond}
use native.Mathlib.Omega.{arith}
use borrow.Rule.Slice.PartMut.{put_mid}
use lib.ListN.{length, take, drop, length-drop}
use lib.Seq.{length-take-le}
use Rattle.format.specs.Bytes.{Bytes}
use Rattle.rules.specs.Findings.{TR, verdict}
use Rattle.rules.specs.Verdicts.{raised}
use Rattle.buffers.proofs.Splice.{part-splice}
use Rattle.buffers.proofs.Raised.{length-raised}
use Rattle.collection.specs.Marked.{raised_if}
use Rattle.collection.proofs.raise.Goals as goal

raised-part : (rejected : Bool) (from end least : ℕ) (v ys : Bytes) → from ≤ end → end ≤ length v → least ≡ cond rejected (verdict TR) 0
    → ys ≡ raised least (take (end - from) (drop from v)) → put_mid from (end - from) v ys ≡ raised_if rejected from (end - from) v
unfolding raised_if
raised-part rejected from end least v ys h l e y =
    let long : length (take (end - from) (drop from v)) ≡ end - from =
    length-take-le (end - from) (drop from v) (omega (arith, length-drop from v)) in
    rw (y, e) (part-splice from (end - from) _ v (length-raised (cond rejected (verdict TR) 0) _ ∙ long))

pub returns : goal.returns
returns c =
    raised-part c.args.rejected c.args.from c.args.end _ c.args.verdicts.now _ c.requires.0 c.requires.1
    c.least-least.ensures c.raise.ensures
