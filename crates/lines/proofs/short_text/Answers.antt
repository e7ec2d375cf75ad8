-- `lines::short_text` meets its contract: good says whether the bytes passed are text.
use native.Mathlib.Omega.{arith}
use mathlib.Core.Path.{refl, ap, ◌∙◌}
use lib.Seq.{take_all}
use Rattle.format.specs.Bytes.{every, is_text}
use Rattle.lines.proofs.Laws.{every-next}
use Rattle.lines.proofs.short_text.Goals as goal

pub loop-b-init : goal.loop-b-init
loop-b-init c = refl

pub loop-b-preserved : goal.loop-b-preserved
loop-b-preserved c =
    let l = c.loop-b in
    rw (l.invariant, c.is_text-good.ensures) (every-next is_text _ l.b-index (omega arith))

pub returns : goal.returns
returns c = let l = c.loop-b in l.invariant ∙ ap (every is_text) (take_all l.b-index _ (omega arith))
