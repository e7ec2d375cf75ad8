-- `lines::all_text` meets its contract: good says whether the bytes before i and those of the last block are text.
use Prim.Native.Nat.{◌+◌, ◌-◌}
use native.Mathlib.Omega.{arith}
use mathlib.Core.Path.{◌≡◌, ap, ◌∙◌}
use mathlib.Core.Bool.{◌&&◌}
use lib.ListN.{take, drop, length, length-drop}
use lib.Seq.{take_all}
use Rattle.format.specs.Bytes.{every, is_text}
use Rattle.lines.proofs.Laws.{every-block, every-overlap}
use Rattle.lines.proofs.all_text.Goals as goal

pub returns-then-part-lt-BLOCK : goal.returns-then-part-lt-BLOCK
returns-then-part-lt-BLOCK c = c.short_text.ensures

pub loop-i-init : goal.loop-i-init
loop-i-init c =
    let part = c.args.part.now in
    let last = length part - 32 in
    c.block_text-good.ensures ∙ ap (every is_text) (take_all 32 (drop last part) (omega (arith, length-drop last part)))

pub loop-i-preserved : goal.loop-i-preserved
loop-i-preserved c =
    let l = c.loop-i in
    rw (l.invariant, c.block_text-good-in-loop-i.ensures) (every-block is_text _ l.i 32 _)

pub returns-else-part-lt-BLOCK : goal.returns-else-part-lt-BLOCK
returns-else-part-lt-BLOCK c = let l = c.loop-i in l.invariant ∙ every-overlap is_text _ _ l.i c.loop-i-test.false

-- after the last block, from which no further one begins before `last`
pub returns-else-part-lt-BLOCK-2 : goal.returns-else-part-lt-BLOCK-2
returns-else-part-lt-BLOCK-2 c =
    let l = c.loop-i in
    let part = c.args.part.now in
    let last = length part - 32 in
    let seen : (l.good && c.block_text-good-in-loop-i.result) ≡ (every is_text (take (l.i + 32) part) && every is_text (drop last part)) =
    rw (l.invariant, c.block_text-good-in-loop-i.ensures) (every-block is_text part l.i 32 (every is_text (drop last part))) in
    seen ∙ every-overlap is_text part last (l.i + 32) (omega arith)
