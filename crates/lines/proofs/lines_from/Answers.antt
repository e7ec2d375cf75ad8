-- `lines::lines_from` meets its contract: the lines from i on, after n, are those that were asked for.
use Prim.Native.Nat.{◌+◌, ◌≤◌}
use native.Mathlib.Omega.{arith}
use mathlib.Core.Path.{refl, sym, ◌∙◌}
use lib.ListN.{length}
use Rattle.lines.proofs.Laws.{pair_fits, scan-on, scan-fault, scan-end}
use Rattle.lines.proofs.lines_from.Goals as goal
use Rattle.lines.proofs.lines_from.Goals.{Then-pair_at}

-- the next line starts within the file
fits : (c : Then-pair_at)
    → c.text_end-end.result + 2 ≤ length c.args.file.now
fits c = pair_fits _ c.text_end-end.result (sym c.pair_at.ensures ∙ c.if-pair_at.true)

pub loop-i-init : goal.loop-i-init
loop-i-init c = (c.requires.0, c.requires.1, refl)

pub overflow_add-i : goal.overflow_add-i
overflow_add-i c = omega (arith, fits c)

pub loop-i-smaller : goal.loop-i-smaller
loop-i-smaller c = omega (arith, fits c)

pub loop-i-preserved : goal.loop-i-preserved
loop-i-preserved c =
    let l = c.loop-i in
    scan-on _ l.i l.n _ l.invariant _ c.text_end-end.ensures.value
    (sym c.pair_at.ensures ∙ c.if-pair_at.true)

pub returns-else-pair_at : goal.returns-else-pair_at
returns-else-pair_at c =
    let l = c.loop-i in
    scan-fault _ l.i l.n _ l.invariant _ c.text_end-end.ensures.value
    c.loop-i-test.true (sym c.pair_at.ensures ∙ c.if-pair_at.false)

pub returns : goal.returns
returns c = let l = c.loop-i in scan-end _ l.i l.n _ l.invariant c.loop-i-test.false
