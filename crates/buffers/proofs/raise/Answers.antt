-- `buffers::raise` meets its contract: the verdicts passed are raised, the others are still to be.
use mathlib.Core.Path.{refl, ◌∙◌}
use native.Mathlib.Omega.{arith}
use Rattle.findings.proofs.Laws.{max-larger}
use Rattle.buffers.proofs.Raised.{raise-on, raise-end}
use Rattle.buffers.proofs.raise.Goals as goal

pub loop-verdict-init : goal.loop-verdict-init
loop-verdict-init c = refl

pub loop-verdict-preserved : goal.loop-verdict-preserved
loop-verdict-preserved c =
    let l = c.loop-verdict in
    raise-on _ l.verdict-index l.verdict-items _ l.invariant _ (omega arith) (c.max.ensures ∙ max-larger c.args.least _)

pub returns : goal.returns
returns c = let l = c.loop-verdict in raise-end _ l.verdict-index l.verdict-items _ l.invariant (omega arith)
