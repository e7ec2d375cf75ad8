use mathlib.Core.Path.{◌≡◌}
use mathlib.Core.List.{◌++◌}
use lib.ListN.{take, drop}
use Rattle.rules.specs.Verdicts.{raised}
use Rattle.buffers.proofs.raise.Given as goal

abbrev pub invariant-loop-verdict : goal.invariant-loop-verdict
invariant-loop-verdict l =
    take l.verdict-index l.verdict-items ++ raised l.least (drop l.verdict-index l.verdict-items) ≡ raised l.least l.initial.verdict-items
