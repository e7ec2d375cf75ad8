-- `lister::Page::record_line` meets its contract: five words, one after the other. Assumes nothing.
use mathlib.Core.Path.{◌∙◌}
use Rattle.std.proofs.Common.{rules}
use Rattle.rules.specs.Findings.{places}
use Rattle.lister.proofs.Texts.{record-put}
use Rattle.lister.proofs.Page.record_line.Goals as goal

pub returns : goal.returns
returns c = (
  record-put c.args.number c.args.kind.now c.args.verdict c.from.result (places 64 c.args.set) c.requires.0 (c.from.ensures ∙ c.count.ensures)
      c.figure.ensures.0 c.word.ensures.0 c.figure-2.ensures.0 c.figure-3.ensures.0 c.lowest.ensures.0,
  search rules,
  search rules,
)
