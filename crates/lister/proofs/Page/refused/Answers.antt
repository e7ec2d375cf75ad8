-- `lister::Page::refused` meets its contract: three words, one after the other. Assumes nothing.
use Rattle.std.proofs.Common.{rules}
use Rattle.lister.proofs.Texts.{refused-put}
use Rattle.lister.proofs.Page.refused.Goals as goal

pub returns : goal.returns
returns c = (
  refused-put c.args.number c.args.place c.word.ensures.0 c.figure.ensures.0 c.figure-2.ensures.0,
  search rules,
  search rules,
)
