-- `lister::Page::passed` meets its contract: six words, one after the other. Assumes nothing.
use Rattle.std.proofs.Common.{rules}
use Rattle.lister.proofs.Texts.{passed-put}
use Rattle.lister.proofs.Page.passed.Goals as goal

pub returns : goal.returns
returns c = (
  passed-put c.args.passed.groups c.args.passed.transactions c.args.passed.records c.word.ensures.0 c.figure.ensures.0
      c.word-2.ensures.0 c.figure-2.ensures.0 c.word-3.ensures.0 c.figure-3.ensures.0,
  search rules,
  search rules,
)
