-- `lister::Page::word` meets its contract: the part before the last byte comes back as the word. Assumes nothing.
use mathlib.Core.Path.{refl}
use Rattle.lister.proofs.Words.{word-put}
use Rattle.lister.proofs.Page.word.Goals as goal

pub returns : goal.returns
returns c = word-put c.args.word.now _ c.args.end c.args.self.now _ c.requires c.copy_from_slice.ensures.after refl refl refl
