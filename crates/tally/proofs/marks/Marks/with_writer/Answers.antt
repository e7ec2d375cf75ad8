-- `tally::marks::Marks::with_writer` meets its contract. Assumes nothing.
use mathlib.Core.Path.{sym}
use Rattle.tally.proofs.Marking.{writer-on}
use Rattle.tally.proofs.marks.Marks.with_writer.Goals as goal

pub returns : goal.returns
returns c ds r h reads =
    writer-on c.args.self ds r h c.args.w.creator c.args.w.changer c.args.w.author reads.kind.1
    (sym reads.creator) (sym reads.changer) (sym reads.author)
