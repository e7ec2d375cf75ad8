-- `details::judge` meets its contract. Assumes nothing.
use borrow.Author.Rules.{rules}
use Rattle.kinds.specs.declared.Sort.TheVariants.{Publisher, Writer}
use Rattle.edits.proofs.Sorts.{publisher-here, writer-here, of-no-kind, sort-publisher, sort-writer}
use Rattle.rules.proofs.Types.{writer-no-publisher}
use Rattle.chains.proofs.Laws.{no-publisher}
use Rattle.details.proofs.judge.Goals as goal

pub read-p-requires : goal.read-p-requires
read-p-requires c = publisher-here c.args.row c.args.record.now c.requires.stands.0.0 c.requires.stands.1 c.in-Publisher.is

pub read-w-requires : goal.read-w-requires
read-w-requires c = writer-here c.args.row c.args.record.now c.requires.stands.0.0 c.requires.stands.1 c.in-Writer.is

pub returns-in-Writer : goal.returns-in-Writer
returns-in-Writer c tables ds i k t =
    let r = c.args.record.now in
    let reads = c.read-w.ensures.writer_reads in (
      record { judged = c.judge-found-in-Writer.ensures tables ds reads; known = c.with_writer.ensures ds r k c.requires.stands.0 reads },
      no-publisher _ ds r t (writer-no-publisher r reads.kind.1),
    )

pub returns-in_default : goal.returns-in_default
returns-in_default c tables ds i k t =
    let row = c.args.row in
    let r = c.args.record.now in
    let own = c.requires.stands.0.0 in
    let publisher = of-no-kind row r own {s = Publisher} (sort-publisher row r own) (search rules) in
    let writer = of-no-kind row r own {s = Writer} (sort-writer row r own) (search rules) in (
      record { judged = c.judge-found-in_default.ensures tables ds; known = c.with_other.ensures ds r k c.requires.stands.0 publisher writer },
      no-publisher _ ds r t publisher,
    )
