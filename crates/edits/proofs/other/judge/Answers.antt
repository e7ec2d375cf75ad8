-- `edits::other::judge` meets its contract. Assumes nothing.
use borrow.Author.Rules.{rules}
use Rattle.edits.proofs.Sorts.{version-here, per-here, rec-here, is-misplaced, none_found}
use Rattle.edits.proofs.other.judge.Goals as goal

pub version-requires : goal.version-requires
version-requires c =
    version-here c.args.row c.args.record.now c.requires.0.0.0 c.requires.0.1 c.in-Ewt.is

pub performer-requires : goal.performer-requires
performer-requires c =
    per-here c.args.row c.args.record.now c.requires.0.0.0 c.requires.0.1 c.in-Per.is

pub recording-requires : goal.recording-requires
recording-requires c =
    rec-here c.args.row c.args.record.now c.requires.0.0.0 c.requires.0.1 c.in-Rec.is

pub returns-in-Misplaced : goal.returns-in-Misplaced
returns-in-Misplaced c tables before =
    c.misplaced.ensures tables before c.args.record.now (is-misplaced c.args.row c.args.record.now c.requires.0.0.0 c.in-Misplaced.is)

pub returns-in_default : goal.returns-in_default
returns-in_default c tables before =
    none_found c.args.row c.args.record.now c.requires.0.0.0 tables before _ c.nothing.ensures.0 c.nothing.ensures.1 c.requires.0.0.1
    c.requires.1 c.requires.2 (search rules) (search rules) (search rules) (search rules) (search rules)
