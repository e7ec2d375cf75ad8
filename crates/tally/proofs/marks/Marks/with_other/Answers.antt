-- `tally::marks::Marks::with_other` meets its contract. Assumes nothing.
use mathlib.Core.Path.{sym, ◌∙◌}
use Rattle.kinds.specs.declared.Sort.TheVariants.{Ewt, Ver, Instrument}
use Rattle.kinds.proofs.Laws.{same-is}
use Rattle.edits.proofs.Sorts.{sort-instrument, sort-ewt, sort-ver}
use Rattle.tally.proofs.Marking.{other-on}
use Rattle.tally.proofs.marks.Marks.with_other.Goals as goal

pub returns : goal.returns
returns c ds r h own no-writer =
    let row = c.args.row in
    other-on c.args.self ds r h _ _ _ no-writer
    (sym (c.eq.ensures ∙ same-is row.sort Instrument ∙ sort-instrument row r own))
    (sym (c.eq-ewt.ensures ∙ same-is row.sort Ewt ∙ sort-ewt row r own))
    (sym (c.eq-ver.ensures ∙ same-is row.sort Ver ∙ sort-ver row r own))
