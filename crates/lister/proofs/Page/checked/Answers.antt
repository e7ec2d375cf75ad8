-- `lister::Page::checked` meets its contract: the lines of the check's outcome are the listing. Assumes nothing.
use Rattle.rules.specs.Values.{largest_tolerance}
use Rattle.rules.specs.Listing.{listing_tables}
use Rattle.answers.specs.Numbers.{answer_of}
use Rattle.lister.proofs.Whole.{can-list, is-listed}
use borrow.Author.Rules.{rules}
use Rattle.lister.proofs.Page.checked.Goals as goal

pub outcome-requires : goal.outcome-requires
outcome-requires c = (
  can-list listing_tables largest_tolerance c.args.file.now c.args.verdicts.now c.args.findings.now
      (answer_of c.check-answer.result) _ _ c.check-answer.ensures,
  search rules,
)

pub returns : goal.returns
returns c =
    rw (is-listed listing_tables largest_tolerance c.args.file.now c.args.verdicts.now c.args.findings.now
    (answer_of c.check-answer.result) _ _ c.check-answer.ensures (search rules) (search rules)) at
    c.outcome.ensures
