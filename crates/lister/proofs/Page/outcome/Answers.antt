-- `lister::Page::outcome` meets its contract: after the first line, the records of a file that passes. Assumes nothing.
use Rattle.lister.proofs.Words.{then}
use Rattle.lister.proofs.Page.outcome.Goals as goal

pub returns-in-Ok : goal.returns-in-Ok
returns-in-Ok c = rw c.in-Ok.is (then (rw c.in-Ok.is at c.answer.ensures.0) c.records.ensures)
