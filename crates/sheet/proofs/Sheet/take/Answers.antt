-- `sheet::Sheet::take` meets its contract: each ending is the outcome that is defined. Assumes nothing.
use mathlib.Core.Path.{sym, ap}
use borrow.Author.Tests.{le-leb, lt-leb}
use Rattle.admission.proofs.Fit.{let-in}
use Rattle.tables.specs.Lent.{lent_in}
use Rattle.rules.specs.Sheet.{Taken, answer_to, is_refused}
use Rattle.sheet.proofs.Adding.{full-so, taken-so}
use Rattle.sheet.proofs.Sheet.take.Goals as goal

pub returns-then-self-ge-MOST_FILES : goal.returns-then-self-ge-MOST_FILES
returns-then-self-ge-MOST_FILES c = full-so _ _ (le-leb _ _ c.if-self-ge-MOST_FILES.true)

pub count-requires : goal.count-requires
count-requires c =
    let (o, fit) = let-in _ _ _ c.in-Ok.ensures in
    record { here = (fit.short, fit.here, fit.few); right_tables = (o.languages, o.societies, o.categories) }

pub returns-in-Ok : goal.returns-in-Ok
unfolding answer_to
returns-in-Ok c =
    let x : Taken = record { tables = lent_in c.args.tables; file = c.args.file.now } in
    let room = lt-leb _ _ c.if-self-ge-MOST_FILES.false in
    let one = c.of_passed.ensures x (ap is_refused (sym c.in-Ok.ensures)) c.count.ensures in
    taken-so _ x room _ c.in-Ok.ensures _ one _ c.with.ensures

pub returns-in-Err : goal.returns-in-Err
unfolding answer_to
returns-in-Err c =
    let x : Taken = record { tables = lent_in c.args.tables; file = c.args.file.now } in
    let room = lt-leb _ _ c.if-self-ge-MOST_FILES.false in
    let one = c.of_refused.ensures x (ap is_refused (sym c.in-Err.ensures)) in
    taken-so _ x room _ c.in-Err.ensures _ one _ c.with-in-Err.ensures
