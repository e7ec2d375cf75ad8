-- `territorial::in_list` meets its contract. Assumes nothing.
use Rattle.territorial.proofs.Refusals.{as-it-is, can-be-counted, counted-so}
use Rattle.territorial.proofs.in_list.Goals as goal

pub returns-then-passed-room : goal.returns-then-passed-room
returns-then-passed-room c =
    let p = c.in_ok-passed.passed in
    rw c.in_ok-passed.was
    (as-it-is c.args.file.now c.args.room p.groups p.transactions p.records (rw c.in_ok-passed.was at c.requires) c.if-passed-room.true)

pub first_crowded-requires : goal.first_crowded-requires
first_crowded-requires c =
    let p = c.in_ok-passed.passed in
    can-be-counted c.args.file.now c.args.room p.groups p.transactions p.records (rw c.in_ok-passed.was at c.requires)

pub returns-in-None : goal.returns-in-None
returns-in-None c =
    let p = c.in_ok-passed.passed in
    rw c.in_ok-passed.was (counted-so c.args.file.now c.args.room p.groups p.transactions p.records _ c.in-None.ensures)

pub returns-in-Some : goal.returns-in-Some
returns-in-Some c =
    let p = c.in_ok-passed.passed in
    rw c.in_ok-passed.was (counted-so c.args.file.now c.args.room p.groups p.transactions p.records _ c.in-Some.ensures)
