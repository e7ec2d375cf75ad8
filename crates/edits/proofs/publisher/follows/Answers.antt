-- `edits::publisher::follows` meets its contract. Assumes nothing.
use Rattle.edits.proofs.Sequences.{follows_is}
use Rattle.edits.proofs.publisher.follows.Goals as goal

pub returns-in-NoRecord : goal.returns-in-NoRecord
returns-in-NoRecord c before r long l h = rw (← l, ← h, c.in-NoRecord.is) at (follows_is r long before)

pub returns-in-NotDigits : goal.returns-in-NotDigits
returns-in-NotDigits c before r long l h = rw (← l, ← h, c.in-NotDigits.is) at (follows_is r long before)

pub returns-in-NoRecord-last : goal.returns-in-NoRecord-last
returns-in-NoRecord-last c before r long l h = rw (← l, ← h, c.in-NoRecord-last.is, c.in-Number.is) at (follows_is r long before)

pub returns-in-NotDigits-last : goal.returns-in-NotDigits-last
returns-in-NotDigits-last c before r long l h = rw (← l, ← h, c.in-NotDigits-last.is, c.in-Number.is) at (follows_is r long before)

pub returns-in-Number-last : goal.returns-in-Number-last
returns-in-Number-last c before r long l h =
    rw (c.from.ensures, c.from-in-Number-last.ensures)
    (rw (← l, ← h, c.in-Number-last.is, c.in-Number.is) at (follows_is r long before))
