-- `counts::Numbers::stand_in` meets its contract: GRT and TRL have the group before a pair.
-- Assumes nothing.
use Rattle.format.specs.Fields.{field_of}
use Rattle.format.specs.Bytes.{decimal}
use Rattle.format.proofs.Decimal.{length-decimal}
use Rattle.counts.specs.Carried.{pair, words}
use Rattle.counts.proofs.Laws.{compared}
use native.Mathlib.Omega.{arith}
use Rattle.counts.proofs.Numbers.stand_in.Goals as goal

pub stands-requires : goal.stands-requires
stands-requires c =
    let h = rw c.in-Group.is at c.requires in
    omega (arith, h)

pub pair_stands-requires : goal.pair_stands-requires
pair_stands-requires c =
    let h = rw c.in-Prefix.is at c.requires in
    omega (arith, h)

pub stands-requires-in-Closing : goal.stands-requires-in-Closing
stands-requires-in-Closing c =
    let h = rw c.in-Closing.is at c.requires in
    omega (arith, h)

pub pair_stands-requires-in-Closing : goal.pair_stands-requires-in-Closing
pair_stands-requires-in-Closing c =
    let h = rw c.in-Closing.is at c.requires in
    omega (arith, h)

pub stands-requires-in-Totals : goal.stands-requires-in-Totals
stands-requires-in-Totals c =
    let h = rw c.in-Totals.is at c.requires in
    omega (arith, h)

pub pair_stands-requires-in-Totals : goal.pair_stands-requires-in-Totals
pair_stands-requires-in-Totals c =
    let h = rw c.in-Totals.is at c.requires in
    omega (arith, h)

pub returns-in-Nothing : goal.returns-in-Nothing
unfolding field_of
returns-in-Nothing c = rw c.in-Nothing.is

pub returns-in-Group : goal.returns-in-Group
returns-in-Group c = rw c.in-Group.is c.stands.ensures

pub returns-in-Prefix : goal.returns-in-Prefix
unfolding words
returns-in-Prefix c = rw c.in-Prefix.is c.pair_stands.ensures

pub returns-in-Closing : goal.returns-in-Closing
unfolding words
returns-in-Closing c =
    let h = rw c.in-Closing.is at c.requires in
    rw c.in-Closing.is
    (compared c.args.record.now 4 5 (decimal 5 c.in-Closing.g) (length-decimal 5 c.in-Closing.g) (words c.in-Closing.m c.in-Closing.r) 16 (omega arith) (omega (arith, h)) _ _
    c.stands-in-Closing.ensures c.pair_stands-in-Closing.ensures)

pub returns-in-Totals : goal.returns-in-Totals
unfolding pair
returns-in-Totals c =
    let h = rw c.in-Totals.is at c.requires in
    rw c.in-Totals.is
    (compared c.args.record.now 4 5 (decimal 5 c.in-Totals.g) (length-decimal 5 c.in-Totals.g) (pair c.in-Totals.m c.in-Totals.r) 16 (omega arith) (omega (arith, h)) _ _
    c.stands-in-Totals.ensures c.pair_stands-in-Totals.ensures)
