-- `counts::Numbers::write_into` meets its contract: GRT and TRL have the group before a pair.
-- Assumes nothing.
use Rattle.format.specs.Bytes.{decimal}
use Rattle.format.proofs.Decimal.{length-decimal}
use Rattle.counts.specs.Carried.{pair, words}
use Rattle.counts.proofs.Laws.{over_nothing, written}
use native.Mathlib.Omega.{arith}
use Rattle.counts.proofs.Numbers.write_into.Goals as goal

pub write-requires : goal.write-requires
write-requires c =
    let h = rw c.in-Group.is at c.requires in
    omega (arith, h)

pub write_pair-requires : goal.write_pair-requires
write_pair-requires c =
    let h = rw c.in-Prefix.is at c.requires in
    omega (arith, h)

pub write-requires-in-Closing : goal.write-requires-in-Closing
write-requires-in-Closing c =
    let h = rw c.in-Closing.is at c.requires in
    omega (arith, h)

pub write_pair-requires-in-Closing : goal.write_pair-requires-in-Closing
write_pair-requires-in-Closing c =
    let h = rw c.in-Closing.is at c.requires in
    omega (arith, h)

pub write-requires-in-Totals : goal.write-requires-in-Totals
write-requires-in-Totals c =
    let h = rw c.in-Totals.is at c.requires in
    omega (arith, h)

pub write_pair-requires-in-Totals : goal.write_pair-requires-in-Totals
write_pair-requires-in-Totals c =
    let h = rw c.in-Totals.is at c.requires in
    omega (arith, h)

pub returns-in-Nothing : goal.returns-in-Nothing
returns-in-Nothing c = rw c.in-Nothing.is (over_nothing 4 _)

pub returns-in-Group : goal.returns-in-Group
returns-in-Group c = rw c.in-Group.is c.write.ensures

pub returns-in-Prefix : goal.returns-in-Prefix
unfolding words
returns-in-Prefix c = rw c.in-Prefix.is c.write_pair.ensures

pub returns-in-Closing : goal.returns-in-Closing
unfolding words
returns-in-Closing c =
    let h = rw c.in-Closing.is at c.requires in
    rw c.in-Closing.is
    (written c.args.out.now 4 5 (decimal 5 c.in-Closing.g) (length-decimal 5 c.in-Closing.g) (words c.in-Closing.m c.in-Closing.r) 16 (omega arith) (omega (arith, h)) _ _
    c.write-in-Closing.ensures c.write_pair-in-Closing.ensures)

pub returns-in-Totals : goal.returns-in-Totals
unfolding pair
returns-in-Totals c =
    let h = rw c.in-Totals.is at c.requires in
    rw c.in-Totals.is
    (written c.args.out.now 4 5 (decimal 5 c.in-Totals.g) (length-decimal 5 c.in-Totals.g) (pair c.in-Totals.m c.in-Totals.r) 16 (omega arith) (omega (arith, h)) _ _
    c.write-in-Totals.ensures c.write_pair-in-Totals.ensures)
