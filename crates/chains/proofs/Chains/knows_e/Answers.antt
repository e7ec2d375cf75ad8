-- `chains::Chains::knows_e` meets its contract. Assumes nothing.
use Rattle.std.proofs.Common.{sym, subst}
use Rattle.edits.specs.Readings.{Below100}
use Rattle.chains.proofs.Laws.{chained, unchained, numberless, knows, knows-none}
use Rattle.chains.proofs.Chains.knows_e.Goals as goal

pub returns-in-Number : goal.returns-in-Number
returns-in-Number c ds r t reads =
    rw c.from.ensures
    (knows c.in-Number.k r (chained c.args.p r reads c.in-Number.k c.in-Number.is) c.args.self.now.own ds (subst Below100 c.in-Number.is c.requires.1) t)

pub returns-in-NotDigits : goal.returns-in-NotDigits
returns-in-NotDigits c ds r t reads = sym (knows-none r ds (unchained c.args.p r reads (numberless c.in-NotDigits.is)))
