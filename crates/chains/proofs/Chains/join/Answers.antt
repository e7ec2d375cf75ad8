-- `chains::Chains::join` meets its contract. Assumes nothing.
use Rattle.std.proofs.Common.{sym}
use Rattle.chains.proofs.Laws.{chained, unchained, summed, numberless, no_number}
use Rattle.chains.proofs.Chains.join.Goals as goal

pub returns-in-Number : goal.returns-in-Number
returns-in-Number c ds r t reads =
    let p = c.args.p in
    c.join_chain.ensures ds r t (chained p r reads c.from.result (rw c.from.ensures c.in-Number.is)) (sym reads.spu) (sym reads.e) (sym reads.aq) (summed p r reads)

pub returns-in-NotDigits : goal.returns-in-NotDigits
returns-in-NotDigits c ds r t reads = no_number _ ds r t (unchained c.args.p r reads (numberless c.in-NotDigits.is))
