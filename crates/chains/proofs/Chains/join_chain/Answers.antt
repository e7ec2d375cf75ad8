-- `chains::Chains::join_chain` meets its contract: what it writes is `joined_by`. Assumes nothing.
use Rattle.chains.proofs.Laws.{flag_number, with-more}
use Rattle.chains.proofs.Chains.join_chain.Goals as goal

pub returns : goal.returns
returns c ds r t inside p q s n =
    let args = c.args in
    rw (c.pick-3.ensures, c.from.ensures, flag_number, c.pick-2.ensures, c.pick.ensures)
    (with-more args.self.now args.k ds r args.spu args.e args.aq args.shares c.requires.chain t inside p q s n)
