-- `transactions::links_of` meets its contract. Assumes nothing.
use Rattle.transactions.proofs.links_of.Goals as goal

pub returns : goal.returns
returns c ds t = record { many = t.many; shareless = c.found_12.ensures ds t.begun t.sums; joined = t.joined; kept = t.kept }
