-- `figures::Missing::with` meets its contract. Assumes nothing.
use Rattle.figures.proofs.Transactions.{missing-more}
use Rattle.figures.proofs.Missing.with.Goals as goal

pub returns : goal.returns
returns c =
    let g = c.args in
    let pr = c.with-self.ensures in
    let mr = c.with-self-2.ensures in
    let sr = c.with-self-3.ensures in
    record {
      value = λ xs x. missing-more xs x g.self g.total pr.value mr.value sr.value;
      within = λ k n w u one. (pr.within k n w.0 u.0 one, mr.within k n w.1 u.1 one, sr.within k n w.2 u.2 one);
    }
