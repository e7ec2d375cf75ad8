-- One outcome alone fits the promise of `list`. Assumes nothing.
use mathlib.Core.Path.{sym, ◌∙◌}
use Rattle.lister.specs.Promises.{OneFits}

pub one-fits : OneFits
one-fits = record { list = λ input out r s a b p q. let e = p.0 ∙ sym q.0 in (e, p.1 ∙ rw e (sym q.1)) }
