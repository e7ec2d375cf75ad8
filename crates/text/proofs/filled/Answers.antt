-- `text::filled` meets its contract: what `all` says of each byte.
use lib.Dec.{eqb}
use borrow.Author.Tests.{tests}
use Rattle.std.proofs.Common.{rules}
use mathlib.Core.Path.{◌≡◌}
use mathlib.Core.Bool.{true, false}
use Rattle.std.proofs.lemmas.Iterator.{cases_from_all, YieldsList-from_slice}
use Rattle.text.proofs.Laws.{every-answered}
use Rattle.text.proofs.filled.Goals as goal

pub returns : goal.returns
returns c =
    let b = c.args.b in
    every-answered (λ x. eqb x b) _ _
    (cases_from_all _ _ _ (λ x. eqb x b ≡ true) (λ x. eqb x b ≡ false) c.all.ensures.ran
    (YieldsList-from_slice c.args.field.now (cc)) (λ x q k. search (rules, tests)) (λ x q k. search (rules, tests)))
