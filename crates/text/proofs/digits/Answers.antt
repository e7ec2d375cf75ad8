-- `text::digits` meets its contract: what `all` says of each byte.
use borrow.Author.Tests.{tests}
use Rattle.std.proofs.Common.{rules}
use mathlib.Core.Path.{◌≡◌}
use mathlib.Core.Bool.{true, false}
use Rattle.std.proofs.lemmas.Iterator.{cases_from_all, YieldsList-from_slice}
use Rattle.format.specs.Fields.{are_digits, is_digit}
use Rattle.text.proofs.Laws.{every-answered}
use Rattle.text.proofs.digits.Goals as goal

pub returns : goal.returns
unfolding are_digits
returns c =
    every-answered is_digit _ _
    (cases_from_all _ _ _ (λ x. is_digit x ≡ true) (λ x. is_digit x ≡ false) c.all.ensures.ran
    (YieldsList-from_slice c.args.field.now (cc)) (λ x q k. search (rules, tests)) (λ x q k. search (rules, tests)))
