-- `admission::admit` meets its contract. Assumes nothing.
use mathlib.Core.Path.{◌∙◌}
use Rattle.rules.specs.Outcome.{admission}
use Rattle.answers.proofs.Handed.{handed-on}
use Rattle.admission.proofs.admit.Goals as goal

pub returns-in_err-lent_right : goal.returns-in_err-lent_right
unfolding admission
returns-in_err-lent_right c = handed-on _ _ c.from_residual.ensures.1 ∙ c.in_err-lent_right.ensures.then _
