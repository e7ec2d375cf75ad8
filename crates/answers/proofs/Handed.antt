-- A refusal that `?` hands on is the refusal of the answer. Assumes nothing.
use mathlib.Core.Path.{◌≡◌, ap, ◌∙◌}
use Rattle.std.specs.Prelude.{Result, Err}
use Rattle.std.specs.Result.{IsErrAnd}
use Rattle.std.proofs.lemmas.Result.{err_from_is_err_and}
use Rattle.format.specs.Structure.{Answer}
use Rattle.answers.specs.declared.Passed.{Passed}
use Rattle.answers.specs.declared.Refusal.{Refusal}
use Rattle.answers.specs.Numbers.{refused_of, answer_of}

-- what was answered, r, where the refusal e went out
pub handed-on : (r : Result Passed Refusal) (e : Refusal) → IsErrAnd r (λ (d : Refusal). d ≡ e) → answer_of r ≡ refused_of e
handed-on r e h = let p = err_from_is_err_and r h in rw (p.1, p.2)
