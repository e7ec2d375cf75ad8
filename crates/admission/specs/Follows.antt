-- Internal: refusals 1 and 2 as the code tells of them, and what follows.
use Rattle.std.specs.Prelude.{ℕ, ◌≡◌, Result, Ok, Err}
use Rattle.format.specs.Structure.{Answer}
use Rattle.rules.specs.Tables.{Tables}
use Rattle.rules.specs.Outcome.{lent_right}
use Rattle.answers.specs.declared.Refusal.{Refusal}
use Rattle.answers.specs.Numbers.{refused_of}

-- the refusal, or what is answered of the rest
abbrev pub followed_by : Result (Unit {0}) Refusal → Answer → Answer
followed_by (Ok u) rest = rest
followed_by (Err r) rest = refused_of r

-- what is told of the tables and the tolerance comes first, whatever is answered of the rest
pub record ComesFirst (tables : Tables) (t : ℕ) (told : Result (Unit {0}) Refusal) : Type 0 where
  pub then : (rest : Answer) → followed_by told rest ≡ lent_right tables t rest
