-- The cases of the answer about the first work to look at, and each in one number.
use Rattle.std.specs.Prelude.{ℕ, ◌-◌, ◌^◌, Option, Some, None, Result, Ok, Err}
use Rattle.rules.specs.First.{First as RulesFirst, refused_with, nothing, at}
use Rattle.answers.specs.declared.Refusal.{Refusal}
use Rattle.answers.specs.Numbers.{refused_of, exact}

abbrev pub rules_first : Result (Option ℕ) Refusal → RulesFirst
rules_first (Err r) = refused_with (refused_of r)
rules_first (Ok None) = nothing
rules_first (Ok (Some k)) = at k

-- a refusal as the check's, 2^32 - 1 for nothing, or the transaction's number
abbrev pub exact_first : RulesFirst → ℕ
exact_first (refused_with a) = exact a
exact_first nothing = 2 ^ 32 - 1
exact_first (at k) = k
