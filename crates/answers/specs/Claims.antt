-- What an answer still says when it is told by number and place, or in one number. proofs/Alone.antt has the proofs.
use Rattle.std.specs.Prelude.{ℕ, ◌+◌, ◌/◌, ◌%◌, ◌^◌, ◌≤◌, ◌≡◌, Result}
use Rattle.format.specs.Structure.{Answer as FormatAnswer, refused, passed}
use Rattle.format.specs.Claims.{Near}
use Rattle.answers.specs.declared.Passed.{Passed}
use Rattle.answers.specs.declared.Refusal.{Refusal}
use Rattle.answers.specs.Numbers.{answer_of, told_of, exact}

-- the same refusal at the same place; or both passed, with as many records
abbrev pub Alike : FormatAnswer → FormatAnswer → Type 0
Alike (refused n i) (refused k j) = (n ≡ k) × (i ≡ j)
Alike (refused n i) (passed g m r) = ⊥
Alike (passed g m r) (refused n i) = ⊥
Alike (passed g m r) (passed h k s) = r ≡ s

-- a refusal's number is 1 or more
abbrev pub Named : FormatAnswer → Type 0
Named (refused n i) = 1 ≤ n
Named (passed g m r) = Unit {0}

-- what one number says: its upper 32 bits are the refusal's number, 0 where it passed; the lower are the place, or the number of records, of
-- which the other is 0
abbrev pub Says : ℕ → FormatAnswer → Type 0
Says r a = (r / 2 ^ 32 ≡ (told_of a).refusal) × (r % 2 ^ 32 ≡ (told_of a).place + (told_of a).records)

pub record NothingLost : Type 0 where
  -- no two cases of the answer stand for the same number and place, and each number is 1 or more
  pub cases : (a b : Result Passed Refusal) → answer_of a ≡ answer_of b → a ≡ b
  pub named : (a : Result Passed Refusal) → Named (answer_of a)
  -- within the size limits the one number says it,
  pub says : (a : FormatAnswer) → Near a → Says (exact a) a
  -- so that two answers with the same number are alike
  pub number : (x y : FormatAnswer) → Near x → Near y → Named x → Named y → exact x ≡ exact y → Alike x y
