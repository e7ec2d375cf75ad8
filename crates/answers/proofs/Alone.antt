-- No two cases of the answer stand for one number and place, and in one number neither a refusal nor the number of records is lost.
-- Assumes nothing.
use native.Mathlib.Omega.{arith}
use mathlib.Core.Path.{◌≡◌, refl, sym, ap, ◌∙◌}
use mathlib.Core.List.{[], ◌∷◌}
use lib.ListN.{get_or}
use Rattle.std.specs.Prelude.{Result, Ok, Err}
use Rattle.format.specs.Structure.{Answer as FormatAnswer, refused, passed}
use Rattle.format.specs.Claims.{Near}
use Rattle.answers.specs.declared.Passed.{Passed}
use Rattle.answers.specs.declared.Refusal.{Refusal}
use Rattle.answers.specs.declared.Refusal.TheVariants.{Tolerance, Table, Long, Many, Line, Shape}
use Rattle.answers.specs.declared.Refusal.TheVariants.{Place, Number, Total, Version, Short, Full, Territories, Crowded}
use Rattle.answers.specs.Numbers.{answer_of, exact}
use Rattle.answers.specs.Claims.{Alike, Named, Says, NothingLost}

-- ---- the cases

-- the case of a refusal, by its number (0 is none), or of the three numbers
case_of : FormatAnswer → Result Passed Refusal
case_of (refused n i) =
    Err
    (get_or
    (Crowded i ∷ Tolerance ∷ Table i ∷ Long ∷ Line i ∷ Many ∷ Shape i ∷ Place i ∷ Number i ∷ Total i ∷ Version ∷ Short ∷ Full
    ∷ Territories ∷ [])
    n
    (Crowded i))
case_of (passed g m r) = Ok (record { groups = g; transactions = m; records = r })

case-found : (a : Result Passed Refusal) → case_of (answer_of a) ≡ a
unfolding case_of
case-found (Ok p) = refl
case-found (Err Tolerance) = refl
case-found (Err (Table i)) = refl
case-found (Err Long) = refl
case-found (Err Many) = refl
case-found (Err (Line i)) = refl
case-found (Err (Shape i)) = refl
case-found (Err (Place i)) = refl
case-found (Err (Number i)) = refl
case-found (Err (Total i)) = refl
case-found (Err Version) = refl
case-found (Err Short) = refl
case-found (Err Full) = refl
case-found (Err Territories) = refl
case-found (Err (Crowded i)) = refl

pub answer-alone : (a b : Result Passed Refusal) → answer_of a ≡ answer_of b → a ≡ b
answer-alone a b e = sym (case-found a) ∙ ap case_of e ∙ case-found b

-- ---- in one number

pub named : (a : Result Passed Refusal) → Named (answer_of a)
named (Ok p) = tt
named (Err Tolerance) = omega arith
named (Err (Table i)) = omega arith
named (Err Long) = omega arith
named (Err Many) = omega arith
named (Err (Line i)) = omega arith
named (Err (Shape i)) = omega arith
named (Err (Place i)) = omega arith
named (Err (Number i)) = omega arith
named (Err (Total i)) = omega arith
named (Err Version) = omega arith
named (Err Short) = omega arith
named (Err Full) = omega arith
named (Err Territories) = omega arith
named (Err (Crowded i)) = omega arith

pub exact-says : (a : FormatAnswer) → Near a → Says (exact a) a
exact-says (refused n i) h = (omega arith, omega arith)
exact-says (passed g m r) h = (omega arith, omega arith)

pub exact-alone : (x y : FormatAnswer) → Near x → Near y → Named x → Named y → exact x ≡ exact y → Alike x y
exact-alone (refused n i) (refused k j) p q a b e = (omega arith, omega arith)
exact-alone (refused n i) (passed g m r) p q a b e = omega arith
exact-alone (passed g m r) (refused n i) p q a b e = omega arith
exact-alone (passed g m r) (passed h k s) p q a b e = e

pub nothing-lost : NothingLost
nothing-lost = record { cases = answer-alone; named = named; says = exact-says; number = exact-alone }
