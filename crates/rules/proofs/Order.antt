-- The order of records: no type has two spots that it may take after one (`OneSpot`), and sequences worked out. Assumes nothing.
use Prim.Native.Nat.{◌≤◌}
use Prim.Native.String.{String}
use native.Mathlib.Omega.{arith}
use mathlib.Core.Path.{◌≡◌, refl, sym, ap}
use mathlib.Core.Bool.{Bool, true, false, not, cond, ◌&&◌}
use mathlib.Core.List.{List, [], ◌∷◌, map}
use lib.Dec.{leb, eqb}
use lib.ListN.{length}
use borrow.Author.Tests.{eqb-true, leb-true}
use Rattle.format.specs.Ascii.{ascii}
use Rattle.format.specs.Bytes.{Bytes, every}
use Rattle.format.specs.Stages.{Spot, stages, spots, begins}
use Rattle.format.proofs.Tests.{by_cases, both}
use Rattle.format.proofs.Spots.{is_bracketed, is_elsewhere, apart, may_have_several, one-or-several}
use Rattle.rules.specs.Records.{only}
use Rattle.rules.specs.Order.{may_take, in_order, outset, OneSpot}
use Rattle.rules.proofs.Lists.{only-fewer}

-- ---- one spot at most: a type with several is bracketed in each of them, so it may take only the one in the stage of the record before

is-not : (b : Bool) → not b ≡ true → b ≡ false
is-not true e = sym e
is-not false e = refl

module _ (type : Bytes) (from : Spot) (begins-none : begins type ≡ false) where
  not-elsewhere : (to : Spot) → is_bracketed to ≡ true → is_elsewhere from.stage to ≡ true → may_take type from to ≡ false
  unfolding is_bracketed is_elsewhere
  not-elsewhere to b e = simp (is-not (eqb to.rank 0) b, is-not (eqb from.stage to.stage) e, begins-none)

  none_elsewhere : (ss : List Spot) → every is_bracketed ss ≡ true → every (is_elsewhere from.stage) ss ≡ true
      → only (may_take type from) ss ≡ []
  none_elsewhere [] b e = refl
  none_elsewhere (s ∷ ss) b e =
      let c = both (is_bracketed s) (every is_bracketed ss) b in
      let d = both (is_elsewhere from.stage s) (every (is_elsewhere from.stage) ss) e in
      rw (not-elsewhere s c.0 d.0, none_elsewhere ss c.1 d.1)

  one_apart : (ss : List Spot) → every is_bracketed ss ≡ true → apart ss ≡ true → length (only (may_take type from) ss) ≤ 1
  unfolding apart is_elsewhere
  one_apart [] b a = omega arith
  one_apart (s ∷ ss) b a =
      let c = both (is_bracketed s) (every is_bracketed ss) b in
      let d = both (every (is_elsewhere s.stage) ss) (apart ss) a in
      by_cases (eqb from.stage s.stage)
      (λ e. rw (none_elsewhere ss c.1 (rw (eqb-true from.stage s.stage e) d.0)) (at_most (may_take type from s)))
      (λ e. rw (not-elsewhere s c.0 (ap not e)) (one_apart ss c.1 d.1))
    where
      at_most : (here : Bool) → length (cond here (s ∷ []) []) ≤ 1
      at_most true = omega arith
      at_most false = omega arith

pub one_spot : OneSpot
unfolding may_have_several
one_spot type from =
    by_cases (leb (length (spots type)) 1)
    (λ e. omega (arith, only-fewer (may_take type from) (spots type), leb-true (length (spots type)) 1 e))
    (λ e.
    let s = both (not (begins type)) (every is_bracketed (spots type) && apart (spots type)) (rw e at (one-or-several type)) in
    let a = both (every is_bracketed (spots type)) (apart (spots type)) s.1 in
    one_apart type from (is-not (begins type) s.0) (spots type) a.0 a.1)

-- ---- worked examples

-- types in sequence, and whether they are in order
data Example : Type 0 where
  sequence : List String → Bool → Example

computed : Example → Bool
computed (sequence types b) = in_order outset (map ascii types)

said : Example → Bool
said (sequence types b) = b

examples : List Example
examples =
    sequence [] true
    -- brackets repeat in their order, SPT and OPT mixed; the next leader starts afresh
    ∷ sequence ("SPU" ∷ "NPN" ∷ "NPN" ∷ "OPT" ∷ "SPT" ∷ "OPT" ∷ "SPU" ∷ "NPN" ∷ []) true
    ∷ sequence ("SPU" ∷ "SPT" ∷ "NPN" ∷ []) false
    ∷ sequence ("OPU" ∷ "SPT" ∷ []) false
    -- a type with spots in several stages goes by its leader
    ∷ sequence ("EWT" ∷ "NOW" ∷ "VER" ∷ "NVT" ∷ "NOW" ∷ "COM" ∷ "NOW" ∷ []) true
    ∷ sequence ("SPU" ∷ "SWR" ∷ "NPN" ∷ []) false
    ∷ sequence ("NOW" ∷ []) false
    -- stages may be missing, and none comes again after a later one
    ∷ sequence ("ALT" ∷ "ALT" ∷ "REC" ∷ "XRF" ∷ []) true
    ∷ sequence ("OWR" ∷ "SWR" ∷ []) false
    -- NPR and IND begin their stage, and the leader may follow
    ∷ sequence ("SWR" ∷ "NPR" ∷ "PER" ∷ "NPR" ∷ "IND" ∷ "IND" ∷ "INS" ∷ []) true
    ∷ sequence ("NPR" ∷ "VER" ∷ []) false
    ∷ []

all-sequences : map computed examples ≡ map said examples
unfolding examples computed said in_order spots stages begins
all-sequences = refl
