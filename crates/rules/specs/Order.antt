-- The order of a transaction's details, finding 8. The stages and the spots that a type has in them stand in the format (Stages).
use Rattle.std.specs.Prelude.{◌≤◌, Bool, true, not, ◌&&◌, ◌||◌, List, [], ◌∷◌, map, leb, ltb, eqb, length, take}
use Rattle.format.specs.Bytes.{Bytes}
use Rattle.format.specs.Stages.{Spot, spot, spots, begins}
use Rattle.rules.specs.Records.{only, any}
use Rattle.rules.specs.Other.{is24}

-- ---- whether a record of a type may take the spot `to` after a record that took the spot `from`

-- a leader: in its stage again, or in a later one
abbrev pub leads : Spot → Spot → Bool
leads from to = eqb to.rank 0 && leb from.stage to.stage

-- a bracketed type: after its leader, and not after one of a later bracket
abbrev pub continues : Spot → Spot → Bool
continues from to = eqb from.stage to.stage && leb from.rank to.rank

-- NPR and IND: as the first of a later stage
abbrev pub enters : Bytes → Spot → Spot → Bool
enters type from to = begins type && ltb from.stage to.stage

abbrev pub may_take : Bytes → Spot → Spot → Bool
may_take type from to = leads from to || continues from to || enters type from to

-- ---- the records in sequence

-- there is a sequence of spots, one for each record and of its type; the first may be taken after `from`, each next after the one before
unfoldable pub in_order : Spot → List Bytes → Bool
in_order from [] = true
in_order from (type ∷ types) = any (λ to. may_take type from to && in_order to types) (spots type)

-- before the first stage
abbrev pub outset : Spot
outset = spot 0 0

-- the types of finding 24 are as if not there
abbrev pub counted_types : List Bytes → List Bytes
counted_types details = map (take 3) (only (λ r. not (is24 r)) details)

-- T43, TR: out of order
unfoldable pub is8 : List Bytes → Bool
is8 ds = not (in_order outset (counted_types ds))

-- ---- what is claimed; proofs/Order.antt has the proof

-- no type has two spots that it may take after one, so there is no second such sequence
abbrev pub OneSpot : Type 0
OneSpot = (type : Bytes) (from : Spot) → length (only (may_take type from) (spots type)) ≤ 1
