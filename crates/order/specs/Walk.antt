-- Internal: finding 8 as the code decides it, by a walk from spot to spot that takes for each record the first spot that fits. Since no
-- type has two such spots, the walk gets nowhere just where the records are out of order (`nowhere-is` in proofs/Laws.antt).
use Rattle.std.specs.Prelude.{ℕ, Bool, true, false, cond, ◌&&◌, ◌||◌, List, [], ◌∷◌, ltb}
use Rattle.std.proofs.Math.Option.{Option, none, some}
use Rattle.format.specs.Bytes.{Bytes}
use Rattle.format.specs.Stages.{Spot, spot, spots}
use Rattle.rules.specs.Order.{leads, continues, may_take, outset, counted_types}
use Rattle.kinds.specs.declared.Row.{Row}
use Rattle.order.specs.declared.Order.{Order}

abbrev pub first_fit : (Spot → Bool) → List Spot → Option Spot
first_fit fits [] = none
first_fit fits (to ∷ tos) = cond (fits to) (some to) (first_fit fits tos)

unfoldable pub taken : Spot → Bytes → Option Spot
taken from type = first_fit (may_take type from) (spots type)

-- the next record's type taken from where the types before have led; nowhere, where one could take no spot
abbrev pub on : Option Spot → Bytes → Option Spot
on none type = none
on (some from) type = taken from type

abbrev pub walk : Option Spot → List Bytes → Option Spot
walk at [] = at
walk at (type ∷ types) = walk (on at type) types

abbrev pub nowhere : Option Spot → Bool
nowhere none = true
nowhere (some at) = false

-- where the details lead
unfoldable pub reached : List Bytes → Option Spot
reached details = walk (some outset) (counted_types details)

-- ---- the code's `Order`

abbrev pub spot_of : Order → Spot
spot_of o = spot o.stage o.rank

-- where it stands
abbrev pub standing : Order → Option Spot
standing o = cond o.broken none (some (spot_of o))

-- whether a record of the row may take, from there, its spot in that stage; stage 0 is none
abbrev pub takes : Order → Row → ℕ → Bool
takes o row stage =
    ltb 0 stage
    && (leads (spot_of o) (spot stage row.rank) || continues (spot_of o) (spot stage row.rank) || (row.alone && ltb o.stage stage))
