-- `tables::listed` meets its contract: what the library's search says of the part, said of the slots.
use Prim.Native.Nat.{◌+◌, ◌-◌}
use mathlib.Core.Path.{sym, ◌∙◌}
use native.Mathlib.Omega.{arith}
use Rattle.tables.proofs.Slots.{search_stands, search_found}
use Rattle.tables.proofs.listed.Goals as goal

pub returns-clause-stands : goal.returns-clause-stands
returns-clause-stands c t =
    search_stands _ c.args.first _ c.args.slots.now (omega arith) (omega arith) _ c.binary_search.ensures.bound c.binary_search.ensures.position
    (sym c.is_ok.ensures.value ∙ t)

pub returns-clause-value : goal.returns-clause-value
returns-clause-value c up s =
    c.is_ok.ensures.value ∙ search_found _ c.args.first (c.args.first + 1024 - c.args.first) c.args.slots.now (omega arith) (omega arith) _ c.binary_search.ensures.position up s
