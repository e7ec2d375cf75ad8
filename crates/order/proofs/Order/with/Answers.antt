-- `order::Order::with` meets its contract: the first of the three columns that may be taken is where the record leads.
-- Assumes nothing.
use mathlib.Core.Path.{sym, ◌∙◌}
use Rattle.order.proofs.Laws.{either-none, stays, goes}
use Rattle.order.proofs.Order.with.Goals as goal

pub returns-then-row-eq0 : goal.returns-then-row-eq0
returns-then-row-eq0 c ds r its d stands = stays c.args.self c.args.row ds r its d stands c.if-row-eq0.true

pub returns-then-takes : goal.returns-then-takes
returns-then-takes c ds r its d stands =
    let first = sym c.takes.ensures ∙ c.if-takes.true in
    rw c.moved.ensures (rw first at (goes c.args.self c.args.row ds r its d stands c.if-row-eq0.false))

pub returns-then-takes-2 : goal.returns-then-takes-2
returns-then-takes-2 c ds r its d stands =
    let first = sym c.takes.ensures ∙ c.if-takes.false in
    let second = sym c.takes-2.ensures ∙ c.if-takes-2.true in
    rw c.moved-then-takes-2.ensures (rw (first, second) at (goes c.args.self c.args.row ds r its d stands c.if-row-eq0.false))

pub returns-then-takes-3 : goal.returns-then-takes-3
returns-then-takes-3 c ds r its d stands =
    let first = sym c.takes.ensures ∙ c.if-takes.false in
    let second = sym c.takes-2.ensures ∙ c.if-takes-2.false in
    let third = sym c.takes-3.ensures ∙ c.if-takes-3.true in
    rw c.moved-then-takes-3.ensures (rw (first, second, third) at (goes c.args.self c.args.row ds r its d stands c.if-row-eq0.false))

pub returns : goal.returns
returns c ds r its d stands =
    let first = sym c.takes.ensures ∙ c.if-takes.false in
    let second = sym c.takes-2.ensures ∙ c.if-takes-2.false in
    let third = sym c.takes-3.ensures ∙ c.if-takes-3.false in
    sym (either-none c.args.self.broken)
    ∙ rw (first, second, third) at (goes c.args.self c.args.row ds r its d stands c.if-row-eq0.false)
