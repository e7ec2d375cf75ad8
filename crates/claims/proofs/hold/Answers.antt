-- `claims::hold` meets its contract.
use Prim.Native.Nat.{ℕ, ◌<◌, ◌≤◌}
use mathlib.Core.Path.{◌≡◌, sym, ◌∙◌}
use mathlib.Core.Bool.{Bool, true, false, ◌||◌, or-false, or-true}
use mathlib.Core.List.{List}
use native.Mathlib.Omega.{arith}
use borrow.Author.Tests.{eqb-true, eqb-false, ne_eqb}
use lib.Dec.{eqb}
use lib.ListN.{length, get_or, set, length-set}
use lib.Seq.{get_or-set_same, get_or-set_other}
use Rattle.format.proofs.Tests.{by_cases}
use Rattle.claims.proofs.hold.Goals as goal

marked : (held : List Bool) (group i : ℕ) → group < length held → get_or (set held group true) i false ≡ (get_or held i false || eqb group i)
marked held group i h =
    by_cases (eqb group i)
    (λ e. rw (e, sym (eqb-true group i e), get_or-set_same held group true false h) (sym (or-true (get_or held group false))))
    (λ e. rw (e, get_or-set_other held group i true false (λ z. eqb-false group i e (sym z))) (sym (or-false (get_or held i false))))

pub returns-then-group-lt-MOST : goal.returns-then-group-lt-MOST
returns-then-group-lt-MOST c =
    let a = c.args in
    let long = c.requires in
    record { held_len = length-set a.held.now a.group true ∙ long; by_index = λ i h. marked a.held.now a.group i (omega (arith, long, c.if-group-lt-MOST.true)) }

beyond : (b : Bool) (group i : ℕ) → 512 ≤ group → i < 512 → b ≡ (b || eqb group i)
beyond b group i far h = rw (ne_eqb group i (λ z. omega arith)) (sym (or-false b))

pub returns-else-group-lt-MOST : goal.returns-else-group-lt-MOST
returns-else-group-lt-MOST c = record { held_len = c.requires; by_index = λ i h. beyond (get_or c.args.held.now i false) c.args.group i c.if-group-lt-MOST.false h }
