-- `sheet::difference` meets its contract: both numbers fit with a sign, and so does their difference. Assumes nothing.
use Prim.Native.Nat.{ℕ, ◌^◌, ◌<◌}
use native.Mathlib.Omega.{arith}
use mathlib.Core.Path.{◌≡◌, sym, subst, ◌∙◌}
use lib.IntN.{pos, sub_ℕ, ◌-ℤ◌}
use mir.Syntax.{w64}
use mir.Val.{SFits, to_z}
use mir.ValLaws.{to_z-of_z}
use Rattle.sheet.proofs.Stops.{sub-fits}
use Rattle.sheet.proofs.Differences.{sub_is}
use Rattle.sheet.proofs.difference.Goals as goal

as_read : (a b : ℕ) → (a < 2 ^ 63) × (b < 2 ^ 63) → sub_ℕ a b ≡ to_z w64 a -ℤ to_z w64 b
as_read a b (p, q) = sub_is a b ∙ sym (rw (to_z-of_z w64 (pos a) (record { sfits = p }), to_z-of_z w64 (pos b) (record { sfits = q })))

pub overflow_sub-result : goal.overflow_sub-result
overflow_sub-result c =
    subst (SFits w64) (as_read c.args.over c.args.short c.requires)
    (record { sfits = sub-fits c.args.over c.args.short c.requires.0 (omega arith) })

pub returns : goal.returns
returns c = to_z-of_z w64 _ (overflow_sub-result c) ∙ sym (as_read c.args.over c.args.short c.requires)
