-- Within the size limits the code's one number is the exact one. Assumes nothing.
use Prim.Native.Nat.{ℕ}
use native.Mathlib.Omega.{arith}
use mathlib.Core.Path.{◌≡◌, refl, ap, ◌∙◌}
use Rattle.format.specs.Structure.{Answer, refused, passed}
use Rattle.format.specs.Claims.{Near}
use Rattle.answers.specs.Numbers.{exact}
use Rattle.answers.specs.Packed.{packed_of}

packed-exact : (a : Answer) → Near a → packed_of a ≡ exact a
packed-exact (refused n i) h = omega arith
packed-exact (passed g m r) h = refl

-- of an answer a that is known to be b
pub exact-so : {r : ℕ} {a b : Answer} → r ≡ packed_of a → a ≡ b → Near b → r ≡ exact b
exact-so {b = b} e is h = e ∙ ap packed_of is ∙ packed-exact b h
