-- Two's complement, both ways. Assumes nothing.
use Prim.Native.Nat.{ℕ, ◌^◌, ◌<◌}
use native.Mathlib.Omega.{arith}
use mathlib.Core.Path.{◌≡◌, refl}
use lib.Dec.{ltb}
use lib.IntN.{ℤ, pos, negsuc}
use lib.Signed.{mag}
use mir.Syntax.{w64}
use mir.Val.{to_z, of_z}
use mir.ValLaws.{to_z-of_z}
use Rattle.format.proofs.Tests.{by_cases}
use Rattle.sheet_bytes.specs.Layout.{signed_of, unsigned_of}

pub signed_back : (z : ℤ) → mag z < 2 ^ 63 → signed_of (unsigned_of z) ≡ z
signed_back (pos n) h = to_z-of_z w64 (pos n) (record { sfits = h })
signed_back (negsuc n) h = to_z-of_z w64 (negsuc n) (record { sfits = h })

pub unsigned_back : (n : ℕ) → n < 2 ^ 64 → unsigned_of (signed_of n) ≡ n
unsigned_back n h = by_cases (ltb n (2 ^ 63)) (λ e. rw e refl) (λ e. rw e (omega arith))

-- std's casts are the same
pub signed-is : (n : ℕ) → to_z w64 n ≡ signed_of n
signed-is n = by_cases (ltb n (2 ^ 63)) (λ e. rw e refl) (λ e. rw e refl)

pub unsigned-is : (z : ℤ) → of_z w64 z ≡ unsigned_of z
unsigned-is (pos n) = refl
unsigned-is (negsuc n) = refl
