-- The numbers that fields hold: how large they are. Assumes nothing.
use Prim.Native.Nat.{ℕ, ◌+◌, ◌-◌, ◌*◌, ◌^◌, ◌≤◌, ◌<◌}
use native.Mathlib.Nat.{pow-suc, pow-le-pow_right, mul-le-mul_right}
use native.Mathlib.Omega.{arith}
use mathlib.Core.Path.{◌≡◌, refl}
use mathlib.Core.Bool.{Bool, true, false, cond, and-eq-true_iff}
use mathlib.Core.List.{[], ◌∷◌}
use lib.Dec.{leb, lit<}
use lib.ListN.{length, length-take}
use borrow.Author.Tests.{leb-true}
use Rattle.format.specs.Bytes.{Bytes}
use Rattle.format.specs.Fields.{field_of, is_digit, are_digits, digit, number_from, number_of}
use Rattle.rules.specs.Values.{share_of}
use Rattle.rules.specs.Chains.{all_shares}

pub field-short : (start size : ℕ) (r : Bytes) → length (field_of start size r) ≤ size
unfolding field_of
field-short start size r = rw length-take (omega arith)

digit-range : (b : ℕ) → is_digit b ≡ true → (48 ≤ b) × (b ≤ 57)
digit-range b e = let h = (and-eq-true_iff (leb 48 b) (leb b 57)).0 e in (leb-true 48 b h.0, leb-true b 57 h.1)

digit-most : (b : ℕ) → digit b ≤ 9
digit-most b = most (is_digit b) (digit-range b)
  where
    most : (t : Bool) → (t ≡ true → (48 ≤ b) × (b ≤ 57)) → cond t (b - 48) 0 ≤ 9
    most true h = omega (arith, h refl)
    most false h = omega arith

number-from-below : (n : ℕ) (f : Bytes) → number_from n f < (n + 1) * 10 ^ length f
number-from-below n [] = omega arith
number-from-below n (b ∷ f) =
    let more : (10 * n + digit b + 1) * 10 ^ length f ≤ (10 * (n + 1)) * 10 ^ length f = mul-le-mul_right (10 ^ length f) (omega (arith, digit-most b)) in
    rw pow-suc (omega (arith, number-from-below (10 * n + digit b) f))

pub number-below : (f : Bytes) → number_of f < 10 ^ length f
unfolding number_of
number-below f = omega (arith, number-from-below 0 f)

-- a share of five bytes at most
pub share-most : (f : Bytes) → length f ≤ 5 → share_of f ≤ 99999
unfolding share_of
share-most f h = most (are_digits f) (omega (arith, number-below f, pow-le-pow_right {n = 10} (lit< tt) {i = length f} {j = 5} h))
  where
    most : (t : Bool) → number_of f ≤ 99999 → cond t (number_of f) 0 ≤ 99999
    most true k = k
    most false k = omega arith

pub all-shares-most : (r : Bytes) → all_shares r ≤ 299997
all-shares-most r =
    omega (
      arith,
      share-most (field_of 116 5 r) (field-short 116 5 r),
      share-most (field_of 124 5 r) (field-short 124 5 r),
      share-most (field_of 132 5 r) (field-short 132 5 r),
    )
