-- Sums that stop, and the larger of two numbers, as std's methods have them. Assumes nothing.
use Prim.Native.Nat.{ℕ, suc, ◌+◌, ◌-◌, ◌^◌, ◌<◌, ◌≤◌, min, max}
use native.Mathlib.Omega.{arith}
use mathlib.Core.Path.{◌≡◌, ap}
use mathlib.Core.Bool.{cond}
use lib.Dec.{ltb, leb}
use lib.IntN.{ℤ, pos, negsuc, sub_ℕ}
use lib.Signed.{mag}
use borrow.Author.Tests.{ltb-true, ltb-false}
use Rattle.std.specs.Int.{saturate_to_bits}
use Rattle.std.proofs.lemmas.Bool.Decides.{nat_tests}
use Rattle.format.proofs.Tests.{by_cases}
use Rattle.rules.specs.Findings.{larger}
use Rattle.rules.specs.Sheet.{most, plus, mostℤ, within}

cut : (n m : ℕ) → min n m ≡ cond (leb n m) n m
cut n m = grind (arith, nat_tests)

pub plus-is : (a b : ℕ) → min (a + b) most ≡ plus a b
plus-is a b = cut (a + b) most

pub within-is : (z : ℤ) → saturate_to_bits 63 z ≡ within z
within-is (pos n) = ap pos (cut n mostℤ)
within-is (negsuc n) = ap negsuc (cut n mostℤ)

pub larger-is : (a b : ℕ) → max a b ≡ larger a b
larger-is a b = grind (arith, nat_tests)

-- what holds of either outcome of a difference holds of it
pub sub_cases : (P : ℤ → Type 0) (a b : ℕ) → (a < b → P (negsuc (b - suc a))) → (b ≤ a → P (pos (a - b))) → P (sub_ℕ a b)
sub_cases P a b f g = by_cases (ltb a b) (λ e. rw e (f (ltb-true a b e))) (λ e. rw e (g (ltb-false a b e)))

-- a difference is no larger than the numbers
pub sub-fits : (a b : ℕ) → a < 2 ^ 63 → b ≤ 2 ^ 63 → mag (sub_ℕ a b) < 2 ^ 63
sub-fits a b p q = sub_cases (λ z. mag z < 2 ^ 63) a b (λ h. omega arith) (λ h. omega arith)
