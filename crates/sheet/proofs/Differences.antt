-- Signed differences: of two sums, and as the sum of a list's differences. Assumes nothing.
use Prim.Native.Nat.{ℕ, zero, suc, ◌+◌, ◌-◌}
use native.Mathlib.Omega.{arith}
use mathlib.Core.Path.{◌≡◌, refl, sym, ap, ◌∙◌}
use mathlib.Core.List.{List, [], ◌∷◌, map}
use lib.IntN.{ℤ, pos, negsuc, neg_ℤ, sub_ℕ, ◌+ℤ◌, ◌-ℤ◌, +ℤ_assoc, +ℤ_comm, neg_ℤ-+ℤ}
use Rattle.rules.specs.Values.{full_share}
use Rattle.rules.specs.Sheet.{missed_by, sumℤ}
use Rattle.rules.specs.Claims.{sum}
use Rattle.figures.specs.Counted.{misses_by, told}
use Rattle.sheet.proofs.Stops.{sub_cases}

pub sub_is : (a b : ℕ) → sub_ℕ a b ≡ pos a -ℤ pos b
sub_is a zero = sub_cases (λ z. z ≡ pos (a + 0)) a 0 (λ h. absurd (omega arith)) (λ h. ap pos (omega arith))
sub_is a (suc b) = refl

-- the second and the third of four change places
swapped : (p q r s : ℤ) → (p +ℤ q) +ℤ (r +ℤ s) ≡ (p +ℤ r) +ℤ (q +ℤ s)
swapped p q r s =
    +ℤ_assoc p q (r +ℤ s)
    ∙ ap (λ z. p +ℤ z) (sym (+ℤ_assoc q r s) ∙ ap (λ z. z +ℤ s) (+ℤ_comm q r) ∙ +ℤ_assoc r q s)
    ∙ sym (+ℤ_assoc p r (q +ℤ s))

-- of sums: the sum of the differences
sub-plus : (a b c d : ℕ) → sub_ℕ (a + c) (b + d) ≡ sub_ℕ a b +ℤ sub_ℕ c d
sub-plus a b c d =
    sub_is (a + c) (b + d)
    ∙ ap (λ z. pos (a + c) +ℤ z) (neg_ℤ-+ℤ (pos b) (pos d))
    ∙ swapped (pos a) (pos c) (neg_ℤ (pos b)) (neg_ℤ (pos d))
    ∙ (λ i. sym (sub_is a b) i +ℤ sym (sub_is c d) i)

-- one of the two is 0
sub_parts : (a b : ℕ) → sub_ℕ (a - b) (b - a) ≡ sub_ℕ a b
sub_parts a b =
    sub_cases (λ z. sub_ℕ (a - b) (b - a) ≡ z) a b
    (λ h. sub_cases (λ z. z ≡ negsuc (b - suc a)) (a - b) (b - a) (λ k. ap negsuc (omega arith)) (λ k. absurd (omega arith)))
    (λ h. sub_cases (λ z. z ≡ pos (a - b)) (a - b) (b - a) (λ k. absurd (omega arith)) (λ k. ap pos (omega arith)))

over-short : (totals : List ℕ)
    → sub_ℕ (sum (map (λ total. total - full_share) totals)) (sum (map (λ total. full_share - total) totals))
    ≡ sumℤ (map (λ total. sub_ℕ total full_share) totals)
over-short [] = refl
over-short (total ∷ totals) =
    sub-plus (total - full_share) (full_share - total)
    (sum (map (λ total. total - full_share) totals)) (sum (map (λ total. full_share - total) totals))
    ∙ (λ i. sub_parts total full_share i +ℤ over-short totals i)

-- the two sums of a file, with their signs, are what the sheet has
pub told-misses : (totals : List ℕ) → told (misses_by totals) ≡ missed_by totals
unfolding misses_by missed_by
told-misses totals = ap
    (λ (z : ℤ). record {
      transactions = (missed_by totals).transactions;
      shortfall = (missed_by totals).shortfall;
      excess = (missed_by totals).excess;
      sum = z;
    })
    (over-short totals)
