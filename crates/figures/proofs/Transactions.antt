-- What transactions miss of the full share, with one transaction more. Assumes nothing.
use Prim.Native.Nat.{ℕ, ◌+◌, ◌-◌, max}
use native.Mathlib.Omega.{arith}
use mathlib.Core.Path.{◌≡◌, refl, ap, ◌∙◌}
use mathlib.Core.Bool.{Bool, true, false, not, ◌&&◌, ◌||◌}
use mathlib.Core.List.{List, [], ◌∷◌, ◌++◌, map, map-append}
use lib.Dec.{eqb}
use lib.ListN.{length-append}
use Rattle.format.specs.Doc.{Transaction}
use Rattle.rules.specs.Values.{full_share}
use Rattle.rules.specs.Findings.{larger}
use Rattle.rules.specs.Records.{only}
use Rattle.rules.specs.Totals.{Right, PR, MR, SR, whole_total}
use Rattle.rules.specs.Sheet.{largest, misses, totals_of}
use Rattle.rules.specs.Claims.{sum}
use Rattle.rules.proofs.Lists.{only_kept, only-left}
use Rattle.rules.proofs.Counts.{larger-max, largest-of, sum-append}
use Rattle.totals.specs.declared.Rights.{Rights}
use Rattle.figures.specs.declared.Misses.{Misses}
use Rattle.figures.specs.declared.Missing.{Missing}
use Rattle.figures.specs.Counted.{misses_by, misses_of, missing_of, whole_of}

larger-one : (m n : ℕ) → larger m (larger n 0) ≡ larger m n
larger-one m n = rw (larger-max n 0, larger-max m (max n 0), larger-max m n) (omega arith)

-- a difference of the totals, added up and at its largest
module _ (f : ℕ → ℕ) (totals : List ℕ) (total : ℕ) where
  largest-more : largest (map f (totals ++ total ∷ [])) ≡ max (largest (map f totals)) (f total)
  largest-more =
      largest-of f totals (total ∷ []) ∙ larger-one (largest (map f totals)) (f total) ∙ larger-max (largest (map f totals)) (f total)

  sum_more : sum (map f (totals ++ total ∷ [])) ≡ sum (map f totals) + f total
  sum_more = ap sum (map-append f totals (total ∷ [])) ∙ rw (sum-append (map f totals) (f total ∷ [])) (omega arith)

-- the misses with one total more that misses the full share
abbrev pub one_more : Misses → ℕ → Misses
one_more m total = record {
  transactions = m.transactions + 1;
  shortfall = max m.shortfall (full_share - total);
  excess = max m.excess (total - full_share);
  short = m.short + (full_share - total);
  over = m.over + (total - full_share);
}

module _ (totals : List ℕ) (total : ℕ) where
  pub misses_more : misses total ≡ true → misses_of (totals ++ total ∷ []) ≡ one_more (misses_of totals) total
  unfolding misses_of misses_by
  misses_more e =
      rw (
        only_kept misses totals total e,
        length-append (only misses totals) (total ∷ []),
        largest-more (λ n. full_share - n) (only misses totals) total,
        largest-more (λ n. n - full_share) (only misses totals) total,
        sum_more (λ n. full_share - n) (only misses totals) total,
        sum_more (λ n. n - full_share) (only misses totals) total,
      )

  pub misses-same : misses total ≡ false → misses_of (totals ++ total ∷ []) ≡ misses_of totals
  unfolding misses_of
  misses-same e = ap misses_by (only-left misses totals total e)

-- what the code tests: 0 or the full share
pub tested : (total : ℕ) → misses total ≡ not (eqb total 0 || eqb total full_share)
tested total = neither (eqb total 0) (eqb total full_share)
  where
    neither : (a b : Bool) → (not a && not b) ≡ not (a || b)
    neither true b = refl
    neither false b = refl

-- of all three rights, where r is m with one total more
abbrev More : Misses → ℕ → Misses → Type 0
More m total r = (totals : List ℕ) → m ≡ misses_of totals → r ≡ misses_of (totals ++ total ∷ [])

module _ (xs : List Transaction) (x : Transaction) where
  totals-more : (right : Right) → totals_of right (xs ++ x ∷ []) ≡ totals_of right xs ++ whole_total right x.details ∷ []
  totals-more right = map-append (λ (y : Transaction). whole_total right y.details) xs (x ∷ [])

  pub missing-more : (m : Missing) (total : Rights) {pr mr sr : Misses} → More m.pr total.pr pr → More m.mr total.mr mr
      → More m.sr total.sr sr → m ≡ missing_of xs → total ≡ whole_of x → (record { pr = pr; mr = mr; sr = sr }) ≡ missing_of (xs ++ x ∷ [])
  unfolding missing_of
  missing-more m total p q r e w =
      rw (
        p (totals_of PR xs) (ap (λ (m : Missing). m.pr) e),
        q (totals_of MR xs) (ap (λ (m : Missing). m.mr) e),
        r (totals_of SR xs) (ap (λ (m : Missing). m.sr) e),
        w,
        totals-more PR,
        totals-more MR,
        totals-more SR,
      )
