-- A search for the first row of a type, over any rows.
-- Assumes nothing.
use Prim.Native.Nat.{ℕ, zero, suc, ◌+◌, ◌<◌, ◌≤◌}
use native.Mathlib.Nat.{le_of_suc-le-suc, not-suc-le-zero}
use native.Mathlib.Numerals.{add-one}
use native.Mathlib.Omega.{arith}
use mathlib.Core.Path.{◌≡◌, refl, ap, sym, ◌∙◌}
use mathlib.Core.Bool.{Bool, true, false, ◌&&◌, ◌||◌, not, or-true, false≢true}
use mathlib.Core.List.{List, [], ◌∷◌}
use lib.ListN.{length, get_or, drop, drop_of_length-le}
use lib.Seq.{drop-cons}
use borrow.Author.Tests.{not-true}
use Rattle.format.specs.Bytes.{Bytes, same_bytes}
use Rattle.kinds.specs.Rows.{type_of, no_row, first_row}
use Rattle.kinds.specs.declared.Row.{Row}
use Rattle.format.proofs.Tests.{by_cases, both, same→eq}

-- ---- one turn of a search at i, where the rows from i on decide

module _ (l : List Row) (type : Bytes) (i : ℕ) (rest : first_row (drop i l) type ≡ first_row l type) where
  module _ (inside : i < length l) (d : Row) where
    pub hit : same_bytes (type_of (get_or l i d)) type ≡ true → get_or l i d ≡ first_row l type
    hit e = rw (drop-cons l i d, e) at rest

    pub miss : same_bytes (type_of (get_or l i d)) type ≡ false → first_row (drop (i + 1) l) type ≡ first_row l type
    miss e = rw add-one (rw (drop-cons l i d, e) at rest)

  pub none : length l ≤ i → no_row ≡ first_row l type
  none h = rw (drop_of_length-le l h) at rest

-- a row's type has three bytes, so no row is of a shorter one
pub short : (l : List Row) (type : Bytes) → length type < 3 → first_row l type ≡ no_row
short [] type h = refl
short (r ∷ l) type h =
    by_cases (same_bytes (type_of r) type) (λ e. absurd (omega (arith, ap length (same→eq (type_of r) type e)))) (λ e. rw e (short l type h))

-- ---- where no two rows share a type, any row of a type is its first

unfoldable pub has : List Row → Bytes → Bool
has [] type = false
has (r ∷ l) type = same_bytes (type_of r) type || has l type

unfoldable pub distinct : List Row → Bool
distinct [] = true
distinct (r ∷ l) = not (has l (type_of r)) && distinct l

module _ (type : Bytes) (d : Row) where
  has-at : (l : List Row) (k : ℕ) → k < length l → same_bytes (type_of (get_or l k d)) type ≡ true → has l type ≡ true
  unfolding has
  has-at [] k h e = absurd (not-suc-le-zero h)
  has-at (r ∷ l) zero h e = rw e
  has-at (r ∷ l) (suc k) h e = rw (has-at l k (le_of_suc-le-suc h) e, or-true (same_bytes (type_of r) type))

  pub only : (l : List Row) → distinct l ≡ true → (k : ℕ) → k < length l → same_bytes (type_of (get_or l k d)) type ≡ true
      → get_or l k d ≡ first_row l type
  unfolding has distinct
  only [] q k h e = absurd (not-suc-le-zero h)
  only (r ∷ l) q zero h e = rw e
  only (r ∷ l) q (suc k) h e =
      let p = both (not (has l (type_of r))) (distinct l) q in
      by_cases (same_bytes (type_of r) type)
      (λ s.
      let later : has l (type_of r) ≡ true = rw (same→eq (type_of r) type s) (has-at l k (le_of_suc-le-suc h) e) in
      absurd (false≢true (sym (not-true (has l (type_of r)) p.0) ∙ later)))
      (λ s. rw s (only l p.1 k (le_of_suc-le-suc h) e))
