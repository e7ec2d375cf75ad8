-- The tree of a file's records as a walk meets it: a transaction is its header and the details up to the first record that is none, a group
-- ends with the first record that is neither header nor detail, and what is left after either is the tree of what is left. Assumes nothing.
use mathlib.Core.Path.{◌≡◌, refl, ap, ◌∙◌}
use mathlib.Core.Bool.{Bool, true, false}
use mathlib.Core.List.{List, [], ◌∷◌, ◌++◌}
use Rattle.format.specs.Bytes.{Bytes}
use Rattle.format.specs.Table.{head, detail, Table}
use Rattle.format.specs.Checks.{cls}
use Rattle.format.specs.Structure.{first_record}
use Rattle.format.specs.Tree.{span, after, is_grh, is_head, is_detail, is_inside, transactions_in, groups_in}
use Rattle.format.proofs.Logic.{is_T}
use Rattle.format.proofs.Tests.{by_cases}
use Rattle.format.proofs.Tree.{is→eq}

-- ---- spans within spans

module _ (p q : Bytes → Bool) (within : (r : Bytes) → p r ≡ true → q r ≡ true) where
  span-within : (rs : List Bytes) → span p (span q rs) ≡ span p rs
  span-within [] = refl
  span-within (r ∷ rs) = by_cases (p r) (λ e. rw (within r e, e, span-within rs)) (λ e. by_cases (q r) (λ f. rw (f, e)) (λ f. rw (f, e)))

  span-on : (rs : List Bytes) → span q rs ≡ span p rs ++ span q (after p rs)
  span-on [] = refl
  span-on (r ∷ rs) = by_cases (p r) (λ e. rw (within r e, e) (ap (λ l. r ∷ l) (span-on rs))) (λ e. rw e)

  after_on : (rs : List Bytes) → after q rs ≡ after q (after p rs)
  after_on [] = refl
  after_on (r ∷ rs) = by_cases (p r) (λ e. rw (within r e, e) (after_on rs)) (λ e. rw e)

module _ (𝕋 : Table) where
  detail-inside : (r : Bytes) → is_detail 𝕋 r ≡ true → is_inside 𝕋 r ≡ true
  detail-inside r e = rw (← is→eq detail (cls 𝕋 r) (is_T (is_detail 𝕋 r) e))

  detail-no-header : (r : Bytes) → is_detail 𝕋 r ≡ true → is_head 𝕋 r ≡ false
  detail-no-header r e = rw (← is→eq detail (cls 𝕋 r) (is_T (is_detail 𝕋 r) e))

  header-inside : (r : Bytes) → is_head 𝕋 r ≡ true → is_inside 𝕋 r ≡ true
  header-inside r e = rw e

  inside-no-group : (r : Bytes) → is_inside 𝕋 r ≡ true → is_grh 𝕋 r ≡ false
  inside-no-group r e =
      by_cases (is_head 𝕋 r)
      (λ h. rw (← is→eq head (cls 𝕋 r) (is_T (is_head 𝕋 r) h)))
      (λ h. rw (← is→eq detail (cls 𝕋 r) (is_T (is_detail 𝕋 r) (rw h at e))))

  -- ---- transactions

  skip-details : (rs qs : List Bytes) → transactions_in 𝕋 (span (is_detail 𝕋) rs ++ qs) ≡ transactions_in 𝕋 qs
  skip-details [] qs = refl
  skip-details (r ∷ rs) qs = by_cases (is_detail 𝕋 r) (λ e. rw (e, detail-no-header r e) (skip-details rs qs)) (λ e. rw e)

  pub transaction-first : (r : Bytes) (rs : List Bytes) → is_head 𝕋 r ≡ true
      → transactions_in 𝕋 (span (is_inside 𝕋) (r ∷ rs))
      ≡ record { header = r; details = span (is_detail 𝕋) rs } ∷ transactions_in 𝕋 (span (is_inside 𝕋) (after (is_detail 𝕋) rs))
  transaction-first r rs e =
      rw (header-inside r e, e, span-within (is_detail 𝕋) (is_inside 𝕋) detail-inside rs)
      (ap (λ l. record { header = r; details = span (is_detail 𝕋) rs } ∷ l)
      (ap (transactions_in 𝕋) (span-on (is_detail 𝕋) (is_inside 𝕋) detail-inside rs)
      ∙ skip-details rs (span (is_inside 𝕋) (after (is_detail 𝕋) rs))))

  pub transactions-none : (r : Bytes) (rs : List Bytes) → is_inside 𝕋 r ≡ false → transactions_in 𝕋 (span (is_inside 𝕋) (r ∷ rs)) ≡ []
  transactions-none r rs e = rw e

  -- the end of a group is found after the details of any of its transactions
  pub inside-after : (rs : List Bytes) → after (is_inside 𝕋) rs ≡ after (is_inside 𝕋) (after (is_detail 𝕋) rs)
  inside-after rs = after_on (is_detail 𝕋) (is_inside 𝕋) detail-inside rs

  -- ---- groups

  skip-inside : (rs : List Bytes) → groups_in 𝕋 rs ≡ groups_in 𝕋 (after (is_inside 𝕋) rs)
  skip-inside [] = refl
  skip-inside (r ∷ rs) = by_cases (is_inside 𝕋 r) (λ e. rw (inside-no-group r e, e) (skip-inside rs)) (λ e. rw e)

  pub group-first : (r : Bytes) (rs : List Bytes) → is_grh 𝕋 r ≡ true
      → groups_in 𝕋 (r ∷ rs)
      ≡ record { opening = r; transactions = transactions_in 𝕋 (span (is_inside 𝕋) rs); closing = first_record (after (is_inside 𝕋) rs) }
      ∷ groups_in 𝕋 (after (is_inside 𝕋) rs)
  group-first r rs e =
      rw e
      (ap (λ l. record { opening = r; transactions = transactions_in 𝕋 (span (is_inside 𝕋) rs); closing = first_record (after (is_inside 𝕋) rs) } ∷ l)
      (skip-inside rs))

  pub groups-skip : (r : Bytes) (rs : List Bytes) → is_grh 𝕋 r ≡ false → groups_in 𝕋 (r ∷ rs) ≡ groups_in 𝕋 rs
  groups-skip r rs e = rw e
