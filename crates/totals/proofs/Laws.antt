-- Totals with one record more. Assumes nothing.
use Prim.Native.Nat.{ℕ, ◌+◌}
use mathlib.Core.Path.{◌≡◌, sym, ap, ◌∙◌}
use mathlib.Core.Bool.{Bool, true, false}
use mathlib.Core.List.{List, [], ◌∷◌, ◌++◌}
use Rattle.format.specs.Bytes.{Bytes}
use Rattle.rules.specs.Records.{is_publisher, is_writer, only}
use Rattle.rules.specs.Totals.{Right, PR, MR, SR, publisher_share, writer_share, sum_of, publishers_total, writers_total}
use Rattle.rules.proofs.Lists.{only_kept, only-left, sum-last}
use Rattle.rules.proofs.Types.{publisher-no-writer, writer-no-publisher}
use Rattle.totals.specs.declared.Rights.{Rights}
use Rattle.totals.specs.declared.Totals.{Totals}
use Rattle.totals.specs.Sums.{rights, plus, Sums}

-- what holds of each right
alike : (f g : Right → ℕ) → ((right : Right) → f right ≡ g right) → rights f ≡ rights g
alike f g e = rw (e PR, e MR, e SR)

-- over the records that pass p, each with its shares
module _ (share : Right → Bytes → ℕ) (p : Bytes → Bool) (ds : List Bytes) (r : Bytes) where
  summed : (right : Right) → p r ≡ true → sum_of (share right) (only p (ds ++ r ∷ [])) ≡ sum_of (share right) (only p ds) + share right r
  summed right e = ap (sum_of (share right)) (only_kept p ds r e) ∙ sum-last (share right) (only p ds) r

  more : (total shares : Rights) → total ≡ rights (λ right. sum_of (share right) (only p ds))
      → shares ≡ rights (λ right. share right r) → p r ≡ true
      → plus total shares ≡ rights (λ right. sum_of (share right) (only p (ds ++ r ∷ [])))
  more total shares t s e = rw (t, s) (alike (λ right. sum_of (share right) (only p ds) + share right r) _ (λ right. sym (summed right e)))

  same : (total : Rights) → total ≡ rights (λ right. sum_of (share right) (only p ds)) → p r ≡ false
      → total ≡ rights (λ right. sum_of (share right) (only p (ds ++ r ∷ [])))
  same total t e = t ∙ alike _ _ (λ right. sym (ap (sum_of (share right)) (only-left p ds r e)))

module _ (t : Totals) (ds : List Bytes) (r : Bytes) (s : Sums t ds) where
  -- a record that is neither publisher nor writer changes nothing
  pub sums_kept : is_publisher r ≡ false → is_writer r ≡ false → Sums t (ds ++ r ∷ [])
  unfolding publishers_total writers_total
  sums_kept p w =
      record {
        publishers = same publisher_share is_publisher ds r t.publishers s.publishers p;
        writers = same writer_share is_writer ds r t.writers s.writers w;
      }

  module _ (shares : Rights) where
    pub sums-publisher : is_publisher r ≡ true → shares ≡ rights (λ right. publisher_share right r)
        → Sums (record { publishers = plus t.publishers shares; writers = t.writers }) (ds ++ r ∷ [])
    unfolding publishers_total writers_total
    sums-publisher e q =
        record {
          publishers = more publisher_share is_publisher ds r t.publishers shares s.publishers q e;
          writers = same writer_share is_writer ds r t.writers s.writers (publisher-no-writer r e);
        }

    pub sums-writer : is_writer r ≡ true → shares ≡ rights (λ right. writer_share right r)
        → Sums (record { publishers = t.publishers; writers = plus t.writers shares }) (ds ++ r ∷ [])
    unfolding publishers_total writers_total
    sums-writer e q =
        record {
          publishers = same publisher_share is_publisher ds r t.publishers s.publishers (writer-no-publisher r e);
          writers = more writer_share is_writer ds r t.writers shares s.writers q e;
        }
