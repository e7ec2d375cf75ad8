-- What is done with details, for each purpose: with one detail more, and at the end. Assumes nothing.
use Prim.Native.Nat.{ℕ, ◌+◌, ◌*◌, ◌≤◌, ◌<◌}
use native.Mathlib.Omega.{arith}
use mathlib.Core.Path.{◌≡◌, refl, ap, ◌∙◌}
use mathlib.Core.Bool.{Bool, true, false, false≢true, ◌||◌, ◌&&◌}
use mathlib.Core.List.{List, [], ◌∷◌, ◌++◌, map, append_assoc, append-nil, map-append}
use lib.Dec.{eqb}
use lib.ListN.{length, length-append, length-map}
use Rattle.format.specs.Bytes.{Bytes}
use Rattle.format.specs.Structure.{most_records}
use Rattle.format.proofs.Logic.{is_T, is_true, left, right}
use Rattle.rules.specs.Tables.{Tables}
use Rattle.rules.specs.Findings.{own_findings, worst}
use Rattle.rules.specs.Works.{details_from}
use Rattle.rules.specs.Verdicts.{rejects}
use Rattle.rules.proofs.Lists.{any_last}
use Rattle.rules.proofs.Found.{any_append}
use Rattle.rules.proofs.Each.{own-long, each-detail}
use Rattle.edits.specs.Judged.{Judged}
use Rattle.edits.specs.declared.Found.{Found}
use Rattle.buffers.proofs.Entries.{kept-v, kept-f}
use Rattle.figures.proofs.Records.{few-counts}
use Rattle.transactions.specs.declared.Purpose.{Purpose}
use Rattle.transactions.specs.declared.Purpose.TheVariants.{Write, Count, Search}
use Rattle.transactions.specs.Walk.{Room}
use Rattle.transactions.specs.Purposes.{is_write, is_count, is_search, Writes, Wrote, Tells, Told, LentFor, Done, DoneDetails}
use Rattle.transactions.proofs.Entries.{filled_none, filled-then, room-kept}
use Rattle.transactions.proofs.Laws.{details-append, own-rejects}

-- ---- details

pub done_none : (purpose : Purpose) (tables : Tables) {i m : ℕ} {v g : Bytes} {fs ls : List ℕ} → LentFor purpose i m v g fs ls → i ≤ m
    → DoneDetails purpose tables i i [] false v g fs ls v g fs ls
done_none purpose tables {i} {m} {v} {g} {fs} {ls} lent le = record { done = none purpose lent; rejects = refl }
  where
    none : (q : Purpose) → LentFor q i m v g fs ls → Done q i i [] v g fs ls v g fs ls
    none Write room = (filled_none room le, refl, refl)
    none Count begun = (λ ss us c. rw (append-nil ss, append-nil us) c, omega arith, refl, refl)
    none Search l = (refl, refl, refl, refl)

module _ {purpose : Purpose} {tables : Tables} {i n : ℕ} {ds : List Bytes} {rejected : Bool} {v₀ g₀ v g : Bytes} {fs₀ ls₀ fs ls : List ℕ}
    (before : DoneDetails purpose tables i n ds rejected v₀ g₀ fs₀ ls₀ v g fs ls) where
  pub done_on : {k : ℕ} {r : Bytes} {found : Found} {v' g' : Bytes} {fs' ls' : List ℕ} {this : Bool} → k ≡ n + 1 → Judged tables ds r found
      → Wrote (is_write purpose) n found v g v' g' → this ≡ eqb found.level 3 → Told (is_count purpose) found fs ls fs' ls'
      → DoneDetails purpose tables i k (ds ++ r ∷ []) (rejected || this) v₀ g₀ fs₀ ls₀ v' g' fs' ls'
  done_on {k} {r} {found} {v'} {g'} {fs'} {ls'} next j wrote rejects-it told =
      let last : details_from tables [] (ds ++ r ∷ []) ≡ sets ++ own ∷ [] = details-append tables [] ds (r ∷ []) in
      record {
        done = rw last (more purpose before.done wrote told);
        rejects = rw (last, any_last rejects sets own, own-rejects tables ds r, before.rejects, rejects-it, j.level);
      }
    where
      sets : List (List Bool)
      sets = details_from tables [] ds

      own : List Bool
      own = own_findings tables ds r

      more : (q : Purpose) → Done q i n sets v₀ g₀ fs₀ ls₀ v g fs ls → Wrote (is_write q) n found v g v' g' → Told (is_count q) found fs ls fs' ls'
          → Done q i k (sets ++ own ∷ []) v₀ g₀ fs₀ ls₀ v' g' fs' ls'
      more Write (filled, f, u) w (f', u') =
          (rw (map-append worst sets (own ∷ []), ← j.level) (filled-then filled (record { end = next; written = w own j.set })), f' ∙ f, u' ∙ u)
      more Count (counted, end, a, b) (a', b') one = (
        λ ss us c. rw (map-append worst sets (own ∷ []), ← append_assoc ss sets (own ∷ []), ← append_assoc us (map worst sets) (worst own ∷ []), ← j.level)
            (one (ss ++ sets) (us ++ map worst sets) own j.set j.level (omega (arith, own-long tables 0 ds r)) (counted ss us c)),
        rw (length-append sets (own ∷ [])) (omega (arith, next, end)),
        a' ∙ a,
        b' ∙ b,
      )
      more Search (a, b, f, u) (a', b') (f', u') = (a' ∙ a, b' ∙ b, f' ∙ f, u' ∙ u)

  -- where one rejects, those after it need not be judged
  pub done-early : (is_search purpose && rejected) ≡ true → (es : List Bytes)
      → DoneDetails purpose tables i n (ds ++ es) rejected v₀ g₀ fs₀ ls₀ v g fs ls
  done-early stops es =
      let both = is_T (is_search purpose && rejected) stops in
      let is-rejected = is_true rejected (right (is_search purpose) rejected both) in
      record {
        done = early purpose (is_true (is_search purpose) (left (is_search purpose) rejected both)) before.done;
        rejects =
            rw (details-append tables [] ds es, any_append rejects (details_from tables [] ds) (details_from tables ds es), ← before.rejects, is-rejected)
            refl;
      }
    where
      early : (q : Purpose) → is_search q ≡ true → Done q i n (details_from tables [] ds) v₀ g₀ fs₀ ls₀ v g fs ls
          → Done q i n (details_from tables [] (ds ++ es)) v₀ g₀ fs₀ ls₀ v g fs ls
      early Write e done = absurd (false≢true e)
      early Count e done = absurd (false≢true e)
      early Search e done = done

  -- no buffer grows or shrinks
  pub same-lengths : (length v ≡ length v₀) × (length g ≡ length g₀)
  same-lengths = same purpose before.done
    where
      same : (q : Purpose) → Done q i n (details_from tables [] ds) v₀ g₀ fs₀ ls₀ v g fs ls → (length v ≡ length v₀) × (length g ≡ length g₀)
      same Write (filled, f, u) = (kept-v filled.written, kept-f filled.written)
      same Count (counted, end, a, b) = (ap length a, ap length b)
      same Search (a, b, f, u) = (ap length a, ap length b)

  -- what is lent has room for one more
  pub writes : (m : ℕ) → LentFor purpose i m v₀ g₀ fs₀ ls₀ → (Room m (length v) (length g) → (n < length v) × (8 * (n + 1) ≤ length g))
      → Writes (is_write purpose) n v g
  writes m lent room = write purpose before.done lent
    where
      write : (q : Purpose) → Done q i n (details_from tables [] ds) v₀ g₀ fs₀ ls₀ v g fs ls → LentFor q i m v₀ g₀ fs₀ ls₀ → Writes (is_write q) n v g
      write Write (filled, f, u) lent = room (room-kept filled lent)
      write Count done lent = tt
      write Search done lent = tt

  pub tells : (m : ℕ) {level : ℕ} → LentFor purpose i m v₀ g₀ fs₀ ls₀ → i + length ds ≤ most_records → level ≤ 4 → Tells (is_count purpose) level fs ls
  tells m {level} lent few low = tell purpose before.done lent
    where
      tell : (q : Purpose) → Done q i n (details_from tables [] ds) v₀ g₀ fs₀ ls₀ v g fs ls → LentFor q i m v₀ g₀ fs₀ ls₀ → Tells (is_count q) level fs ls
      tell Write done lent = tt
      tell Count (counted, end, a, b) begun =
          let sets = details_from tables [] ds in
          let long = each-detail tables 0 [] ds in (
            few-counts (counted begun.sets begun.verdicts begun.counts)
                (rw (length-append begun.sets sets) (omega (arith, few, long, begun.few_sets)))
                (rw (length-append begun.verdicts (map worst sets), length-map sets worst) (omega (arith, few, long, begun.few_verdicts))),
            low,
          )
      tell Search done lent = tt
