-- The walk over the details of a transaction as its loop keeps it, whatever is done with each detail. Assumes nothing.
use Prim.Native.Nat.{ℕ, ◌+◌, ◌^◌, ◌≤◌, ◌<◌}
use native.Mathlib.Omega.{arith}
use mathlib.Core.Path.{◌≡◌, refl, sym, ap, ◌∙◌, subst}
use mathlib.Core.Bool.{Bool}
use mathlib.Core.List.{List, [], ◌∷◌, ◌++◌}
use lib.ListN.{length, take, drop, length-append}
use Rattle.format.specs.Bytes.{Bytes}
use Rattle.format.specs.Table.{head}
use Rattle.format.specs.Cwr22.{cwr22}
use Rattle.format.specs.Structure.{most_records, first_record}
use Rattle.format.specs.Tree.{span, after, is_detail}
use Rattle.format.proofs.Tests.{by_cases}
use Rattle.kinds.specs.declared.Row.{Row}
use Rattle.kinds.specs.Rows.{row_for}
use Rattle.kinds.specs.declared.Class.TheVariants.{Detail}
use Rattle.structure.specs.Cursor.{Here}
use Rattle.structure.proofs.Cursor.{three-left}
use Rattle.chains.specs.declared.Chains.{Chains}
use Rattle.chains.specs.Tallies.{Tallied, Small}
use Rattle.chains.proofs.Laws.{small}
use Rattle.totals.specs.Sums.{Below}
use Rattle.tally.specs.Known.{Known}
use Rattle.tally.proofs.Laws.{below-limits}
use Rattle.headers.specs.declared.Links.{Links}
use Rattle.headers.specs.Headed.{Linked}
use Rattle.transactions.specs.declared.Walk.{Walk}
use Rattle.transactions.specs.Walk.{rest_at, tail_of, Position, Outset, PastDetails}
use Rattle.transactions.proofs.Levels.{Going, going-none, going_on, going-all, first-left, first-here}
use Rattle.transactions.proofs.Standing.{front, detail-here, first-detail, next_here, no-detail}
use Rattle.transactions.proofs.Sizes.{step}

pub length-parted : (p : Bytes → Bool) (rs : List Bytes) → length (span p rs) + length (after p rs) ≡ length rs
length-parted p [] = refl
length-parted p (r ∷ rs) = by_cases (p r) (λ e. rw e (omega (arith, length-parted p rs))) (λ e. rw e (omega arith))

-- the walk has gone over the details ds and knows them; the claim says what was done with them
pub record Gone (f : Bytes) (m start : ℕ) (claim : List Bytes → Type 0) (c : Chains) (w : Walk) (ds : List Bytes) : Type 0 where
  pub going : Going (span (is_detail cwr22)) f m start head claim w.at w.index ds
  pub rest : after (is_detail cwr22) (rest_at f start) ≡ after (is_detail cwr22) (rest_at f w.at)
  pub known : Known w.tally ds
  pub tallied : Tallied c ds

abbrev pub Inv : (f : Bytes) (m start : ℕ) (claim : List Bytes → Type 0) (c : Chains) (w : Walk) → Type 0
Inv f m start claim c w = (ds : List Bytes) × Gone f m start claim c w ds

-- the start
pub begins : {f : Bytes} {m start first : ℕ} {claim : List Bytes → Type 0} {c : Chains} {w : Walk} → Position f m start first head (rest_at f start)
    → Outset start first w → Tallied c [] → claim [] → Inv f m start claim c w
begins {f} {m} {start} p o t done = (
  [],
  record {
    going = rw (o.at, o.index) (going-none (span (is_detail cwr22)) f m start head p done);
    rest = rw o.at refl;
    known = o.known;
    tallied = t;
  },
)

module _ {f : Bytes} {m start : ℕ} {claim : List Bytes → Type 0} {c : Chains} {w : Walk} (inv : Inv f m start claim c w) where
  pub ds : List Bytes
  ds = inv.0

  gone : Gone f m start claim c w ds
  unfolding ds
  gone = inv.1

  abbrev pub r : Bytes
  r = first_record (rest_at f w.at)

  abbrev rs : List Bytes
  rs = tail_of (rest_at f w.at)

  pub position : Position f m w.at w.index head (rest_at f w.at)
  position = gone.going.position

  left : rest_at f w.at ≡ r ∷ rs
  left = first-left position.here refl

  pub here : Here f w.at head (rest_at f w.at)
  here = position.here

  pub three : w.at + 3 ≤ length f
  three = three-left (first-here here refl)

  -- ---- what is known so far

  pub known : Known w.tally ds
  known = gone.known

  pub tallied : Tallied c ds
  tallied = gone.tallied

  pub done : claim ds
  done = gone.going.done

  pub split-left : span (is_detail cwr22) (rest_at f start) ≡ ds ++ span (is_detail cwr22) (rest_at f w.at)
  split-left = gone.going.split

  -- a record stands here, so its number is one of theirs
  pub numbered : m ≤ most_records → w.index < most_records
  numbered few = omega (arith, few, position.left, ap length left)

  -- they are no more than the records from the start on
  pub among-all : length ds ≤ length (rest_at f start)
  among-all =
      let split = ap length gone.going.split ∙ length-append ds (span (is_detail cwr22) (rest_at f w.at)) in
      omega (arith, split, length-parted (is_detail cwr22) (rest_at f start))

  module _ (few : length (rest_at f start) ≤ most_records) where
    fewer : length ds ≤ most_records
    fewer = omega (arith, few, among-all)

    pub below : Below (2 ^ 60) w.tally.totals
    below = below-limits w.tally.totals ds fewer known.below

    pub small-chains : Small c
    small-chains = small c ds tallied fewer

  -- ---- the record that stands here

  module _ {kind : Row} (its : kind ≡ row_for (take 3 (drop w.at f))) where
    -- a detail, the first of those that are left
    module _ (p : kind.class ≡ Detail) where
      -- the walk stands after it, and knows it too
      module _ (v : Walk) (at : v.at ≡ w.at + kind.length + 2) (index : v.index ≡ w.index + 1) where
        after-it : Position f m v.at v.index head rs
        after-it = rw (at, index) (step position refl (next_here here its p))

        next : rest_at f v.at ≡ rs
        next = after-it.here.left

        pub one_more : {claim' : List Bytes → Type 0} {c' : Chains} → Known v.tally (ds ++ r ∷ []) → Tallied c' (ds ++ r ∷ [])
            → claim' (ds ++ r ∷ []) → Inv f m start claim' c' v
        one_more k t done' = (
          ds ++ r ∷ [],
          record {
            going = going_on (span (is_detail cwr22)) f m start head gone.going r (first-detail here its p) after-it done';
            rest = gone.rest ∙ ap (after (is_detail cwr22)) left ∙ rw (detail-here here its p) (ap (after (is_detail cwr22)) (sym next));
            known = k;
            tallied = t;
          },
        )

        -- so fewer are left
        pub fewer-left : length (rest_at f v.at) < length (rest_at f w.at)
        fewer-left = omega (arith, ap length next, ap length left)

    -- no detail: all are done
    module _ (n : kind.class ≡ Detail → ⊥) where
      all-details : span (is_detail cwr22) (rest_at f start) ≡ ds
      all-details = going-all (span (is_detail cwr22)) f m start head gone.going (ap (span (is_detail cwr22)) left ∙ rw (no-detail here its n))

      after_all : after (is_detail cwr22) (rest_at f start) ≡ rest_at f w.at
      after_all = gone.rest ∙ ap (after (is_detail cwr22)) left ∙ rw (no-detail here its n) (sym left)

      pub past : (l : Links) (b : Bool) → Linked l ds → PastDetails f m (rest_at f start) (record { walk = w; links = l; class = kind.class; rejects = b })
      past l b k = record {
        position = rw after_all position;
        class = rw after_all (sym (front here its).class);
        known = rw all-details known;
        linked = rw all-details k;
      }

      pub all_done : claim (span (is_detail cwr22) (rest_at f start))
      all_done = subst claim (sym all-details) done
