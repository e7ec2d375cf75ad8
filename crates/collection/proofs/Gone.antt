-- The walk over the details of a transaction as its loop keeps it. Assumes nothing.
use Prim.Native.Nat.{ℕ, suc, ◌+◌, ◌*◌, ◌≤◌, ◌<◌}
use native.Mathlib.Omega.{arith}
use native.Mathlib.Nat.{add-zero}
use mathlib.Core.Path.{◌≡◌, refl, sym, ap, ◌∙◌}
use mathlib.Core.Bool.{false, cond}
use mathlib.Core.List.{List, [], ◌∷◌, ◌++◌}
use lib.ListN.{length, take, drop, length-append, length-set}
use Rattle.format.specs.Bytes.{Bytes}
use Rattle.format.specs.Table.{head}
use Rattle.format.specs.Cwr22.{cwr22}
use Rattle.format.specs.Structure.{most_records, first_record}
use Rattle.format.specs.Tree.{span, after, is_detail}
use Rattle.format.proofs.Tests.{by_cases}
use Rattle.rules.specs.Territories.{Territory}
use Rattle.rules.specs.Collection.{is48}
use Rattle.kinds.specs.declared.Row.{Row}
use Rattle.kinds.specs.Rows.{row_for}
use Rattle.kinds.specs.declared.Class.{Class}
use Rattle.kinds.specs.declared.Class.TheVariants.{Detail}
use Rattle.structure.specs.Cursor.{Here}
use Rattle.structure.proofs.Cursor.{three-left}
use Rattle.transactions.specs.Walk.{rest_at, tail_of, Position}
use Rattle.transactions.proofs.Levels.{Going, going-none, going_on, going-all, first-left, first-here}
use Rattle.transactions.proofs.Standing.{front, detail-here, first-detail, next_here, no-detail}
use Rattle.transactions.proofs.Sizes.{step}
use Rattle.parties.specs.Most.{Most}
use Rattle.parties.specs.declared.Largest.{Largest}
use Rattle.collection.specs.declared.Details.{Details}
use Rattle.collection.specs.Marked.{with48, marked48}
use Rattle.collection.specs.Walk.{Known, PastDetails}
use Rattle.collection.proofs.Known.{known-none}

module _ (T : List Territory) where
  -- ---- the marks of details one after the other

  marked-last : (i : ℕ) (ds : List Bytes) (r : Bytes) (g : Bytes)
      → marked48 T i (ds ++ r ∷ []) g ≡ marked48 T (i + length ds) (r ∷ []) (marked48 T i ds g)
  marked-last i [] r g = ap (λ (n : ℕ). marked48 T n (r ∷ []) g) (sym (add-zero i))
  marked-last i (d ∷ ds) r g =
      let on : suc i + length ds ≡ i + suc (length ds) = omega arith in
      rw (← on) (marked-last (suc i) ds r (cond (is48 T d) (with48 i g) g))

  pub marked-long : (i : ℕ) (ds : List Bytes) (g : Bytes) → length (marked48 T i ds g) ≡ length g
  marked-long i [] g = refl
  marked-long i (d ∷ ds) g =
      marked-long (suc i) ds (cond (is48 T d) (with48 i g) g)
      ∙ by_cases (is48 T d) (λ e. rw e (length-set g (8 * i + 6) _)) (λ e. rw e)

-- the walk has gone over the details ds, the first of which is record `first`: it knows them, and has marked them
pub record Gone (f : Bytes) (m start first : ℕ) (T : List Territory) (old g : Bytes) (d : Details) (ds : List Bytes) : Type 0 where
  pub going : Going (span (is_detail cwr22)) f m start head (λ ds. Known T ds d.tally) d.at d.index ds
  pub rest : after (is_detail cwr22) (rest_at f start) ≡ after (is_detail cwr22) (rest_at f d.at)
  pub marked : g ≡ marked48 T first ds old
  pub numbered : d.index ≡ first + length ds

abbrev pub Inv : (f : Bytes) (m start first : ℕ) (T : List Territory) (old g : Bytes) (d : Details) → Type 0
Inv f m start first T old g d = (ds : List Bytes) × Gone f m start first T old g d ds

pub begins : {f : Bytes} {start first : ℕ} {T : List Territory} {old : Bytes} {largest : Largest} {k : Class}
    → Here f start head (rest_at f start) → Most [] largest
    → Inv f (first + length (rest_at f start)) start first T old old
    (record { at = start; index = first; class = k; tally = record { party = 0; wrong = false; largest = largest } })
begins {f} {start} {first} {T} {largest = largest} h most = (
  [],
  record {
    going = going-none (span (is_detail cwr22)) f (first + length (rest_at f start)) start head (record { here = h; left = refl }) (known-none T largest most);
    rest = refl;
    marked = refl;
    numbered = sym (add-zero first);
  },
)

module _ {f : Bytes} {m start first : ℕ} {T : List Territory} {old g : Bytes} {d : Details} (inv : Inv f m start first T old g d) where
  pub ds : List Bytes
  ds = inv.0

  gone : Gone f m start first T old g d ds
  unfolding ds
  gone = inv.1

  abbrev pub r : Bytes
  r = first_record (rest_at f d.at)

  abbrev rs : List Bytes
  rs = tail_of (rest_at f d.at)

  pub position : Position f m d.at d.index head (rest_at f d.at)
  position = gone.going.position

  left : rest_at f d.at ≡ r ∷ rs
  left = first-left position.here refl

  pub here : Here f d.at head (rest_at f d.at)
  here = position.here

  pub three : d.at + 3 ≤ length f
  three = three-left (first-here here refl)

  pub known : Known T ds d.tally
  known = gone.going.done

  pub same-long : length g ≡ length old
  same-long = ap length gone.marked ∙ marked-long T first ds old

  -- a record stands here, so its number is one of theirs
  pub numbered : d.index < m
  numbered = omega (arith, position.left, ap length left)

  pub fewer : m ≤ most_records → length ds < most_records
  fewer few = omega (arith, few, numbered, gone.numbered)

  marks-on : (n : ℕ) → n ≡ first + length ds → (now : Bytes) → now ≡ marked48 T first ds old → (x : Bytes)
      → marked48 T n (x ∷ []) now ≡ marked48 T first (ds ++ x ∷ []) old
  marks-on n e now q x = rw (e, q) (sym (marked-last T first ds x old))

  module _ {kind : Row} (its : kind ≡ row_for (take 3 (drop d.at f))) where
    -- a detail, and the walk stands after it
    module _ (p : kind.class ≡ Detail) (e : Details) (at : e.at ≡ d.at + kind.length + 2) (index : e.index ≡ d.index + 1) where
      after-it : Position f m e.at e.index head rs
      after-it = rw (at, index) (step position refl (next_here here its p))

      next : rest_at f e.at ≡ rs
      next = after-it.here.left

      pub one_more : (g' : Bytes) → Known T (ds ++ r ∷ []) e.tally → g' ≡ marked48 T d.index (r ∷ []) g → Inv f m start first T old g' e
      one_more g' k marks = (
        ds ++ r ∷ [],
        record {
          going = going_on (span (is_detail cwr22)) f m start head gone.going r (first-detail here its p) after-it k;
          rest = gone.rest ∙ ap (after (is_detail cwr22)) left ∙ rw (detail-here here its p) (ap (after (is_detail cwr22)) (sym next));
          marked = marks ∙ marks-on d.index gone.numbered g gone.marked r;
          numbered = omega (arith, index, gone.numbered, length-append ds (r ∷ []));
        },
      )

      -- so fewer are left
      pub fewer-left : length (rest_at f e.at) < length (rest_at f d.at)
      fewer-left = omega (arith, ap length next, ap length left)

    -- no detail: all are done
    module _ (n : kind.class ≡ Detail → ⊥) where
      all-details : span (is_detail cwr22) (rest_at f start) ≡ ds
      all-details = going-all (span (is_detail cwr22)) f m start head gone.going (ap (span (is_detail cwr22)) left ∙ rw (no-detail here its n))

      after_all : after (is_detail cwr22) (rest_at f start) ≡ rest_at f d.at
      after_all = gone.rest ∙ ap (after (is_detail cwr22)) left ∙ rw (no-detail here its n) (sym left)

      pub past : PastDetails f m T (rest_at f start) (record { at = d.at; index = d.index; class = kind.class; tally = d.tally })
      past = record {
        position = rw after_all position;
        class = rw after_all (sym (front here its).class);
        known = rw all-details known;
      }

      pub all-marked : g ≡ marked48 T first (span (is_detail cwr22) (rest_at f start)) old
      all-marked = rw all-details gone.marked
