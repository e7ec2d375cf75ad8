-- The outset of a check with a territory table, and one transaction more that is settled. Assumes nothing.
use Prim.Native.Nat.{ℕ, ◌*◌, ◌≤◌, ◌<◌}
use native.Mathlib.Omega.{arith}
use native.Mathlib.Nat.{zero-add}
use mathlib.Core.Path.{◌≡◌, refl, sym, ap}
use mathlib.Core.Bool.{true, false≢true}
use mathlib.Core.Option.{Option, none, some}
use lib.Dec.{leb}
use lib.ListN.{length}
use borrow.Author.Tests.{leb-true}
use Rattle.std.specs.Prelude.{Some}
use Rattle.format.specs.Bytes.{Bytes}
use Rattle.format.specs.Table.{unknown}
use Rattle.format.specs.Structure.{Answer, refused, passed, refusal}
use Rattle.format.specs.Lent.{in_room}
use Rattle.format.proofs.Tests.{by_cases, both}
use Rattle.rules.specs.Tables.{Tables}
use Rattle.rules.specs.Territories.{territories_in}
use Rattle.rules.specs.Outcome.{enough, content}
use Rattle.rules.specs.WithTerritories.{file_over, crowded_from, in_list, admission_with, answer_with}
use Rattle.answers.specs.Numbers.{is_passed}
use Rattle.admission.proofs.Fit.{LetInWith, passed-with}
use Rattle.transactions.specs.Walk.{rest_at, Room}
use Rattle.files.specs.Levels.{WrittenFile}
use Rattle.collection.specs.declared.Walk.{Walk}
use Rattle.collection.specs.declared.Sought.{Sought}
use Rattle.collection.specs.Marked.{marked_from, raised_from}
use Rattle.collection.specs.Walk.{Lent, Standing, Owes, Reached, steps_left}
use Rattle.collection.proofs.Leaves.{over-all}
use Rattle.collection.proofs.WholeFile.{claims-written}
use Rattle.territorial.specs.Progress.{Passes, Going, start_walk}

-- ---- what passes was let in, has room, and its claims fit the list

pub record Admitted (tables : Tables) (table : Bytes) (t : ℕ) (f : Bytes) (v g room : ℕ) : Type 0 where
  pub k : ℕ
  pub m : ℕ
  pub n : ℕ
  pub in-with : LetInWith tables table t f k m n
  pub enough-room : Room (length (rest_at f 0)) v g
  pub fits : crowded_from room 0 (rest_at f 0) ≡ none

module _ (tables : Tables) (table : Bytes) (t : ℕ) (f : Bytes) (v g room : ℕ) where
  through-list : (b : Answer) → is_passed (in_list room (rest_at f 0) b) ≡ true → (is_passed b ≡ true) × (crowded_from room 0 (rest_at f 0) ≡ none)
  through-list (refused n i) e = absurd (false≢true e)
  through-list (passed k m n) e = (refl, go (crowded_from room 0 (rest_at f 0)) e)
    where
      go : (o : Option ℕ) → is_passed (refusal 14 o (passed k m n)) ≡ true → o ≡ none
      go none e = refl
      go (some i) e = absurd (false≢true e)

  through-room : (b : Answer) → is_passed (in_room (enough v g) b) ≡ true
      → (k : ℕ) × (m : ℕ) × (n : ℕ) × (b ≡ passed k m n) × (enough v g n ≡ true)
  through-room (refused n i) e = absurd (false≢true e)
  through-room (passed k m n) e = (k, m, n, refl, by_cases (enough v g n) (λ q. q) (λ q. absurd (false≢true (rw q at e))))

  pub admitted : Passes tables table t f v g room → Admitted tables table t f v g room
  unfolding answer_with
  admitted (i, j, l, is) =
      let (roomy, fits) = through-list (in_room (enough v g) (admission_with tables table t f)) (ap is_passed (sym is)) in
      let (k, m, n, q, roomy-so) = through-room (admission_with tables table t f) roomy in
      let w = passed-with tables table t f k m n q in
      let (in_v, in_g) = both (leb n v) (leb (8 * n) g) roomy-so in
      record {
        k = k;
        m = m;
        n = n;
        in-with = w;
        enough-room = record {
          few = w.fit.few;
          in_v = omega (arith, leb-true n v in_v, w.counted);
          in_f = omega (arith, leb-true (8 * n) g in_g, w.counted);
        };
        fits = fits;
      }

-- ---- the outset

module _ {tables : Tables} {table : Bytes} {t : ℕ} {f : Bytes} {room : ℕ} (v₀ g₀ : Bytes) (in_order : Admitted tables table t f (length v₀) (length g₀) room) where
  abbrev count : ℕ
  count = length (rest_at f 0)

  module _ {v g : Bytes} (sameV : length v ≡ length v₀) (same_g : length g ≡ length g₀) where
    pub lent : Lent f table t count v g
    lent = record {
      short = in_order.in-with.fit.short;
      few = in_order.in-with.fit.few;
      right = in_order.in-with.territories;
      small = in_order.in-with.orderly.tolerance;
      in_v = rw sameV in_order.enough-room.in_v;
      in_g = rw same_g in_order.enough-room.in_f;
    }

  pub standing : (w : Walk) → w ≡ start_walk → Standing f count w
  standing w e = rw e (record {
    class = unknown;
    more = refl;
    position = record { here = in_order.in-with.fit.here; left = zero-add count };
    numbers = omega arith;
    uncrowded = λ c z. z;
  })

  -- what is owed once the check without territories has filled the buffers
  module _ {v g : Bytes} (written : WrittenFile tables t f v₀ g₀ v g) where
    abbrev v' : Bytes
    v' = raised_from (territories_in table) t 0 (rest_at f 0) v

    abbrev g' : Bytes
    g' = marked_from (territories_in table) t 0 (rest_at f 0) g

    pub owes : (w : Walk) → w ≡ start_walk → Owes f table t count v' g' (file_over (territories_in table) t (content f)) w v g
    owes w e =
        rw e
        (record {
          standing = standing start_walk refl;
          verdicts = refl;
          findings = refl;
          over = sym (over-all (territories_in table) t f in_order.k in_order.m in_order.n in_order.in-with.passes);
        })

    pub begun : (s : Sought) (v₁ g₁ : Bytes) → length v₁ ≡ length v₀ → length g₁ ≡ length g₀
        → Reached f table t count v' g' (file_over (territories_in table) t (content f)) s v₁ g₁ → Going tables table t f room v₀ g₀ s v₁ g₁
    begun s v₁ g₁ sameV same_g reached = record {
      m = count;
      lent = lent sameV same_g;
      v' = v';
      g' = g';
      written = claims-written tables (territories_in table) t f in_order.k in_order.m in_order.n in_order.in-with.passes written;
      reached = reached;
      fits = in_order.fits;
    }

-- ---- one transaction more

module _ {tables : Tables} {table : Bytes} {t : ℕ} {f : Bytes} {room : ℕ} {v₀ g₀ : Bytes} {s : Sought} {v g : Bytes}
    (going : Going tables table t f room v₀ g₀ s v g) {first : ℕ} (e : s.doubt ≡ Some first) where
  pub still-lent : {v₁ g₁ : Bytes} → length v₁ ≡ length v → length g₁ ≡ length g → Lent f table t going.m v₁ g₁
  still-lent sameV same_g =
      let l = going.lent in
      record { short = l.short; few = l.few; right = l.right; small = l.small; in_v = rw sameV l.in_v; in_g = rw same_g l.in_g }

  pub gone-on : {v₁ g₁ : Bytes} → length v₁ ≡ length v → length g₁ ≡ length g → (next : Sought)
      → Reached f table t going.m going.v' going.g' (file_over (territories_in table) t (content f)) next v₁ g₁
      → Going tables table t f room v₀ g₀ next v₁ g₁
  gone-on sameV same_g next reached = record {
    m = going.m;
    lent = still-lent sameV same_g;
    v' = going.v';
    g' = going.g';
    written = going.written;
    reached = reached;
    fits = going.fits;
  }

  pub fewer-steps : (next : Sought) (at : ℕ) → at ≡ s.walk.at → steps_left f next ≤ 2 * length (rest_at f at) → steps_left f next < steps_left f s
  unfolding steps_left
  fewer-steps next at same less = rw e (let z = ap (λ (i : ℕ). length (rest_at f i)) same in omega (arith, less, z))
