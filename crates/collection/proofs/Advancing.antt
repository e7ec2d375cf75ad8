-- The walk from transaction to transaction as its loop keeps it. Assumes nothing.
use Prim.Native.Nat.{ℕ, suc, ◌+◌, ◌*◌, ◌<◌, ◌≤◌}
use native.Mathlib.Omega.{arith}
use mathlib.Core.Path.{◌≡◌, refl, sym, ap, ◌∙◌, subst}
use mathlib.Core.Bool.{true, false, true≢false}
use mathlib.Core.List.{List, [], ◌∷◌}
use lib.ListN.{length, take, drop}
use Rattle.std.specs.Prelude.{None, is_some}
use Rattle.format.specs.Bytes.{Bytes}
use Rattle.format.specs.Table.{Class, head, trl}
use Rattle.format.specs.Cwr22.{cwr22}
use Rattle.format.specs.Checks.{is, cls, check7, AlongFrom}
use Rattle.format.specs.Structure.{most_records, first_record}
use Rattle.format.specs.Tree.{is_head, transactions_in}
use Rattle.format.proofs.Logic.{is_T}
use Rattle.format.proofs.Tests.{by_cases}
use Rattle.format.proofs.Tree.{is→eq}
use Rattle.rules.specs.Territories.{territories_in}
use Rattle.rules.specs.WithTerritories.{Over, over_among}
use Rattle.kinds.specs.declared.Row.{Row}
use Rattle.kinds.specs.Rows.{class_in, row_for}
use Rattle.kinds.specs.declared.Class.{Class as CodeClass}
use Rattle.kinds.specs.declared.Class.TheVariants.{Head, Trl}
use Rattle.kinds.proofs.Laws.{in-class}
use Rattle.structure.specs.Cursor.{Here, First}
use Rattle.structure.proofs.Cursor.{first as record-here, three-left}
use Rattle.transactions.specs.Walk.{rest_at, tail_of, Position}
use Rattle.transactions.proofs.Levels.{first-left, first-here}
use Rattle.transactions.proofs.Sizes.{step}
use Rattle.files.proofs.Controls.{last-record}
use Rattle.collection.specs.declared.Walk.{Walk}
use Rattle.collection.specs.declared.Sought.{Sought}
use Rattle.collection.specs.Marked.{marked_from, raised_from}
use Rattle.collection.specs.Walk.{Lent, Standing, or_found, Owes, Judged, Reached, past_control, steps_left}
use Rattle.collection.proofs.Owed.{marked-control, raised-control, crowded-control, marked-end, raised-end, none-some}

-- what a walk owes from where it stands, it owes itself
owes_self : {f table : Bytes} {t m : ℕ} {w : Walk} {v g : Bytes} → Standing f m w
    → Owes f table t m (raised_from (territories_in table) t w.index (rest_at f w.at) v)
    (marked_from (territories_in table) t w.index (rest_at f w.at) g)
    (or_found w (over_among (territories_in table) t w.number (transactions_in cwr22 (rest_at f w.at)))) w v g
owes_self s = record { standing = s; verdicts = refl; findings = refl; over = refl }

-- on the way: the buffers were v₀ and g₀ where the walk stood there
pub record Underway (f table : Bytes) (t : ℕ) (v₀ g₀ : Bytes) (from : Walk) (v g : Bytes) (w : Walk) : Type 0 where
  pub m : ℕ
  pub lent : Lent f table t m v g
  pub standing : Standing f m w
  pub fewer : length (rest_at f w.at) ≤ length (rest_at f from.at)
  pub long_v : length v ≡ length v₀
  pub long_g : length g ≡ length g₀
  pub owes : (m : ℕ) (v' g' : Bytes) (o : Over) → Owes f table t m v' g' o from v₀ g₀ → Owes f table t m v' g' o w v g

pub starts : {f table : Bytes} {t m : ℕ} {v g : Bytes} {w : Walk} → Lent f table t m v g → Standing f m w → Underway f table t v g w v g w
starts {m = m} lent standing = record {
  m = m;
  lent = lent;
  standing = standing;
  fewer = omega arith;
  long_v = refl;
  long_g = refl;
  owes = λ m v' g' o owes. owes;
}

module _ {f table : Bytes} {t : ℕ} {v₀ g₀ : Bytes} {from : Walk} {v g : Bytes} {w : Walk} (u : Underway f table t v₀ g₀ from v g w) where
  abbrev r : Bytes
  r = first_record (rest_at f w.at)

  abbrev rs : List Bytes
  rs = tail_of (rest_at f w.at)

  at_first : Here f w.at u.standing.class (r ∷ rs)
  at_first = first-here u.standing.position.here u.standing.more

  left : rest_at f w.at ≡ r ∷ rs
  left = first-left u.standing.position.here u.standing.more

  pub three : w.at + 3 ≤ length f
  three = three-left at_first

  pub numbered : w.index < most_records
  numbered = omega (arith, u.lent.few, u.standing.position.left, ap length left)

  -- ---- after a transaction that is judged

  module _ {s : Sought} {v₁ g₁ : Bytes} (sameV : length v₁ ≡ length v) (same_g : length g₁ ≡ length g)
      (judged : (m : ℕ) (v' g' : Bytes) (o : Over) → Owes f table t m v' g' o w v g → Judged f table t m v' g' o s v₁ g₁)
      (less : length (rest_at f s.walk.at) < length (rest_at f w.at)) where
    still-lent : Lent f table t u.m v₁ g₁
    still-lent = record {
      short = u.lent.short;
      few = u.lent.few;
      right = u.lent.right;
      small = u.lent.small;
      in_v = rw sameV u.lent.in_v;
      in_g = rw same_g u.lent.in_g;
    }

    pub past_one : s.doubt ≡ None → Underway f table t v₀ g₀ from v₁ g₁ s.walk
    past_one e = record {
      m = u.m;
      lent = still-lent;
      standing = ((judged u.m _ _ _ (owes_self u.standing)).goes e).standing;
      fewer = omega (arith, less, u.fewer);
      long_v = sameV ∙ u.long_v;
      long_g = same_g ∙ u.long_g;
      owes = λ m v' g' o owes. (judged m v' g' o (u.owes m v' g' o owes)).goes e;
    }

    pub in-doubt : is_some s.doubt ≡ true
        → ((m : ℕ) (v' g' : Bytes) (o : Over) → Owes f table t m v' g' o from v₀ g₀ → Reached f table t m v' g' o s v₁ g₁)
        × (steps_left f s ≤ 2 * length (rest_at f from.at))
    unfolding steps_left
    in-doubt e = (
      λ m v' g' o owes. record { doubts = λ n d. (judged m v' g' o (u.owes m v' g' o owes)).doubts n d; ends = λ z. absurd (true≢false (sym e ∙ ap is_some z)) },
      rw e (omega (arith, less, u.fewer)),
    )

  -- ---- the record that stands here, by its row

  module _ {kind : Row} (its : kind ≡ row_for (take 3 (drop w.at f))) where
    front : First f w.at u.standing.class kind r rs
    front = record-here at_first kind its

    pub ends : w.at + kind.length + 2 ≤ length f
    ends = front.ends

    pub is-head : kind.class ≡ Head → cls cwr22 r ≡ head
    is-head e = front.class ∙ ap class_in e

    no-class : (c : CodeClass) → (kind.class ≡ c → ⊥) → is (class_in c) (cls cwr22 r) ≡ false
    no-class c n =
        by_cases (is (class_in c) (cls cwr22 r))
        (λ e. absurd (n (in-class kind.class c (sym front.class ∙ sym (is→eq (class_in c) (cls cwr22 r) (is_T (is (class_in c) (cls cwr22 r)) e))))))
        (λ e. e)

    -- TRL: nothing is owed any more
    module _ (e : kind.class ≡ Trl) where
      is-trailer : cls cwr22 r ≡ trl
      is-trailer = front.class ∙ ap class_in e

      none_after : rs ≡ []
      none_after = last-record rs (subst (λ (c : Class). AlongFrom (check7 cwr22) c rs) is-trailer front.next.placed)

      alone : rest_at f w.at ≡ r ∷ []
      alone = left ∙ ap (λ (l : List Bytes). r ∷ l) none_after

      no-head : is_head cwr22 r ≡ false
      no-head = rw is-trailer

      pub at-end : ((m : ℕ) (v' g' : Bytes) (o : Over) → Owes f table t m v' g' o from v₀ g₀
          → Reached f table t m v' g' o (record { walk = w; doubt = None }) v g)
          × (steps_left f (record { walk = w; doubt = None }) ≤ 2 * length (rest_at f from.at))
      unfolding steps_left
      at-end = (
        λ m v' g' o owes.
            let mine = u.owes m v' g' o owes in
            record {
              doubts = λ n z. absurd (none-some z);
              ends =
                  λ z. (
                    sym (raised-control (territories_in table) t w.index r [] v no-head ∙ raised-end (territories_in table) t (suc w.index) v) ∙ (rw alone at mine.verdicts),
                    sym (marked-control (territories_in table) t w.index r [] g no-head ∙ marked-end (territories_in table) t (suc w.index) g) ∙ (rw alone at mine.findings),
                    rw (alone, no-head) at mine.over,
                  );
            },
        omega (arith, u.fewer),
      )

    -- a control record
    module _ (n : kind.class ≡ Trl → ⊥) (h : kind.class ≡ Head → ⊥) (size : ℕ) (long : size ≡ kind.length) where
      no-trailer : is trl (cls cwr22 r) ≡ false
      no-trailer = no-class Trl n

      not-head : is_head cwr22 r ≡ false
      not-head = no-class Head h

      next : Walk
      next = past_control w size

      after-it : Position f u.m (w.at + size + 2) (w.index + 1) (cls cwr22 r) rs
      after-it = rw long (step u.standing.position u.standing.more front.next)

      after-left : rest_at f (w.at + size + 2) ≡ rs
      after-left = after-it.here.left

      standing-after : (m : ℕ) → Standing f m w → Standing f m (past_control w size)
      standing-after m s = record {
        class = cls cwr22 r;
        more = no-trailer;
        position = rw after-left (record { here = after-it.here; left = omega (arith, s.position.left, ap length left) });
        numbers = omega (arith, s.numbers);
        uncrowded =
            λ c z. let one : w.index + 1 ≡ suc w.index = omega arith in
            rw (after-left, one) (crowded-control c w.index r rs not-head (rw left at (s.uncrowded c z)));
      }

      pub past-control : Underway f table t v₀ g₀ from v g (past_control w size)
      past-control =
          let one : w.index + 1 ≡ suc w.index = omega arith in
          record {
            m = u.m;
            lent = u.lent;
            standing = standing-after u.m u.standing;
            fewer = omega (arith, u.fewer, ap length after-left, ap length left);
            long_v = u.long_v;
            long_g = u.long_g;
            owes =
                λ m v' g' o owes.
                let mine = u.owes m v' g' o owes in
                record {
                  standing = standing-after m mine.standing;
                  verdicts = rw (after-left, one) (sym (raised-control (territories_in table) t w.index r rs v not-head) ∙ (rw left at mine.verdicts));
                  findings = rw (after-left, one) (sym (marked-control (territories_in table) t w.index r rs g not-head) ∙ (rw left at mine.findings));
                  over = rw after-left (rw (left, not-head) at mine.over);
                };
          }

      pub fewer-after : length (rest_at f (w.at + size + 2)) < length (rest_at f w.at)
      fewer-after = omega (arith, ap length after-left, ap length left)
