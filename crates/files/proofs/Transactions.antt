-- The loop over the transactions of a group, whatever is done with each transaction. Assumes nothing.
use Prim.Native.Nat.{ℕ, ◌+◌, ◌<◌}
use native.Mathlib.Omega.{arith}
use mathlib.Core.Path.{◌≡◌, refl, sym, ap, ◌∙◌, subst}
use mathlib.Core.Bool.{true, false, ◌||◌}
use mathlib.Core.List.{List, [], ◌∷◌, ◌++◌}
use lib.ListN.{length}
use Rattle.format.specs.Bytes.{Bytes}
use Rattle.format.specs.Doc.{Transaction}
use Rattle.format.specs.Table.{grh, head}
use Rattle.format.specs.Cwr22.{rows22, cwr22}
use Rattle.format.specs.Checks.{cls}
use Rattle.format.specs.Structure.{first_record}
use Rattle.format.specs.Tree.{after, is_head, is_detail, is_inside}
use Rattle.format.proofs.Logic.{is_T}
use Rattle.format.proofs.Tests.{by_cases}
use Rattle.format.proofs.Tree.{is→eq}
use Rattle.format.proofs.Walks.{transaction-first, transactions-none, inside-after}
use Rattle.rules.specs.Works.{is0}
use Rattle.rules.proofs.Lists.{any_last}
use Rattle.kinds.specs.Rows.{class_in}
use Rattle.kinds.specs.declared.Class.TheVariants.{Head}
use Rattle.kinds.proofs.Laws.{in-class}
use Rattle.transactions.specs.declared.Passed.{Passed}
use Rattle.transactions.specs.Walk.{rest_at, tail_of, front_of, Position, PastTransaction}
use Rattle.transactions.proofs.Levels.{Going, going-none, going_on, going-all, first-left}
use Rattle.transactions.proofs.Gone.{length-parted}
use Rattle.files.specs.Levels.{transactions_of, is_stray_among, PastTransactions}
use Rattle.files.proofs.Controls.{follows, head-after, grt-after, as-head}

-- no detail stands where details end
nothing-no-detail : is_detail cwr22 [] ≡ false
unfolding rows22
nothing-no-detail = refl

edge_of : (rs : List Bytes) → is_detail cwr22 (first_record (after (is_detail cwr22) rs)) ≡ false
edge_of [] = nothing-no-detail
edge_of (r ∷ rs) = by_cases (is_detail cwr22 r) (λ e. rw e (edge_of rs)) (λ e. rw e e)

-- the walk has gone over the transactions xs; the claim says what was done with them
pub record Among (named f : Bytes) (m start : ℕ) (claim : List Transaction → Type 0) (p : Passed) (xs : List Transaction) : Type 0 where
  pub going : Going transactions_of f m start head claim p.at p.index xs
  pub rest : after (is_inside cwr22) (rest_at f start) ≡ after (is_inside cwr22) (rest_at f p.at)
  pub class : class_in p.class ≡ cls cwr22 (first_record (rest_at f p.at))
  pub edge : is_detail cwr22 (first_record (rest_at f p.at)) ≡ false
  pub stray : p.stray ≡ is_stray_among named xs

abbrev pub Inv : (named f : Bytes) (m start : ℕ) (claim : List Transaction → Type 0) (p : Passed) → Type 0
Inv named f m start claim p = (xs : List Transaction) × Among named f m start claim p xs

pub begins : {named f : Bytes} {m start i : ℕ} {claim : List Transaction → Type 0} → Position f m start i grh (rest_at f start) → claim []
    → Inv named f m start claim (record { at = start; index = i; class = Head; stray = false })
begins {f = f} {m} {start} at-grh done =
    let k : cls cwr22 (first_record (rest_at f start)) ≡ head = head-after _ (follows grh refl (rest_at f start) at-grh.here.placed) in (
      [],
      record {
        going = going-none transactions_of f m start head (record { here = as-head at-grh.here; left = at-grh.left }) done;
        rest = refl;
        class = sym k;
        edge = rw k refl;
        stray = refl;
      },
    )

module _ {named f : Bytes} {m start : ℕ} {claim : List Transaction → Type 0} {p : Passed} (inv : Inv named f m start claim p) where
  pub xs : List Transaction
  xs = inv.0

  among : Among named f m start claim p xs
  unfolding xs
  among = inv.1

  pub position : Position f m p.at p.index head (rest_at f p.at)
  position = among.going.position

  pub done : claim xs
  done = among.going.done

  abbrev rs : List Bytes
  rs = rest_at f p.at

  left : rest_at f p.at ≡ first_record (rest_at f p.at) ∷ tail_of (rest_at f p.at)
  left = first-left position.here refl

  pub header-here : p.class ≡ Head → cls cwr22 (first_record (rest_at f p.at)) ≡ head
  header-here e = sym among.class ∙ ap class_in e

  -- it is the first of those that are left
  module _ (e : p.class ≡ Head) where
    is-head : is_head cwr22 (first_record rs) ≡ true
    is-head = rw (header-here e) refl

    first_of : transactions_of rs ≡ front_of rs ∷ transactions_of (after (is_detail cwr22) (tail_of rs))
    first_of = ap transactions_of left ∙ transaction-first cwr22 (first_record rs) (tail_of rs) is-head

    pub split-here : transactions_of (rest_at f start)
        ≡ xs ++ front_of (rest_at f p.at) ∷ transactions_of (after (is_detail cwr22) (tail_of (rest_at f p.at)))
    split-here = among.going.split ∙ ap (λ l. xs ++ l) first_of

  -- one transaction more
  module _ (q : Passed) (e : p.class ≡ Head) (past : PastTransaction named f (p.index + length (rest_at f p.at)) (rest_at f p.at) q) where
    after-it : Position f m q.at q.index head (after (is_detail cwr22) (tail_of rs))
    after-it = subst (λ (k : ℕ). Position f k q.at q.index head (after (is_detail cwr22) (tail_of rs))) position.left past.position

    next : rest_at f q.at ≡ after (is_detail cwr22) (tail_of rs)
    next = after-it.here.left

    pub one_more : {claim' : List Transaction → Type 0} → claim' (xs ++ front_of (rest_at f p.at) ∷ [])
        → Inv named f m start claim' (record { at = q.at; index = q.index; class = q.class; stray = p.stray || q.stray })
    one_more done' = (
      xs ++ front_of rs ∷ [],
      record {
        going = going_on transactions_of f m start head among.going (front_of rs) (first_of e) after-it done';
        rest =
            among.rest
            ∙ ap (after (is_inside cwr22)) left
            ∙ rw (is-head e) (inside-after cwr22 (tail_of rs))
            ∙ ap (after (is_inside cwr22)) (sym next);
        class = past.class ∙ ap (λ l. cls cwr22 (first_record l)) (sym next);
        edge = ap (λ l. is_detail cwr22 (first_record l)) next ∙ edge_of (tail_of rs);
        stray =
            ap (λ b. b || q.stray) among.stray
            ∙ ap (λ b. is_stray_among named xs || b) past.stray
            ∙ sym (any_last (λ (x : Transaction). is0 named x.header) xs (front_of rs));
      },
    )

    -- so fewer records are left
    pub fewer-left : length (rest_at f q.at) < length (rest_at f p.at)
    fewer-left = omega (arith, ap length next, ap length left, length-parted (is_detail cwr22) (tail_of rs))

  -- none is left
  module _ (e : p.class ≡ Head → ⊥) where
    no-head : is_head cwr22 (first_record rs) ≡ false
    no-head =
        by_cases (is_head cwr22 (first_record rs))
        (λ q. absurd (e (in-class p.class Head (among.class ∙ sym (is→eq head _ (is_T (is_head cwr22 (first_record rs)) q))))))
        (λ q. q)

    outside : is_inside cwr22 (first_record rs) ≡ false
    outside = rw (no-head, among.edge) refl

    after_all : after (is_inside cwr22) (rest_at f start) ≡ rs
    after_all = among.rest ∙ ap (after (is_inside cwr22)) left ∙ rw outside (sym left)

    pub all-gone : transactions_of (rest_at f start) ≡ xs
    all-gone =
        going-all transactions_of f m start head among.going
        (ap transactions_of left ∙ transactions-none cwr22 (first_record rs) (tail_of rs) outside)

    pub past_all : PastTransactions named f m (rest_at f start) p
    past_all = record {
      position = rw after_all position;
      closed =
          ap (λ l. cls cwr22 (first_record l)) after_all
          ∙ grt-after _ (follows head refl rs position.here.placed) no-head among.edge;
      stray = among.stray ∙ ap (is_stray_among named) (sym all-gone);
    }

    pub all_done : claim (transactions_of (rest_at f start))
    all_done = subst claim (sym all-gone) done
