-- One group, and the loop over the groups of a file, whatever is done with each group. Assumes nothing.
use Prim.Native.Nat.{ℕ, suc, ◌+◌, ◌-◌, ◌≤◌, ◌<◌}
use native.Mathlib.Omega.{arith}
use mathlib.Core.Path.{◌≡◌, refl, sym, ap, ◌∙◌, subst}
use mathlib.Core.Bool.{true, false, cond, false≢true}
use mathlib.Core.List.{List, [], ◌∷◌, ◌++◌}
use lib.Dec.{eqb}
use lib.ListN.{length, take, drop, get_or}
use borrow.Rule.Slice.PartMut.{put_mid}
use Rattle.format.specs.Bytes.{Bytes}
use Rattle.format.specs.Doc.{Group}
use Rattle.format.specs.Table.{hdr, grh, grt, trl}
use Rattle.format.specs.Cwr22.{cwr22}
use Rattle.format.specs.Checks.{cls, may_follow}
use Rattle.format.specs.Structure.{first_record}
use Rattle.format.specs.Tree.{after, is_grh, is_inside, groups_in}
use Rattle.format.proofs.Logic.{is_T}
use Rattle.format.proofs.Tests.{by_cases}
use Rattle.format.proofs.Tree.{is→eq}
use Rattle.format.proofs.Walks.{group-first, groups-skip}
use Rattle.rules.specs.Tables.{Tables}
use Rattle.rules.specs.Works.{named_type}
use Rattle.rules.specs.Verdicts.{raised, is_stray, group_findings_by, group_verdicts_by}
use Rattle.structure.proofs.Cursor.{three-left}
use Rattle.transactions.specs.declared.Passed.{Passed}
use Rattle.transactions.specs.Walk.{rest_at, tail_of, Position, Filled}
use Rattle.transactions.proofs.Levels.{Going, going-none, going_on, going-all, first-left, first-here}
use Rattle.transactions.proofs.Entries.{filled-then, filled-raised}
use Rattle.transactions.proofs.Sizes.{group-header, group-trailer, file-trailer, ends, lent, next, step, known-after}
use Rattle.transactions.proofs.Gone.{length-parted}
use Rattle.files.specs.declared.Next.{Next}
use Rattle.files.specs.Levels.{transactions_of, group_of, after_group, is_stray_among, PastTransactions, PastGroup, PastGroups}
use Rattle.files.specs.Levels.{FilledTransactions, FilledGroup}
use Rattle.files.proofs.Controls.{opening-letter, trailer-letter, letter, follows, trl-after, as-closed, last-record}

-- ---- one group

-- no group begins with GRT
closing-skipped : (rs : List Bytes) → cls cwr22 (first_record rs) ≡ grt → groups_in cwr22 rs ≡ groups_in cwr22 (tail_of rs)
closing-skipped [] e = refl
closing-skipped (r ∷ rs) e = groups-skip cwr22 r rs (rw e refl)

fewer-tail : (rs : List Bytes) → length (tail_of rs) ≤ length rs
fewer-tail [] = omega arith
fewer-tail (r ∷ rs) = omega arith

-- where a walk stands before its GRH
module _ {f : Bytes} {m at n : ℕ} (before : Position f m at n grt (rest_at f at)) (is-grh : cls cwr22 (first_record (rest_at f at)) ≡ grh) where
  abbrev rs : List Bytes
  rs = rest_at f at

  pub opening-ends : at + 28 + 2 ≤ length f
  opening-ends = ends group-header before.here refl is-grh

  pub opening-lent : (e : ℕ) → e ≡ at + 28 → take (e - at) (drop at f) ≡ first_record (rest_at f at)
  opening-lent = lent group-header before.here refl is-grh

  -- its transactions are gone over
  pub past-inside : (e : ℕ) → e ≡ at + 28 + 2 → {named : Bytes} {p : Passed}
      → PastTransactions named f (n + 1 + length (rest_at f e)) (rest_at f e) p → PastTransactions named f m (tail_of (rest_at f at)) p
  past-inside e q {named} {p} past = known-after group-header before refl is-grh e q (λ k l. PastTransactions named f k l p) past

  module _ {named : Bytes} {p : Passed} (inside : PastTransactions named f m (tail_of (rest_at f at)) p) where
    pub closing-ends : p.at + 37 + 2 ≤ length f
    closing-ends = ends group-trailer inside.position.here refl inside.closed

    pub past-group : PastGroup f m (rest_at f at) (record { at = p.at + 37 + 2; index = p.index + 1 })
    past-group = record {
      position = step inside.position refl (next group-trailer inside.position.here refl inside.closed _ refl);
      groups =
          ap (groups_in cwr22) (first-left before.here refl)
          ∙ group-first cwr22 (first_record rs) (tail_of rs) (rw is-grh refl)
          ∙ ap (λ l. group_of rs ∷ l) (closing-skipped (after (is_inside cwr22) (tail_of rs)) inside.closed);
    }

-- its entries, once all its records are written and raised
pub filled-group : (tables : Tables) (t : ℕ) (rs : List Bytes) {named : Bytes} {i : ℕ} (p : Passed) {least : ℕ}
    → {v₀ g₀ v₁ g₁ v₂ g₂ v₃ g₃ ys : Bytes} → named ≡ named_type (first_record rs)
    → Filled i (i + 1) (0 ∷ []) ([] ∷ []) v₀ g₀ v₁ g₁
    → FilledTransactions tables t named (i + 1) p.index (transactions_of (tail_of rs)) v₁ g₁ v₂ g₂
    → Filled p.index (p.index + 1) (0 ∷ []) ([] ∷ []) v₂ g₂ v₃ g₃
    → p.stray ≡ is_stray_among named (transactions_of (tail_of rs))
    → least ≡ cond p.stray 4 0 → ys ≡ raised least (take (p.index + 1 - i) (drop i v₃))
    → FilledGroup tables t i (p.index + 1) (group_of rs) v₀ g₀ (put_mid i (p.index + 1 - i) v₃ ys) g₃
unfolding group_verdicts_by group_findings_by is_stray
filled-group tables t rs {named} {i} p {least} {ys = ys} nm opened inside closed stray l y =
    let its-own = rw nm at inside in
    let all = filled-then (filled-then opened its-own) closed in
    rw (l, stray, nm) at (filled-raised all least {ys = ys} y)

-- ---- the loop

-- the walk has gone over the groups gs; the claim says what was done with them
abbrev pub Inv : (f : Bytes) (m start : ℕ) (claim : List Group → Type 0) (n : Next) → Type 0
Inv f m start claim n = (gs : List Group) × Going (groups_in cwr22) f m start grt claim n.at n.index gs

pub begins : {f : Bytes} {m start i : ℕ} {claim : List Group → Type 0} → Position f m start i hdr (rest_at f start) → claim []
    → Inv f m start claim (record { at = start; index = i })
begins {f} {m} {start} p done = ([], going-none (groups_in cwr22) f m start grt (record { here = as-closed p.here; left = p.left }) done)

module _ {f : Bytes} {m start : ℕ} {claim : List Group → Type 0} {n : Next} (inv : Inv f m start claim n) where
  abbrev here_on : List Bytes
  here_on = rest_at f n.at

  pub position : Position f m n.at n.index grt (rest_at f n.at)
  position = inv.1.position

  pub done : claim inv.0
  done = inv.1.done

  left : here_on ≡ first_record here_on ∷ tail_of here_on
  left = first-left position.here refl

  pub in-file : n.at < length f
  in-file = omega (arith, three-left (first-here position.here refl))

  follower : may_follow grt (cls cwr22 (first_record here_on)) ≡ true
  follower = follows grt refl here_on position.here.placed

  -- G is the first letter of GRH, and not of TRL
  pub group-here : eqb (get_or f n.at 0) 71 ≡ true → cls cwr22 (first_record (rest_at f n.at)) ≡ grh
  group-here e =
      by_cases (is_grh cwr22 (first_record here_on))
      (λ q. sym (is→eq grh _ (is_T (is_grh cwr22 (first_record here_on)) q)))
      (λ q. absurd (false≢true (ap (λ b. eqb b 71) (sym (letter trailer-letter position.here refl (trl-after _ follower q))) ∙ e)))

  no-group : eqb (get_or f n.at 0) 71 ≡ false → is_grh cwr22 (first_record here_on) ≡ false
  no-group e =
      by_cases (is_grh cwr22 (first_record here_on))
      (λ q. let is-grh = sym (is→eq grh _ (is_T (is_grh cwr22 (first_record here_on)) q)) in
      absurd (false≢true (sym e ∙ ap (λ b. eqb b 71) (letter opening-letter position.here refl is-grh))))
      (λ q. q)

  -- a group that stands here is the first of those that are left
  pub split-here : cls cwr22 (first_record (rest_at f n.at)) ≡ grh → groups_in cwr22 (rest_at f start)
      ≡ inv.0 ++ group_of (rest_at f n.at) ∷ groups_in cwr22 (after (is_inside cwr22) (tail_of (rest_at f n.at)))
  split-here is-grh =
      let first_of = ap (groups_in cwr22) left ∙ group-first cwr22 (first_record here_on) (tail_of here_on) (rw is-grh refl) in
      inv.1.split ∙ ap (λ l. inv.0 ++ l) first_of

  -- one group more
  module _ (o : Next) (past : PastGroup f (n.index + length (rest_at f n.at)) (rest_at f n.at) o) where
    after-it : Position f m o.at o.index grt (after_group here_on)
    after-it = subst (λ (k : ℕ). Position f k o.at o.index grt (after_group here_on)) position.left past.position

    pub one_more : {claim' : List Group → Type 0} → claim' (inv.0 ++ group_of (rest_at f n.at) ∷ []) → Inv f m start claim' o
    one_more done' =
        (inv.0 ++ group_of here_on ∷ [], going_on (groups_in cwr22) f m start grt inv.1 (group_of here_on) past.groups after-it done')

    -- so fewer records are left
    pub fewer-left : length (rest_at f o.at) < length (rest_at f n.at)
    fewer-left =
        let inside = length-parted (is_inside cwr22) (tail_of here_on) in
        omega (arith, ap length after-it.here.left, ap length left, inside, fewer-tail (after (is_inside cwr22) (tail_of here_on)))

  -- none is left
  module _ (e : eqb (get_or f n.at 0) 71 ≡ false) where
    is-trl : cls cwr22 (first_record here_on) ≡ trl
    is-trl = trl-after _ follower (no-group e)

    alone : tail_of here_on ≡ []
    alone = last-record (tail_of here_on) (next file-trailer position.here refl is-trl (n.at + 24 + 2) refl).placed

    pub past_all : PastGroups f m n
    past_all = record { position = position; trailer = ap length left ∙ ap (λ l. suc (length l)) alone }

    pub all-gone : groups_in cwr22 (rest_at f start) ≡ inv.0
    all-gone =
        let none = ap (groups_in cwr22) left ∙ groups-skip cwr22 (first_record here_on) (tail_of here_on) (no-group e) ∙ ap (groups_in cwr22) alone in
        going-all (groups_in cwr22) f m start grt inv.1 none

    pub all_done : claim (groups_in cwr22 (rest_at f start))
    all_done = subst claim (sym all-gone) done
