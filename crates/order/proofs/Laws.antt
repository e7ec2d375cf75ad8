-- The walk decides finding 8; and where one record more leads: its columns of the table are its spots, and the first of them that it may
-- take is taken. Assumes nothing.
use Prim.Native.Nat.{ℕ, ◌≤◌}
use native.Mathlib.Omega.{arith}
use mathlib.Core.Path.{◌≡◌, refl, sym, ap, ◌∙◌}
use mathlib.Core.Bool.{Bool, true, false, not, cond, ◌&&◌, ◌||◌, or-false}
use mathlib.Core.Option.{Option, none, some}
use mathlib.Core.List.{List, [], ◌∷◌, ◌++◌, map, map-append}
use lib.Dec.{ltb, eqb}
use borrow.Author.Tests.{eqb-true}
use lib.ListN.{length, take}
use Rattle.format.specs.Ascii.{ascii}
use Rattle.format.specs.Bytes.{Bytes, same_bytes, every}
use Rattle.format.specs.Table.{detail, Row as FormatRow, row}
use Rattle.format.specs.Cwr22.{rows22, cwr22}
use Rattle.format.specs.Checks.{cls}
use Rattle.format.specs.Stages.{Spot, spot, spots, begins, stages}
use Rattle.rules.specs.Records.{only, any}
use Rattle.rules.specs.Other.{is24}
use Rattle.rules.specs.Order.{may_take, in_order, outset, counted_types, is8}
use Rattle.rules.proofs.Lists.{only_kept, only-left}
use Rattle.rules.proofs.Order.{one_spot}
use Rattle.kinds.specs.Rows.{code_row, column, spots_of, sort_of, row_for}
use Rattle.kinds.specs.declared.Row.{Row}
use Rattle.kinds.proofs.Laws.{in_class, of-class, stage-spots, alone-begins}
use Rattle.format.proofs.Tests.{by_cases}
use Rattle.order.specs.declared.Order.{Order}
use Rattle.order.specs.Walk.{first_fit, taken, on, walk, nowhere, reached, spot_of, standing, takes}

-- ---- the walk decides finding 8

-- it leads on to where the rest is in order
onward : (Spot → Bool) → Option Spot → Bool
onward rest none = false
onward rest (some to) = rest to

module _ (fits rest : Spot → Bool) where
  none-fits : (tos : List Spot) → length (only fits tos) ≤ 0 → any (λ to. fits to && rest to) tos ≡ false
  none-fits [] h = refl
  none-fits (to ∷ tos) h = by_cases (fits to) (λ e. absurd (omega (arith, rw e at h))) (λ e. rw e (none-fits tos (rw e at h)))

  -- of spots of which one at most fits, the first that fits is as good as any
  first-is : (tos : List Spot) → length (only fits tos) ≤ 1 → any (λ to. fits to && rest to) tos ≡ onward rest (first_fit fits tos)
  unfolding onward
  first-is [] h = refl
  first-is (to ∷ tos) h =
      by_cases (fits to)
      (λ e. rw (e, none-fits tos (omega (arith, rw e at h))) (or-false (rest to)))
      (λ e. rw e (first-is tos (rw e at h)))

walk_none : (types : List Bytes) → walk none types ≡ none
walk_none [] = refl
walk_none (type ∷ types) = walk_none types

walk-on : (types : List Bytes) → ((from : Spot) → nowhere (walk (some from) types) ≡ not (in_order from types)) → (at : Option Spot)
    → nowhere (walk at types) ≡ not (onward (λ from. in_order from types) at)
unfolding onward
walk-on types rest none = ap nowhere (walk_none types)
walk-on types rest (some from) = rest from

walk_is : (types : List Bytes) (from : Spot) → nowhere (walk (some from) types) ≡ not (in_order from types)
unfolding in_order taken
walk_is [] from = refl
walk_is (type ∷ types) from =
    walk-on types (walk_is types) (taken from type)
    ∙ ap not (sym (first-is (may_take type from) (λ to. in_order to types) (spots type) (one_spot type from)))

pub nowhere-is : (ds : List Bytes) → nowhere (reached ds) ≡ is8 ds
unfolding reached is8
nowhere-is ds = walk_is (counted_types ds) outset

-- ---- the types of finding 24 are the details without a spot

named24 : Bytes → Bool
named24 type = same_bytes (ascii "TER") type || same_bytes (ascii "IPA") type || same_bytes (ascii "NPA") type || same_bytes (ascii "MSG") type

same : Bool → Bool → Bool
same a b = (a && b) || (not a && not b)

same→eq : (a b : Bool) → same a b ≡ true → a ≡ b
unfolding same
same→eq true true e = refl
same→eq true false e = sym e
same→eq false true e = e
same→eq false false e = refl

spotless : FormatRow → Bool
spotless (row type n c) = same (eqb (code_row (row type n c)).first 0) (named24 type)

all-spotless : every (in_class detail spotless) rows22 ≡ true
unfolding rows22 spotless same named24 spots begins stages sort_of
all-spotless = refl

pub passed_over : (r : Bytes) → cls cwr22 r ≡ detail → eqb (row_for (take 3 r)).first 0 ≡ is24 r
unfolding row_for rows22 spotless named24 is24
passed_over r d =
    of-class detail spotless all-spotless refl (λ (f : FormatRow). eqb (code_row f).first 0 ≡ named24 (take 3 r)) r d (λ n e. same→eq _ _ e)

-- ---- one record more

walk-last : (at : Option Spot) (types : List Bytes) (type : Bytes) → walk at (types ++ type ∷ []) ≡ on (walk at types) type
walk-last at [] type = refl
walk-last at (u ∷ types) type = walk-last (on at u) types type

reached-skip : (ds : List Bytes) (r : Bytes) → is24 r ≡ true → reached (ds ++ r ∷ []) ≡ reached ds
unfolding reached
reached-skip ds r e = ap (λ l. walk (some outset) (map (take 3) l)) (only-left (λ q. not (is24 q)) ds r (ap not e))

reached-on : (ds : List Bytes) (r : Bytes) → is24 r ≡ false → reached (ds ++ r ∷ []) ≡ on (reached ds) (take 3 r)
unfolding reached
reached-on ds r e =
    ap (λ l. walk (some outset) (map (take 3) l)) (only_kept (λ q. not (is24 q)) ds r (ap not e))
    ∙ ap (walk (some outset)) (map-append (take 3) (only (λ q. not (is24 q)) ds) (r ∷ []))
    ∙ walk-last (some outset) (counted_types ds) (take 3 r)

fit-column : (fits : Spot → Bool) (n k : ℕ) (qs : List Spot)
    → first_fit fits (column n k qs) ≡ cond (ltb 0 n && fits (spot n k)) (some (spot n k)) (first_fit fits qs)
fit-column fits n k qs = by_cases (ltb 0 n) (λ e. rw e) (λ e. rw e)

-- a choice among the three columns
abbrev pub chosen : Order → Row → Option Spot
chosen o kind =
    cond (takes o kind kind.first) (some (spot kind.first kind.rank))
    (cond (takes o kind kind.second) (some (spot kind.second kind.rank))
    (cond (takes o kind kind.third) (some (spot kind.third kind.rank)) none))

module _ (o : Order) (kind : Row) (type : Bytes) (its : kind ≡ row_for type) where
  taken-chosen : taken (spot_of o) type ≡ chosen o kind
  unfolding taken
  taken-chosen =
      let f : Spot → Bool = may_take type (spot_of o) in
      let s : spots type ≡ spots_of kind = sym (stage-spots type) ∙ sym (ap spots_of its) in
      let b : begins type ≡ kind.alone = sym (alone-begins type) ∙ sym (ap (λ (k : Row). k.alone) its) in
      let third = column kind.third kind.rank [] in
      rw (
        s,
        fit-column f kind.first kind.rank (column kind.second kind.rank third),
        fit-column f kind.second kind.rank third,
        fit-column f kind.third kind.rank [],
        b,
      )

  on-chosen : on (standing o) type ≡ cond o.broken none (chosen o kind)
  on-chosen = by_cases o.broken (λ e. rw e) (λ e. rw e taken-chosen)

pub either-none : (b : Bool) → ◌≡◌ {A = Option Spot} (cond b none none) none
either-none true = refl
either-none false = refl

module _ (o : Order) (kind : Row) (ds : List Bytes) (r : Bytes) (its : kind ≡ row_for (take 3 r)) (d : cls cwr22 r ≡ detail)
    (stands : standing o ≡ reached ds) where
  none-24 : eqb kind.first 0 ≡ is24 r
  none-24 = ap (λ (k : Row). eqb k.first 0) its ∙ passed_over r d

  pub stays : kind.first ≡ 0 → standing o ≡ reached (ds ++ r ∷ [])
  stays e = stands ∙ sym (reached-skip ds r (sym none-24 ∙ rw e))

  pub goes : (kind.first ≡ 0 → ⊥) → cond o.broken none (chosen o kind) ≡ reached (ds ++ r ∷ [])
  goes n =
      let e : eqb kind.first 0 ≡ false = by_cases (eqb kind.first 0) (λ q. absurd (n (eqb-true kind.first 0 q))) (λ q. q) in
      sym (on-chosen o kind (take 3 r) its) ∙ ap (λ (p : Option Spot). on p (take 3 r)) stands ∙ sym (reached-on ds r (sym none-24 ∙ e))

nowhere-broken : (b : Bool) (at : Spot) → nowhere (cond b none (some at)) ≡ b
nowhere-broken true at = refl
nowhere-broken false at = refl

pub broken_is : (o : Order) (ds : List Bytes) → standing o ≡ reached ds → o.broken ≡ is8 ds
broken_is o ds e = sym (nowhere-broken o.broken (spot_of o)) ∙ ap nowhere e ∙ nowhere-is ds
