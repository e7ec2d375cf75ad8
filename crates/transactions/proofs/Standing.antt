-- The record before which a walk over details stands. Assumes nothing.
use Prim.Native.Nat.{ℕ, ◌+◌, ◌-◌, ◌≤◌}
use native.Mathlib.Omega.{arith}
use mathlib.Core.Path.{◌≡◌, refl, sym, ap, ◌∙◌, subst}
use mathlib.Core.Bool.{true, false}
use mathlib.Core.List.{◌∷◌}
use lib.ListN.{length, take, drop}
use Rattle.format.specs.Bytes.{Bytes}
use Rattle.format.specs.Table.{Class, head, detail}
use Rattle.format.specs.Cwr22.{cwr22}
use Rattle.format.specs.Checks.{cls}
use Rattle.format.specs.Structure.{first_record}
use Rattle.format.specs.Tree.{span, is_detail}
use Rattle.format.proofs.Logic.{is_T}
use Rattle.format.proofs.Tests.{by_cases}
use Rattle.format.proofs.Tree.{is→eq}
use Rattle.kinds.specs.declared.Row.{Row}
use Rattle.kinds.specs.Rows.{class_in, row_for}
use Rattle.kinds.specs.declared.Class.TheVariants.{Detail}
use Rattle.kinds.proofs.Laws.{in-class}
use Rattle.structure.specs.Cursor.{Here, First}
use Rattle.structure.proofs.Cursor.{first as record-here, placed-like}
use Rattle.edits.specs.Kinds.{Stands}
use Rattle.transactions.specs.Walk.{rest_at, tail_of}
use Rattle.transactions.proofs.Levels.{first-left, first-here}

module _ {f : Bytes} {at : ℕ} (here : Here f at head (rest_at f at)) {kind : Row} (its : kind ≡ row_for (take 3 (drop at f))) where
  pub front : First f at head kind (first_record (rest_at f at)) (tail_of (rest_at f at))
  front = record-here (first-here here refl) kind its

  pub ends : at + kind.length + 2 ≤ length f
  ends = front.ends

  pub lent : (e : ℕ) → e ≡ at + kind.length → take (e - at) (drop at f) ≡ first_record (rest_at f at)
  lent e q = let n : e - at ≡ kind.length = omega arith in rw n front.bytes

  -- a detail
  module _ (p : kind.class ≡ Detail) where
    pub is-detail : cls cwr22 (first_record (rest_at f at)) ≡ detail
    is-detail = front.class ∙ ap class_in p

    pub stands : Stands kind (first_record (rest_at f at))
    stands = ((front.own, is-detail), front.long)

    pub detail-here : is_detail cwr22 (first_record (rest_at f at)) ≡ true
    detail-here = rw is-detail

    pub first-detail : span (is_detail cwr22) (rest_at f at) ≡ first_record (rest_at f at) ∷ span (is_detail cwr22) (tail_of (rest_at f at))
    first-detail = ap (span (is_detail cwr22)) (first-left here refl) ∙ rw detail-here

    -- after it the others begin
    pub next_here : Here f (at + kind.length + 2) head (tail_of (rest_at f at))
    next_here =
        placed-like detail head refl (λ e k. k)
        (subst (λ (k : Class). Here f (at + kind.length + 2) k (tail_of (rest_at f at))) is-detail front.next)

  -- no detail
  pub no-detail : (kind.class ≡ Detail → ⊥) → is_detail cwr22 (first_record (rest_at f at)) ≡ false
  no-detail n =
      let r = first_record (rest_at f at) in
      by_cases (is_detail cwr22 r)
      (λ e. absurd (n (in-class kind.class Detail (sym front.class ∙ sym (is→eq detail (cls cwr22 r) (is_T (is_detail cwr22 r) e))))))
      (λ e. e)
