-- Bytes written over a field, and fields beside one another, compared and written one by one.
-- Assumes nothing.
use Prim.Native.Nat.{ℕ, ◌+◌, ◌-◌, ◌≤◌}
use native.Mathlib.Omega.{arith}
use mathlib.Core.Path.{◌≡◌, refl, sym, ap, ◌∙◌}
use mathlib.Core.Bool.{Bool, ◌&&◌, and_assoc}
use mathlib.Core.List.{[], ◌∷◌, ◌++◌, append_assoc, append-nil}
use lib.Dec.{eqb}
use lib.ListN.{length, take, drop, length-append, length-drop, take-append-drop}
use lib.Seq.{length-take-le, take-add, drop-drop, take_at, drop_at}
use borrow.Rule.Slice.PartMut.{put_mid}
use Rattle.format.specs.Bytes.{Bytes, same_bytes, decimal}
use Rattle.format.specs.Fields.{field_of}
use Rattle.format.proofs.Decimal.{length-decimal}
use Rattle.counts.specs.Carried.{over}

-- ---- bytes written over a field

pub over-part : (start w : ℕ) (s x : Bytes) → start - 1 + w ≤ length s → length x ≡ w
    → put_mid (start - 1) (start - 1 + w - (start - 1)) s x ≡ over start x s
unfolding over
over-part start w s x h long =
    let a = start - 1 in
    let p : a + w - a ≡ w = omega arith in
    rw (p, long, drop-drop w a s, append_assoc)

-- a number
pub over-field : (start w n : ℕ) (s d : Bytes) → start - 1 + w ≤ length s
    → d ≡ decimal (length (take (start - 1 + w - (start - 1)) (drop (start - 1) s))) n
    → put_mid (start - 1) (start - 1 + w - (start - 1)) s d ≡ over start (decimal w n) s
over-field start w n s d h e =
    let a = start - 1 in
    let p : a + w - a ≡ w = omega arith in
    let m : length (take w (drop a s)) ≡ w = length-take-le w (drop a s) (rw length-drop (omega arith)) in
    let q : d ≡ decimal w n = rw (p, m) at e in
    ap (λ (x : Bytes). put_mid (start - 1) (start - 1 + w - (start - 1)) s x) q ∙ over-part start w s (decimal w n) h (length-decimal w n)

pub over_nothing : (start : ℕ) (s : Bytes) → s ≡ over start [] s
unfolding over
over_nothing start s = let z : start - 1 + 0 ≡ start - 1 = omega arith in sym (rw (append-nil, z, take-append-drop))

-- ---- fields beside one another

same-append : (x y u v : Bytes) → length x ≡ length u → same_bytes (x ++ y) (u ++ v) ≡ (same_bytes x u && same_bytes y v)
same-append [] y [] v h = refl
same-append [] y (b ∷ u) v h = absurd (omega arith)
same-append (a ∷ x) y [] v h = absurd (omega arith)
same-append (a ∷ x) y (b ∷ u) v h = rw (same-append x y u v (omega arith)) (sym (and_assoc (eqb a b) (same_bytes x u) (same_bytes y v)))

-- the w bytes x stand in l from a start on, and y in the v bytes that follow: one by one they are compared and written as together
module _ (l : Bytes) (start w : ℕ) (x : Bytes) (long : length x ≡ w) (y : Bytes) (v : ℕ) (one : 1 ≤ start) (inside : start - 1 + w ≤ length l) where
  follows : start + w - 1 ≡ start - 1 + w
  follows = omega arith

  pub compared : (p q : Bool) → p ≡ same_bytes (field_of start w l) x → q ≡ same_bytes (field_of (start + w) v l) y
      → (p && q) ≡ same_bytes (field_of start (w + v) l) (x ++ y)
  unfolding field_of
  compared p q e f =
      let a = start - 1 in
      let size : length (take w (drop a l)) ≡ w = length-take-le w (drop a l) (rw length-drop (omega arith)) in
      rw (e, f, follows, take-add w v (drop a l), drop-drop w a l, same-append (take w (drop a l)) (take v (drop (a + w) l)) x y (size ∙ sym long))

  length_front : length (take (start - 1) l ++ x) ≡ start - 1 + w
  length_front = length-append (take (start - 1) l) x ∙ rw (length-take-le (start - 1) l (omega arith), long)

  front : take (start - 1 + w) (over start x l) ≡ take (start - 1) l ++ x
  unfolding over
  front = take_at (take (start - 1) l ++ x) _ (start - 1 + w) length_front

  back : (k : ℕ) → drop (start - 1 + w + k) (over start x l) ≡ drop (start - 1 + w + k) l
  unfolding over
  back k =
      sym (drop-drop k (start - 1 + w) (over start x l))
      ∙ ap (drop k) (drop_at (take (start - 1) l ++ x) _ (start - 1 + w) length_front)
      ∙ rw (long, drop-drop k (start - 1 + w) l)

  pub written : (m r : Bytes) → m ≡ over start x l → r ≡ over (start + w) y m → r ≡ over start (x ++ y) l
  unfolding over
  written m r e f =
      let both : start - 1 + w + length y ≡ start - 1 + length (x ++ y) = omega (arith, length-append x y, long) in
      f ∙ rw (e, follows, front, back (length y), both, append_assoc (take (start - 1) l) x y)
