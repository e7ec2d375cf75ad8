-- Answers where buffers are lent, and what is left in them. Assumes nothing.
use Prim.Native.Nat.{ℕ, ◌≤◌}
use native.Mathlib.Omega.{arith}
use mathlib.Core.Path.{◌≡◌, refl}
use mathlib.Core.Bool.{Bool}
use lib.ListN.{length, take, drop, length-append, length-drop}
use lib.Seq.{take-append_seam, drop-append_seam}
use lib.Dec.{T}
use Rattle.format.specs.Bytes.{Bytes}
use Rattle.format.specs.Structure.{Answer, refused, passed, unless}
use Rattle.format.specs.Lent.{in_room, left_in}
use Rattle.format.specs.Claims.{is_structural, Near}
use Rattle.format.proofs.Answers.{tested, untested, By, refusal-by, later}
use Rattle.format.proofs.Near.{near, unless-within}

-- ---- 11

pub room-passed : (enough : ℕ → Bool) (a : Answer) (k m n : ℕ) → in_room enough a ≡ passed k m n → (a ≡ passed k m n) × T (enough n)
room-passed enough (refused i j) k m n e = let z : ◌≡◌ {A = ℕ} 0 1 = cc in absurd (omega arith)
room-passed enough (passed g h r) k m n e =
    let p = tested 11 0 (enough r) (passed g h r) k m n e in
    let same : r ≡ n = cc p.1 in
    (p.1, rw same at p.0)

-- room enough for as many records as are answered
pub in-room : (enough : ℕ → Bool) (a : Answer) → ((k m n : ℕ) → a ≡ passed k m n → T (enough n)) → in_room enough a ≡ a
in-room enough (refused n i) h = refl
in-room enough (passed g m r) h = untested 11 0 (enough r) (passed g m r) (h g m r refl)

pub room-near : (enough : ℕ → Bool) (a : Answer) → Near a → Near (in_room enough a)
room-near enough (refused n i) h = h
room-near enough (passed g m r) h = near 11 (unless (enough r) 0) (passed g m r) (unless-within (enough r) 0 (omega arith)) h

pub room_by : (P : ℕ → Type 0) (room : ℕ → Bool) (a : Answer) → P 11 → By P a → By P (in_room room a)
room_by P room (refused n i) p h = h
room_by P room (passed g m r) p h = refusal-by P 11 (unless (room r) 0) (passed g m r) p h

-- a refusal on structure stands before 11
pub room-later : (n i : ℕ) → T (is_structural n) → (room : ℕ → Bool) (a : Answer) → in_room room a ≡ refused n i → a ≡ refused n i
room-later n i s room (refused k j) e = e
room-later n i s room (passed g m r) e = later n i s 11 0 (room r) (passed g m r) (λ x. x) e

-- ---- what is left in a buffer

-- as many bytes as are new
module _ (k m n size : ℕ) (new old : Bytes) (e : length new ≡ size) where
  pub left-front : take size (left_in (passed k m n) new old) ≡ new
  left-front = rw (← e) (take-append_seam new (drop (length new) old))

  pub left-beyond : drop size (left_in (passed k m n) new old) ≡ drop size old
  left-beyond = rw (← e) (drop-append_seam new (drop (length new) old))

pub left-length : (a : Answer) (new old : Bytes) → ((k m n : ℕ) → a ≡ passed k m n → length new ≤ length old)
    → length (left_in a new old) ≡ length old
left-length (refused n i) new old h = refl
left-length (passed g m r) new old h =
    omega (arith, length-append new (drop (length new) old), length-drop (length new) old, h g m r refl)
