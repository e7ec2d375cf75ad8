-- What is claimed of a call of numbering (specs/Claims) holds. Assumes nothing.
use Prim.Native.Nat.{ℕ, ◌≤◌}
use native.Mathlib.Omega.{arith}
use mathlib.Core.Path.{◌≡◌, refl, ◌∙◌}
use lib.Dec.{T, leb, leb→le}
use lib.ListN.{length, take, drop}
use Rattle.format.specs.Bytes.{Bytes}
use Rattle.format.specs.Cwr22.{cwr22}
use Rattle.format.specs.Structure.{passed}
use Rattle.format.specs.Numbering.{numbering, numbered_file}
use Rattle.format.specs.Claims.{Near}
use Rattle.format.proofs.Answers.{By, refused-by, numbering-by}
use Rattle.format.proofs.At22.{numbers-22, nearby-22}
use Rattle.format.proofs.Lent.{room-passed, room-near, room_by, left-front, left-beyond, left-length}
use Rattle.numbering.specs.Outcome.{number_answer, number_buffer}
use Rattle.numbering.specs.Claims.{is_numberings, NumberCalls}

module _ (f : Bytes) (room g m n : ℕ) (e : number_answer f room ≡ passed g m n) where
  -- the file is numbered, and its length is within the room
  taken : (numbering cwr22 f ≡ passed g m n) × (length f ≤ room)
  unfolding number_answer
  taken =
      let (p, q) = room-passed (λ _. leb (length f) room) (numbering cwr22 f) g m n e in
      (p, leb→le (length f) room q)

  long : length (numbered_file cwr22 f) ≡ length f
  long = numbers-22.as_long f (g, m, n, taken.0)

module _ (f out : Bytes) (g m n : ℕ) (e : number_answer f (length out) ≡ passed g m n) where
  front : take (length f) (number_buffer f out) ≡ numbered_file cwr22 f
  unfolding number_buffer
  front = rw e (left-front g m n (length f) (numbered_file cwr22 f) out (long f (length out) g m n e))

  beyond : drop (length f) (number_buffer f out) ≡ drop (length f) out
  unfolding number_buffer
  beyond = rw e (left-beyond g m n (length f) (numbered_file cwr22 f) out (long f (length out) g m n e))

as_long : (f out : Bytes) → length (number_buffer f out) ≡ length out
unfolding number_buffer
as_long f out =
    left-length (number_answer f (length out)) (numbered_file cwr22 f) out
    (λ g m n e. omega (arith, long f (length out) g m n e, (taken f (length out) g m n e).1))

by-these : (f : Bytes) (room : ℕ) → By (λ n. T (is_numberings n)) (number_answer f room)
unfolding number_answer
by-these f room =
    room_by (λ n. T (is_numberings n)) (λ _. leb (length f) room) (numbering cwr22 f) tt
    (numbering-by cwr22 (λ n. T (is_numberings n)) (tt, (tt, (tt, (tt, (tt, (tt, tt)))))) f)

pub near : (f : Bytes) (room : ℕ) → Near (number_answer f room)
unfolding number_answer
near f room = room-near (λ _. leb (length f) room) (numbering cwr22 f) (nearby-22 f).1

pub number-calls : NumberCalls
unfolding number_buffer
number-calls = record {
  untouched = λ f out n i e. rw e refl;
  passes = λ f out g m n e. rw (front f out g m n e) (numbers-22.passes f g m n (taken f (length out) g m n e).0);
  outside = λ f out g m n e. rw (front f out g m n e) (numbers-22.outside f (g, m, n, (taken f (length out) g m n e).0));
  beyond = beyond;
  as_long = as_long;
  same = λ f out g m n s e. front f out g m n e ∙ (numbers-22.same f g m n s).1;
  numbers = λ f room n i e. refused-by (λ k. T (is_numberings k)) n i (by-these f room) e;
  near = near;
}
