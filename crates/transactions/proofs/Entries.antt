-- The entries of some records, one after the other, and the room for them. Assumes nothing.
use Prim.Native.Nat.{ℕ, suc, ◌+◌, ◌-◌, ◌*◌, ◌≤◌, ◌<◌}
use native.Mathlib.Omega.{arith}
use mathlib.Core.Path.{◌≡◌, refl, sym, ap, subst}
use mathlib.Core.Bool.{Bool, false}
use mathlib.Core.List.{List, [], ◌++◌}
use lib.ListN.{length, take, drop, length-append}
use borrow.Rule.Slice.PartMut.{put_mid}
use Rattle.format.specs.Bytes.{Bytes}
use Rattle.format.specs.Table.{Class, trl}
use Rattle.format.specs.Checks.{is}
use Rattle.rules.specs.Verdicts.{raised, finding_bytes}
use Rattle.buffers.specs.Written.{Written}
use Rattle.buffers.proofs.Splice.{splice-nil}
use Rattle.buffers.proofs.Entries.{kept-v, kept-f, then}
use Rattle.buffers.proofs.Raised.{raised-over}
use Rattle.transactions.specs.Walk.{tail_of, Position, Room, Filled}
use Rattle.transactions.proofs.Levels.{first-left}

pub filled_none : {i m : ℕ} {v g : Bytes} → Room m (length v) (length g) → i ≤ m → Filled i i [] [] v g v g
unfolding finding_bytes
filled_none {i} {v = v} {g} room le = record {
  end = omega arith;
  written = record {
    verdicts = sym (splice-nil i v);
    findings = sym (splice-nil (8 * i) g);
    even = refl;
    in_v = omega (arith, room.in_v);
    in_f = omega (arith, room.in_f);
  };
}

module _ {i n : ℕ} {vs : List ℕ} {sets : List (List Bool)} {v₀ g₀ v g : Bytes} (filled : Filled i n vs sets v₀ g₀ v g) where
  -- more are written after them
  pub filled-then : {n' : ℕ} {us : List ℕ} {more : List (List Bool)} {v' g' : Bytes} → Filled n n' us more v g v' g'
      → Filled i n' (vs ++ us) (sets ++ more) v₀ g₀ v' g'
  filled-then {us = us} {more} {v'} {g'} next = record {
    end = rw (length-append sets more) (omega (arith, filled.end, next.end));
    written = then filled.written (subst (λ (k : ℕ). Written k us more v g v' g') filled.end next.written);
  }

  -- their verdicts are raised where they stand
  pub filled-raised : (least : ℕ) {ys : Bytes} → ys ≡ raised least (take (n - i) (drop i v))
      → Filled i n (raised least vs) sets v₀ g₀ (put_mid i (n - i) v ys) g
  filled-raised least {ys} y = record { end = filled.end; written = raised-over least n ys filled.written filled.end y }

  -- no buffer grows or shrinks
  pub room-kept : {m : ℕ} → Room m (length v₀) (length g₀) → Room m (length v) (length g)
  room-kept room = record {
    few = room.few;
    in_v = omega (arith, room.in_v, kept-v filled.written);
    in_f = omega (arith, room.in_f, kept-f filled.written);
  }

-- the record before which a walk stands has an entry
pub entry-room : {f : Bytes} {m at n : ℕ} {c : Class} {rs : List Bytes} {v g : ℕ} → Position f m at n c rs → is trl c ≡ false → Room m v g
    → (n < v) × (8 * (n + 1) ≤ g)
entry-room {rs = rs} p more room =
    let left : length rs ≡ suc (length (tail_of rs)) = ap length (first-left p.here more) in
    (omega (arith, p.left, room.in_v), omega (arith, p.left, room.in_f))
