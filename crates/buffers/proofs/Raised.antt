-- Verdicts raised where they stand. Assumes nothing.
use mathlib.Core.Path.{◌≡◌, sym, ap, ◌∙◌}
use mathlib.Core.Bool.{Bool}
use mathlib.Core.List.{List, ◌++◌, append_assoc, append-nil}
use Prim.Native.Nat.{ℕ, suc, ◌+◌, ◌-◌, ◌<◌, ◌≤◌}
use native.Mathlib.Numerals.{add-one}
use native.Mathlib.Omega.{arith}
use lib.ListN.{length, take, drop, set, get_or, length-map, drop_of_length-le}
use lib.Seq.{take-suc-set, drop-set-lt, drop-cons, take_all}
use borrow.Rule.Slice.PartMut.{put_mid}
use Rattle.format.specs.Bytes.{Bytes}
use Rattle.rules.specs.Findings.{larger}
use Rattle.rules.specs.Verdicts.{raised}
use Rattle.buffers.specs.Written.{Written}
use Rattle.buffers.proofs.Splice.{part-splice}
use Rattle.buffers.proofs.Entries.{again, stood}

-- ---- one verdict after the other: the first i of p are raised, and with the others raised it is the whole

module _ (least i : ℕ) (p whole : Bytes) (inv : take i p ++ raised least (drop i p) ≡ whole) where
  pub raise-on : (x : ℕ) → i < length p → x ≡ larger least (get_or p i 0)
      → take (i + 1) (set p i x) ++ raised least (drop (i + 1) (set p i x)) ≡ whole
  unfolding raised
  raise-on x h e =
      let k : i < suc i = omega arith in
      rw (add-one, take-suc-set p i x h, drop-set-lt (suc i) p i x k, append_assoc (take i p), e) (rw (drop-cons p i 0) at inv)

  pub raise-end : length p ≤ i → p ≡ whole
  unfolding raised
  raise-end h = sym (append-nil p) ∙ rw (take_all i p h, drop_of_length-le p h) at inv

-- ---- the verdicts of some records

pub length-raised : (least : ℕ) (vs : List ℕ) → length (raised least vs) ≡ length vs
unfolding raised
length-raised least vs = length-map vs (larger least)

-- verdicts that were written are raised, from the first record to e, where they stand
pub raised-over : {i : ℕ} {vs : List ℕ} {fs : List (List Bool)} {v f v' f' : Bytes} (least e : ℕ) (ys : Bytes) → Written i vs fs v f v' f'
    → e ≡ i + length fs → ys ≡ raised least (take (e - i) (drop i v')) → Written i (raised least vs) fs v f (put_mid i (e - i) v' ys) f'
raised-over {i} {vs} {fs} {v' = v'} least e ys w q y =
    let k : e - i ≡ length fs = omega arith in
    let z : ys ≡ raised least vs = y ∙ ap (raised least) (rw k (stood w)) in
    let n : length (raised least vs) ≡ e - i = length-raised least vs ∙ w.even ∙ sym k in
    again w (raised least vs) _ (length-raised least vs) (rw z (part-splice i (e - i) (raised least vs) v' n))
