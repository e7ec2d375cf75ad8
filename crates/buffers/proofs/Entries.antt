-- Laws of `Written`. Assumes nothing.
use mathlib.Core.Path.{◌≡◌, refl, sym, ap, ◌∙◌}
use mathlib.Core.Bool.{Bool}
use mathlib.Core.List.{List, [], ◌∷◌, ◌++◌}
use Prim.Native.Nat.{ℕ, suc, ◌+◌, ◌-◌, ◌*◌, ◌<◌, ◌≤◌}
use native.Mathlib.Omega.{arith}
use lib.ListN.{length, take, drop, set, length-append}
use borrow.Rule.Slice.PartMut.{put_mid}
use Rattle.format.specs.Bytes.{Bytes, bytes_of}
use Rattle.rules.specs.Findings.{set_of}
use Rattle.rules.specs.Verdicts.{finding_bytes}
use Rattle.rules.proofs.Joined.{findings-one, findings-append, length-findings}
use Rattle.format.specs.Lent.{splice}
use Rattle.buffers.specs.Written.{Written}
use Rattle.buffers.proofs.Splice.{set-splice, part-splice, length-splice, mid, splice-on, splice-over, splice-before}

-- ---- one entry

-- a verdict is stored at i, and of the findings the eight bytes before e, where the next record's begin, come back as those of a set
pub entry : (i x n : ℕ) (s : List Bool) (v f ys : Bytes) (e : ℕ) → e ≡ 8 * (i + 1) → i < length v → e ≤ length f → ys ≡ bytes_of 8 n
    → n ≡ set_of s
    → Written i (x ∷ []) (s ∷ []) v f (set v i x) (put_mid (e - 8) (e - (e - 8)) f ys)
entry i x n s v f ys e k h g y q =
    let a : e - 8 ≡ 8 * i = omega arith in
    let w : e - 8 * i ≡ 8 = omega arith in
    let z : ys ≡ finding_bytes (s ∷ []) = y ∙ rw q (sym (findings-one s)) in
    record {
      verdicts = set-splice i x v h;
      findings = rw (a, w, z) (part-splice (8 * i) 8 (finding_bytes (s ∷ [])) f (length-findings (s ∷ [])));
      even = refl;
      in_v = omega arith;
      in_f = omega arith;
    }

-- ---- many

-- where the findings of the records after these begin
next-findings : (i : ℕ) (fs : List (List Bool)) → 8 * i + length (finding_bytes fs) ≡ 8 * (i + length fs)
next-findings i fs = omega (arith, length-findings fs)

module _ {i : ℕ} {vs : List ℕ} {fs : List (List Bool)} {v f v' f' : Bytes} (w : Written i vs fs v f v' f') where
  long-v : i + length vs ≤ length v
  long-v = omega (arith, w.even, w.in_v)

  long-f : 8 * i + length (finding_bytes fs) ≤ length f
  long-f = omega (arith, length-findings fs, w.in_f)

  pub kept-v : length v' ≡ length v
  kept-v = ap length w.verdicts ∙ length-splice i vs v long-v

  pub kept-f : length f' ≡ length f
  kept-f = ap length w.findings ∙ length-splice (8 * i) (finding_bytes fs) f long-f

  on-v : (us : List ℕ) → splice (i + length fs) us v' ≡ splice i (vs ++ us) v
  on-v us = rw (w.verdicts, ← w.even) (splice-on i vs v long-v us)

  on-f : (gs : List (List Bool)) → splice (8 * (i + length fs)) (finding_bytes gs) f' ≡ splice (8 * i) (finding_bytes (fs ++ gs)) f
  on-f gs = rw (w.findings, ← next-findings i fs, findings-append fs gs) (splice-on (8 * i) (finding_bytes fs) f long-f (finding_bytes gs))

  -- more is written after it
  pub then : {us : List ℕ} {gs : List (List Bool)} {v'' f'' : Bytes} → Written (i + length fs) us gs v' f' v'' f''
      → Written i (vs ++ us) (fs ++ gs) v f v'' f''
  then {us = us} {gs = gs} n = record {
    verdicts = n.verdicts ∙ on-v us;
    findings = n.findings ∙ on-f gs;
    even = length-append vs us ∙ omega (arith, w.even, n.even) ∙ sym (length-append fs gs);
    in_v = omega (arith, length-append fs gs, n.in_v, kept-v);
    in_f = omega (arith, length-append fs gs, n.in_f, kept-f);
  }

  -- other verdicts are written over it
  pub again : (us : List ℕ) (v'' : Bytes) → length us ≡ length vs → v'' ≡ splice i us v' → Written i us fs v f v'' f'
  again us v'' e n = record {
    verdicts = n ∙ rw w.verdicts (splice-over i vs v long-v us e);
    findings = w.findings;
    even = e ∙ w.even;
    in_v = w.in_v;
    in_f = w.in_f;
  }

  pub stood : take (length fs) (drop i v') ≡ vs
  stood = rw (w.verdicts, ← w.even) (mid i vs v long-v)

-- the entry before the others is written last
pub first : {i x : ℕ} {s : List Bool} {us : List ℕ} {gs : List (List Bool)} {v f v' f' v'' f'' : Bytes}
    → Written (i + 1) us gs v f v' f' → Written i (x ∷ []) (s ∷ []) v' f' v'' f'' → Written i (x ∷ us) (s ∷ gs) v f v'' f''
first {i} {x} {s} {us} {gs} {v} {f} w n = record {
  verdicts = n.verdicts ∙ rw w.verdicts (splice-before (i + 1) us v (long-v w) i (x ∷ []) refl);
  findings =
      n.findings
      ∙ rw (w.findings, findings-append (s ∷ []) gs)
      (splice-before (8 * (i + 1)) (finding_bytes gs) f (long-f w) (8 * i) (finding_bytes (s ∷ [])) (next-findings i (s ∷ [])));
  even = ap suc w.even;
  in_v = omega (arith, w.in_v);
  in_f = omega (arith, w.in_f);
}
