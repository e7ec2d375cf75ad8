-- What each ending of a check comes to, and that what passes has room. Assumes nothing.
use Prim.Native.Nat.{ℕ, ◌+◌}
use native.Mathlib.Omega.{arith}
use mathlib.Core.Path.{◌≡◌, refl, sym, ap, ◌∙◌}
use mathlib.Core.List.{◌++◌}
use lib.ListN.{length, drop}
use Rattle.format.specs.Bytes.{Bytes}
use Rattle.format.specs.Structure.{Answer, refused, passed}
use Rattle.format.specs.Lent.{splice}
use Rattle.rules.specs.Tables.{Tables}
use Rattle.rules.specs.Verdicts.{finding_bytes, file_findings, file_verdicts}
use Rattle.rules.specs.Outcome.{Outcome, answer, content, check}
use Rattle.rules.specs.Claims.{InOrder}
use Rattle.rules.proofs.Each.{records-counted, pairs-counted}
use Rattle.rules.proofs.Outcomes.{passed-order}
use Rattle.admission.proofs.Fit.{Fit, passes-fit}
use Rattle.buffers.specs.Written.{Written}
use Rattle.transactions.specs.Walk.{rest_at, Room}

-- ---- endings

-- the front of a buffer
pub splice_front : (xs l : Bytes) → splice 0 xs l ≡ xs ++ drop (length xs) l
unfolding splice
splice_front xs l = let q : 0 + length xs ≡ length xs = omega arith in rw q

module _ (tables : Tables) (t : ℕ) (f v g : Bytes) where
  abbrev done : Answer → Bytes → Bytes → Outcome
  done b v' g' = record { answer = b; verdicts = v'; findings = g' }

  abbrev vs : Bytes
  vs = file_verdicts tables t (content f)

  abbrev sets : Bytes
  sets = finding_bytes (file_findings tables t (content f))

  -- what is answered, b, where a refusal goes out
  pub refused-so : {n i : ℕ} (b : Answer) → b ≡ refused n i → refused n i ≡ answer tables t f (length v) (length g) → done b v g ≡ check tables t f v g
  unfolding check
  refused-so b same is = ap (λ (c : Answer). done c v g) same ∙ rw (← is) refl

  module _ {i j n : ℕ} (is : passed i j n ≡ answer tables t f (length v) (length g)) where
    pub judged-so : (v' g' : Bytes) → Written 0 (file_verdicts tables t (content f)) (file_findings tables t (content f)) v g v' g'
        → done (passed i j n) v' g' ≡ check tables t f v g
    unfolding check
    judged-so v' g' w = rw (← is) (rw (w.verdicts, w.findings, splice_front vs v, splice_front sets g) refl)

    -- what passes was let in, and the buffers have room for it
    pub fit : InOrder tables t f v g × Fit f × Room (length (rest_at f 0)) (length v) (length g)
    fit =
        let (o, s) = passed-order tables t f v g i j n (sym is) in
        let h = passes-fit f i j n s in
        let c : length (rest_at f 0) ≡ n = records-counted f i j n s in
        let p = pairs-counted f i j n s in
        (o, h, record { few = h.few; in_v = omega (arith, o.in_v); in_f = omega (arith, o.in_f) })
