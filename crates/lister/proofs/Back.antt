-- Sets of findings read back from the eight bytes of each: the lines are those of the sets. Assumes nothing.
use Prim.Native.Nat.{ℕ, suc, ◌^◌, ◌<◌, ◌≤◌}
use native.Mathlib.Nat.{pow-suc, pow-le-pow_right}
use native.Mathlib.Omega.{arith}
use mathlib.Core.Path.{◌≡◌, refl}
use mathlib.Core.Bool.{Bool, true, false}
use mathlib.Core.List.{List, [], ◌∷◌, ◌++◌, append_assoc}
use lib.Dec.{eqb}
use lib.ListN.{length}
use lib.Seq.{take_at, drop_at}
use borrow.Author.Tests.{eqb-false}
use Rattle.format.specs.Bytes.{Bytes, bytes_of}
use Rattle.format.proofs.Tests.{by_cases}
use Rattle.rules.specs.Findings.{set_of, places, count_of}
use Rattle.rules.specs.Verdicts.{finding_bytes}
use Rattle.rules.specs.Listing.{lowest_word, record_line, record_lines}
use Rattle.format.proofs.Decimal.{length-bytes}
use Rattle.findings.proofs.Laws.{count-of-set, lowest-of-set}
use Rattle.text.proofs.Words.{word-of-bytes}
use Rattle.lister.proofs.Small.{Small}
use Rattle.lister.specs.Read.{first_set, sets_in, lines_from}

below : (s : List Bool) → set_of s < 2 ^ length s
unfolding set_of
below [] = omega arith
below (true ∷ s) = rw pow-suc (omega (arith, below s))
below (false ∷ s) = rw pow-suc (omega (arith, below s))

some-set : (s : List Bool) → (count_of s ≡ 0 → ⊥) → 0 < set_of s
unfolding count_of set_of
some-set [] h = absurd (h refl)
some-set (true ∷ s) h = omega arith
some-set (false ∷ s) h = omega (arith, some-set s (λ e. h (omega arith)))

module _ (s : List Bool) (fits : length s ≤ 64) where
  pub set_back : (rest : Bytes) → first_set (bytes_of 8 (set_of s) ++ rest) ≡ places 64 (set_of s)
  set_back rest =
      let h : set_of s < 256 ^ 8 = omega (arith, below s, pow-le-pow_right {n = 2} (omega arith) fits) in
      rw (take_at (bytes_of 8 (set_of s)) rest 8 (length-bytes 8 (set_of s)), word-of-bytes 8 (set_of s) h)

  -- a line says the same of a set and of the places of its number
  lowest-back : lowest_word (places 64 (set_of s)) ≡ lowest_word s
  lowest-back =
      rw (count-of-set s fits)
      (by_cases (eqb (count_of s) 0)
      (λ e. rw e)
      (λ e. rw (e, lowest-of-set s fits (some-set s (eqb-false (count_of s) 0 e)))))

  pub line-back : (n : ℕ) (r : Bytes) (v : ℕ) → record_line n r v (places 64 (set_of s)) ≡ record_line n r v s
  unfolding record_line
  line-back n r v = rw (lowest-back, count-of-set s fits)

-- ---- all lines

-- with more after the verdicts and after the findings
lines-back : (n : ℕ) (rs : List Bytes) (vs : List ℕ) (ss : List (List Bool)) (v g : Bytes) → length vs ≡ length rs → length ss ≡ length rs
    → Small ss → record_lines n rs (vs ++ v) (sets_in (length rs) (finding_bytes ss ++ g)) ≡ record_lines n rs vs ss
unfolding finding_bytes
lines-back n [] vs ss v g a b c = refl
lines-back n (r ∷ rs) [] ss v g a b c = absurd (omega arith)
lines-back n (r ∷ rs) (x ∷ vs) [] v g a b c = absurd (omega arith)
lines-back n (r ∷ rs) (x ∷ vs) (s ∷ ss) v g a b c =
    let first = bytes_of 8 (set_of s) in
    let rest = finding_bytes ss ++ g in
    rw (append_assoc first (finding_bytes ss) g, set_back s c.0 rest, drop_at first rest 8 (length-bytes 8 (set_of s)))
    (rw (line-back s c.0 n r x, lines-back (suc n) rs vs ss v g (omega arith) (omega arith) c.1))

pub listed_back : (rs : List Bytes) (vs : List ℕ) (ss : List (List Bool)) (v g : Bytes) → length vs ≡ length rs → length ss ≡ length rs
    → Small ss → lines_from (vs ++ v) (finding_bytes ss ++ g) 0 rs ≡ record_lines 0 rs vs ss
unfolding lines_from
listed_back rs vs ss v g a b c = lines-back 0 rs vs ss v g a b c
