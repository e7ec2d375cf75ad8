-- No refusal's place passes the file's size limit, and no count of records theirs. Assumes nothing.
use Prim.Native.Nat.{ℕ, suc, ◌+◌, ◌≤◌}
use native.Mathlib.Omega.{arith}
use mathlib.Core.Path.{◌≡◌, refl}
use mathlib.Core.Bool.{Bool, true, false, cond}
use mathlib.Core.Option.{Option, none, some}
use mathlib.Core.List.{List, [], ◌∷◌}
use lib.ListN.{length, length-append}
use lib.Dec.{eqb, leb, leb→le}
use Rattle.format.specs.Bytes.{Bytes, is_text}
use Rattle.format.specs.Table.{Table}
use Rattle.format.specs.Lines.{Reading, text, cr, fault, byte, read_from, ended, Lines, good, bad, lines}
use Rattle.format.specs.Checks.{Check, fault_from, fault_of, Counts, none_counted, count, cls, check6, check7, check8, check9, count_from}
use Rattle.format.specs.Structure.{Answer, refusal, unless, most_bytes, most_records, first_record, of_lines, of_file, versioned, judged, structure}
use Rattle.format.specs.Numbering.{placed, numbering}
use Rattle.format.specs.Claims.{Near, Nearby}
use Rattle.format.proofs.Logic.{is_T}

-- ---- lines: each takes a byte at the least

done : Reading → ℕ
done (text rs cur) = length rs
done (cr rs cur) = length rs
done (fault n) = n

-- of either outcome of a test
either : (b : Bool) (x y : Reading) (k : ℕ) → done x ≤ k → done y ≤ k → done (cond b x y) ≤ k
either true x y k p q = p
either false x y k p q = q

done-byte : (st : Reading) (b : ℕ) → done (byte st b) ≤ suc (done st)
unfolding done
done-byte (text rs cur) b = either (is_text b) _ _ _ (omega arith) (either (eqb b 13) _ _ _ (omega arith) (omega arith))
done-byte (cr rs cur) b = either (eqb b 10) _ _ _ (omega (arith, length-append rs (cur ∷ []))) (omega arith)
done-byte (fault n) b = omega arith

done-read : (st : Reading) (f : Bytes) → done (read_from st f) ≤ done st + length f
done-read st [] = omega arith
done-read st (b ∷ f) = omega (arith, done-read (byte st b) f, done-byte st b)

ended-bad : (st : Reading) (n : ℕ) → ended st ≡ bad n → n ≡ done st
unfolding done
ended-bad (text rs []) n e = let z : ◌≡◌ {A = ℕ} 0 1 = cc in absurd (omega arith)
ended-bad (text rs (b ∷ cur)) n e = cc
ended-bad (cr rs cur) n e = cc
ended-bad (fault m) n e = cc

bad-near : (f : Bytes) (n : ℕ) → lines f ≡ bad n → n ≤ length f
unfolding lines done
bad-near f n e = omega (arith, ended-bad (read_from (text [] []) f) n e, done-read (text [] []) f)

-- ---- the records' part

pub Within : ℕ → Option ℕ → Type 0
Within k none = Unit {0}
Within k (some i) = i ≤ k

fault-within : (K : Check) (s : K.State) (i k : ℕ) (rs : List Bytes) → i + length rs ≤ k → Within k (fault_from K s i rs)
unfolding Within
fault-within K s i k [] h = go (K.end s)
  where
    go : (b : Bool) → Within k (cond b none (some i))
    go true = tt
    go false = omega arith
fault-within K s i k (r ∷ rs) h = go (K.ok s r) (fault_from K (K.next s r) (suc i) rs) (fault-within K (K.next s r) (suc i) k rs (omega arith))
  where
    go : (b : Bool) (o : Option ℕ) → Within k o → Within k (cond b o (some i))
    go true o w = w
    go false o w = omega arith

pub unless-within : (b : Bool) (i : ℕ) → i ≤ most_bytes → Within most_bytes (unless b i)
unfolding Within
unless-within true i h = tt
unless-within false i h = h

pub near : (n : ℕ) (o : Option ℕ) (a : Answer) → Within most_bytes o → Near a → Near (refusal n o a)
unfolding Within
near n none a w h = h
near n (some i) a w h = w

module _ (𝕋 : Table) where
  count-all : (n : Counts) (rs : List Bytes) → (count_from 𝕋 n rs).records ≡ n.records + length rs
  count-all n [] = omega arith
  count-all n (r ∷ rs) = omega (arith, count-all (count n (cls 𝕋 r)) rs)

  module _ (rs : List Bytes) (few : length rs ≤ most_records) where
    checked : (K : Check) → Within most_bytes (fault_of K rs)
    checked K = fault-within K K.begin 0 most_bytes rs (omega arith)

    versioned-near : Near (versioned 𝕋 rs)
    versioned-near =
        near 10 (unless (𝕋.version (first_record rs)) 0) _ (unless-within (𝕋.version (first_record rs)) 0 (omega arith)) (omega (arith, count-all none_counted rs))

    judged-near : Near (judged 𝕋 rs)
    unfolding judged
    judged-near =
        near 6 _ _ (checked (check6 𝕋))
        (near 7 _ _ (checked (check7 𝕋)) (near 8 _ _ (checked (check8 𝕋)) (near 9 _ _ (checked (check9 𝕋)) versioned-near)))

    placed-near : Near (placed 𝕋 rs)
    unfolding placed
    placed-near = near 6 _ _ (checked (check6 𝕋)) (near 7 _ _ (checked (check7 𝕋)) versioned-near)

-- ---- the file's part, whatever judges the records

module _ (judge : List Bytes → Answer) (judge-near : (rs : List Bytes) → length rs ≤ most_records → Near (judge rs)) where
  lines-near : (f : Bytes) → length f ≤ most_bytes → (ls : Lines) → lines f ≡ ls → Near (of_lines judge ls)
  lines-near f short (bad n) e = omega (arith, bad-near f n e)
  lines-near f short (good rs) e = go (leb (length rs) most_records) (λ q. judge-near rs (leb→le (length rs) most_records (is_T _ q)))
    where
      go : (b : Bool) → (b ≡ true → Near (judge rs)) → Near (refusal 5 (unless b most_records) (judge rs))
      go true h = h refl
      go false h = omega arith

  file-near : (f : Bytes) → Near (of_file judge f)
  file-near f = go (leb (length f) most_bytes) (λ q. lines-near f (leb→le (length f) most_bytes (is_T _ q)) (lines f) refl)
    where
      go : (b : Bool) → (b ≡ true → Near (of_lines judge (lines f))) → Near (refusal 3 (unless b 0) (of_lines judge (lines f)))
      go true h = h refl
      go false h = omega arith

pub nearby : (𝕋 : Table) → Nearby 𝕋
unfolding structure numbering
nearby 𝕋 f = (file-near (judged 𝕋) (judged-near 𝕋) f, file-near (placed 𝕋) (placed-near 𝕋) f)
