-- The answers of the structural check and of numbering, taken apart: an answer `passed` says that no refusal held. Assumes nothing.
use Prim.Native.Nat.{ℕ, ◌≤◌}
use native.Mathlib.Omega.{arith}
use mathlib.Core.Path.{◌≡◌, refl, ap, ◌∙◌, subst}
use mathlib.Core.Bool.{Bool, true, false}
use mathlib.Core.Option.{Option, none, some}
use mathlib.Core.List.{List, [], ◌∷◌}
use lib.ListN.{length}
use lib.Dec.{T, leb, leb→le, le→leb}
use Rattle.format.specs.Bytes.{Bytes, All}
use Rattle.format.specs.Table.{Table}
use Rattle.format.specs.Lines.{Lines, good, bad, lines}
use Rattle.format.specs.Checks.{Check, fault_of, none_counted, count_from, check6, check7, check8, check9, Along}
use Rattle.format.specs.Structure.{Answer, refused, passed, refusal, unless, most_bytes, most_records}
use Rattle.format.specs.Structure.{first_record, counts_of, of_lines, of_file, versioned, judged, structure}
use Rattle.format.specs.Numbering.{placed, numbering}
use Rattle.format.specs.Claims.{Limits, is_structural}
use Rattle.format.proofs.Logic.{is_true, is_T}
use Rattle.format.proofs.Lines.{lines-pairs}
use Rattle.format.proofs.Passes.{fault-along, along-fault}

-- ---- one refusal

refusal-passed : (n : ℕ) (o : Option ℕ) (a : Answer) (g m r : ℕ) → refusal n o a ≡ passed g m r → (o ≡ none) × (a ≡ passed g m r)
refusal-passed n none a g m r e = (refl, e)
refusal-passed n (some i) a g m r e = let z : ◌≡◌ {A = ℕ} 0 1 = cc in absurd (omega arith)

unless-none : (b : Bool) (i : ℕ) → unless b i ≡ none → T b
unless-none true i e = tt
unless-none false i e = let z : ◌≡◌ {A = ℕ} 0 1 = cc in absurd (omega arith)

-- a check that refuses by n, and what follows it
module _ (n : ℕ) (K : Check) (rs : List Bytes) (a : Answer) where
  checked : (g m r : ℕ) → refusal n (fault_of K rs) a ≡ passed g m r → Along K rs × (a ≡ passed g m r)
  checked g m r e = let p = refusal-passed n (fault_of K rs) a g m r e in (fault-along K K.begin 0 rs p.0, p.1)

  unchecked : Along K rs → refusal n (fault_of K rs) a ≡ a
  unchecked h = ap (λ o. refusal n o a) (along-fault K K.begin 0 rs h)

-- a test that refuses by n at place i, and what follows it
module _ (n i : ℕ) (b : Bool) (a : Answer) where
  pub tested : (g m r : ℕ) → refusal n (unless b i) a ≡ passed g m r → T b × (a ≡ passed g m r)
  tested g m r e = let p = refusal-passed n (unless b i) a g m r e in (unless-none b i p.0, p.1)

  pub untested : T b → refusal n (unless b i) a ≡ a
  untested h = rw (is_true b h)

-- ---- the records' part

module _ (𝕋 : Table) where
  -- right by 6, 7 and 10
  pub record Placed (rs : List Bytes) : Type 0 where
    pub six : Along (check6 𝕋) rs
    pub seven : Along (check7 𝕋) rs
    pub ten : T (𝕋.version (first_record rs))

  -- and by 8 and 9
  pub record Accepted (rs : List Bytes) : Type 0 where
    pub in_place : Placed rs
    pub eight : Along (check8 𝕋) rs
    pub nine : Along (check9 𝕋) rs

  module _ (rs : List Bytes) where
    pub placed-answer : Placed rs → placed 𝕋 rs ≡ counts_of (count_from 𝕋 none_counted rs)
    unfolding placed
    placed-answer p =
        unchecked 6 (check6 𝕋) rs _ p.six
        ∙ unchecked 7 (check7 𝕋) rs _ p.seven
        ∙ untested 10 0 (𝕋.version (first_record rs)) _ p.ten

    pub answer-placed : (g m n : ℕ) → placed 𝕋 rs ≡ passed g m n → Placed rs
    unfolding placed
    answer-placed g m n e =
        let (six, e6) = checked 6 (check6 𝕋) rs _ g m n e in
        let (seven, e7) = checked 7 (check7 𝕋) rs _ g m n e6 in
        record { six = six; seven = seven; ten = (tested 10 0 (𝕋.version (first_record rs)) _ g m n e7).0 }

    pub judged-answer : Accepted rs → judged 𝕋 rs ≡ counts_of (count_from 𝕋 none_counted rs)
    unfolding judged
    judged-answer a =
        unchecked 6 (check6 𝕋) rs _ a.in_place.six
        ∙ unchecked 7 (check7 𝕋) rs _ a.in_place.seven
        ∙ unchecked 8 (check8 𝕋) rs _ a.eight
        ∙ unchecked 9 (check9 𝕋) rs _ a.nine
        ∙ untested 10 0 (𝕋.version (first_record rs)) _ a.in_place.ten

    pub answer-judged : (g m n : ℕ) → judged 𝕋 rs ≡ passed g m n → Accepted rs
    unfolding judged
    answer-judged g m n e =
        let (six, e6) = checked 6 (check6 𝕋) rs _ g m n e in
        let (seven, e7) = checked 7 (check7 𝕋) rs _ g m n e6 in
        let (eight, e8) = checked 8 (check8 𝕋) rs _ g m n e7 in
        let (nine, e9) = checked 9 (check9 𝕋) rs _ g m n e8 in
        record {
          in_place = record { six = six; seven = seven; ten = (tested 10 0 (𝕋.version (first_record rs)) _ g m n e9).0 };
          eight = eight;
          nine = nine;
        }

-- ---- the file's part, whatever judges the records

module _ (judge : List Bytes → Answer) where
  pub file-judged : (f : Bytes) (rs : List Bytes) → lines f ≡ good rs → Limits f → of_file judge f ≡ judge rs
  file-judged f rs e l =
      untested 3 0 (leb (length f) most_bytes) _ (le→leb (length f) most_bytes l.0)
      ∙ rw e (untested 5 most_records (leb (length rs) most_records) (judge rs) (le→leb (length rs) most_records (rw (← lines-pairs f rs e) l.1)))

  pub record Read (f : Bytes) (g m n : ℕ) : Type 0 where
    pub rs : List Bytes
    pub is-lines : lines f ≡ good rs
    pub limits : Limits f
    pub is-judged : judge rs ≡ passed g m n

  pub file-read : (f : Bytes) (g m n : ℕ) → of_file judge f ≡ passed g m n → Read f g m n
  file-read f g m n e =
      let (short, e3) = tested 3 0 (leb (length f) most_bytes) _ g m n e in
      go (leb→le (length f) most_bytes short) (lines f) refl e3
    where
      go : length f ≤ most_bytes → (ls : Lines) → lines f ≡ ls → of_lines judge ls ≡ passed g m n → Read f g m n
      go s (bad i) q v = let z : ◌≡◌ {A = ℕ} 0 1 = cc in absurd (omega arith)
      go s (good rs) q v =
          let (few, e5) = tested 5 most_records (leb (length rs) most_records) (judge rs) g m n v in
          record { rs = rs; is-lines = q; limits = (s, rw (lines-pairs f rs q) (leb→le (length rs) most_records few)); is-judged = e5 }

-- ---- by which numbers a file is refused

-- P holds of the refusal's number, if it is a refusal
abbrev pub By : (ℕ → Type 0) → Answer → Type 0
By P (refused n i) = P n
By P (passed g m n) = Unit {0}

pub refusal-by : (P : ℕ → Type 0) (n : ℕ) (o : Option ℕ) (a : Answer) → P n → By P a → By P (refusal n o a)
refusal-by P n none a p k = k
refusal-by P n (some i) a p k = p

pub refused-by : (P : ℕ → Type 0) {a : Answer} (n i : ℕ) → By P a → a ≡ refused n i → P n
refused-by P n i p e = subst (By P) e p

pub never_both : {a : Answer} (n i k m r : ℕ) → a ≡ refused n i → a ≡ passed k m r → ⊥
never_both n i k m r e p = let z : ◌≡◌ {A = ℕ} 0 1 = cc in omega arith

-- P of each number that the records, or the whole file, can be refused by
module _ (𝕋 : Table) (P : ℕ → Type 0) where
  versioned-by : P 10 → (rs : List Bytes) → By P (versioned 𝕋 rs)
  versioned-by p rs = refusal-by P 10 (unless (𝕋.version (first_record rs)) 0) _ p tt

  judged-by : All P (6 ∷ 7 ∷ 8 ∷ 9 ∷ 10 ∷ []) → (rs : List Bytes) → By P (judged 𝕋 rs)
  unfolding judged
  judged-by (p6, (p7, (p8, (p9, (p10, _))))) rs =
      refusal-by P 6 (fault_of (check6 𝕋) rs) _ p6
      (refusal-by P 7 (fault_of (check7 𝕋) rs) _ p7
      (refusal-by P 8 (fault_of (check8 𝕋) rs) _ p8
      (refusal-by P 9 (fault_of (check9 𝕋) rs) _ p9
      (versioned-by p10 rs))))

  placed_by : All P (6 ∷ 7 ∷ 10 ∷ []) → (rs : List Bytes) → By P (placed 𝕋 rs)
  unfolding placed
  placed_by (p6, (p7, (p10, _))) rs =
      refusal-by P 6 (fault_of (check6 𝕋) rs) _ p6 (refusal-by P 7 (fault_of (check7 𝕋) rs) _ p7 (versioned-by p10 rs))

module _ (P : ℕ → Type 0) (judge : List Bytes → Answer) (judge-by : (rs : List Bytes) → By P (judge rs)) where
  file-by : All P (3 ∷ 4 ∷ 5 ∷ []) → (f : Bytes) → By P (of_file judge f)
  file-by (p3, (p4, (p5, _))) f = refusal-by P 3 (unless (leb (length f) most_bytes) 0) _ p3 (go (lines f))
    where
      go : (ls : Lines) → By P (of_lines judge ls)
      go (bad i) = p4
      go (good rs) = refusal-by P 5 (unless (leb (length rs) most_records) most_records) (judge rs) p5 (judge-by rs)

module _ (𝕋 : Table) (P : ℕ → Type 0) where
  pub structure-by : All P (3 ∷ 4 ∷ 5 ∷ 6 ∷ 7 ∷ 8 ∷ 9 ∷ 10 ∷ []) → (f : Bytes) → By P (structure 𝕋 f)
  unfolding structure
  structure-by (p3, (p4, (p5, rest))) = file-by P (judged 𝕋) (judged-by 𝕋 P rest) (p3, (p4, (p5, tt)))

  pub numbering-by : All P (3 ∷ 4 ∷ 5 ∷ 6 ∷ 7 ∷ 10 ∷ []) → (f : Bytes) → By P (numbering 𝕋 f)
  unfolding numbering
  numbering-by (p3, (p4, (p5, rest))) = file-by P (placed 𝕋) (placed_by 𝕋 P rest) (p3, (p4, (p5, tt)))

-- ---- refusals on structure

abbrev pub Structural : Answer → Type 0
Structural = By (λ n. T (is_structural n))

module _ (𝕋 : Table) where
  judged-structural : (rs : List Bytes) → Structural (judged 𝕋 rs)
  judged-structural = judged-by 𝕋 (λ n. T (is_structural n)) (tt, (tt, (tt, (tt, (tt, tt)))))

  -- within the size limits there are no others
  pub structure-structural : (f : Bytes) → Limits f → Structural (structure 𝕋 f)
  unfolding structure
  structure-structural f l = go (lines f) refl
    where
      go : (ls : Lines) → lines f ≡ ls → Structural (of_file (judged 𝕋) f)
      go (bad i) e =
          rw (untested 3 0 (leb (length f) most_bytes) (of_lines (judged 𝕋) (lines f)) (le→leb (length f) most_bytes l.0), e) tt
      go (good rs) e = rw (file-judged (judged 𝕋) f rs e l) (judged-structural rs)

-- a test that refuses by another number lets what follows it decide
module _ (n i : ℕ) (s : T (is_structural n)) where
  other : (k j : ℕ) → (T (is_structural k) → ⊥) → refused k j ≡ refused n i → ⊥
  other k j never e = let same : n ≡ k = cc in never (subst (λ (x : ℕ). T (is_structural x)) same s)

  pub later : (k j : ℕ) (b : Bool) (a : Answer) → (T (is_structural k) → ⊥) → refusal k (unless b j) a ≡ refused n i → a ≡ refused n i
  later k j true a never e = e
  later k j false a never e = absurd (other k j never e)

-- and where the lines are good there are none but within the size limits
module _ (judge : List Bytes → Answer) (f : Bytes) (rs : List Bytes) (e : lines f ≡ good rs) where
  pub structural-limits : (n i : ℕ) → of_file judge f ≡ refused n i → T (is_structural n) → Limits f
  structural-limits n i q s = go (leb (length f) most_bytes) (leb (length rs) most_records) refl refl (rw e at q)
    where
      go : (b c : Bool) → leb (length f) most_bytes ≡ b → leb (length rs) most_records ≡ c
          → refusal 3 (unless b 0) (refusal 5 (unless c most_records) (judge rs)) ≡ refused n i → Limits f
      go false c short few p = absurd (other n i s 3 0 (λ x. x) p)
      go true false short few p = absurd (other n i s 5 most_records (λ x. x) p)
      go true true short few p =
          (leb→le (length f) most_bytes (is_T _ short), rw (lines-pairs f rs e) (leb→le (length rs) most_records (is_T _ few)))
