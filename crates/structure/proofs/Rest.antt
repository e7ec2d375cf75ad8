-- The walk's laws: where it starts, one record more, the end, and what each fault decides.
use Prim.Native.Nat.{ℕ, suc, ◌+◌}
use native.Mathlib.Nat.{zero-add}
use native.Mathlib.Omega.{arith}
use mathlib.Core.Path.{◌≡◌, refl, ap, ◌∙◌}
use mathlib.Core.Bool.{Bool, true, false, cond, not, ◌||◌}
use mathlib.Core.Option.{Option, none, some}
use mathlib.Core.List.{List, [], ◌∷◌, ◌++◌}
use lib.ListN.{length}
use lib.Dec.{leb}
use Rattle.format.specs.Bytes.{Bytes, Text}
use Rattle.format.specs.Table.{Class, unknown, Table}
use Rattle.format.specs.Lines.{Lines, good, bad, lines}
use Rattle.format.specs.Checks.{Check, fault_from, Counts, none_counted, count, counting, cls, typed, rightly_numbered, may_follow, closes, check7}
use Rattle.format.specs.Structure.{Answer, refused, refusal, unless, most_bytes, first_record, judged, of_file, of_lines, structure}
use Rattle.format.specs.Numbering.{placed, numbering, records_in}
use Rattle.format.proofs.Lines.{onto, lines_cons}
use Rattle.structure.specs.Rest.{or_else, Faults, faultless, asked8, asked9, judged_from, lines_from, rest_from, more_faults, at_end}

-- ---- one check, one record more

turn : (K : Check) (s : K.State) (i : ℕ) (r : Bytes) (rs : List Bytes) (m : Option ℕ)
    → or_else m (fault_from K s i (r ∷ rs)) ≡ or_else (or_else m (unless (K.ok s r) i)) (fault_from K (K.next s r) (suc i) rs)
turn K s i r rs (some k) = refl
turn K s i r rs none = go (K.ok s r)
  where
    go : (b : Bool) → cond b (fault_from K (K.next s r) (suc i) rs) (some i) ≡ or_else (unless b i) (fault_from K (K.next s r) (suc i) rs)
    go true = refl
    go false = refl

or-none : (m : Option ℕ) → or_else m none ≡ m
or-none none = refl
or-none (some i) = refl

-- a test that holds where it is asked for still holds where it is asked of some records only
asked-less : (a c x : Bool) → (a || x) ≡ true → (a || (c || x)) ≡ true
asked-less true c x e = refl
asked-less false true x e = refl
asked-less false false x e = e

module _ (𝕋 : Table) (asked version : Bool) where
  pub judged-turn : (m : Faults) (p : Class) (n : Counts) (r : Bytes) (rs : List Bytes) → typed 𝕋 r ≡ true
      → judged_from 𝕋 asked version m p n (r ∷ rs)
      ≡ judged_from 𝕋 asked version (more_faults 𝕋 asked m p n r) (cls 𝕋 r) (count n (cls 𝕋 r)) rs
  unfolding judged_from more_faults
  judged-turn m p n r rs t =
      rw (
        t,
        turn (check7 𝕋) p n.records r rs m.seven,
        turn (asked8 𝕋 asked) n n.records r rs m.eight,
        turn (asked9 𝕋 asked) n n.records r rs m.nine,
      )

  pub judged-type : (m : Faults) (p : Class) (n : Counts) (r : Bytes) (rs : List Bytes) → typed 𝕋 r ≡ false
      → judged_from 𝕋 asked version m p n (r ∷ rs) ≡ refused 6 n.records
  unfolding judged_from
  judged-type m p n r rs t = rw t

  pub judged-end : (m : Faults) (p : Class) (n : Counts) → judged_from 𝕋 asked version m p n [] ≡ at_end 𝕋 asked version m p n
  unfolding judged_from at_end
  judged-end m p n = rw (or-none m.eight, or-none m.nine)

  -- ---- the rest of a file

  -- a record that is right in all that is asked moves nothing
  pub rest-turn : (p : Class) (n : Counts) (r f : Bytes) → Text r → typed 𝕋 r ≡ true → may_follow p (cls 𝕋 r) ≡ true
      → (not asked || rightly_numbered 𝕋 n r) ≡ true
      → rest_from 𝕋 asked version p n (r ++ 13 ∷ 10 ∷ f) ≡ rest_from 𝕋 asked version (cls 𝕋 r) (count n (cls 𝕋 r)) f
  unfolding lines_from more_faults
  rest-turn p n r f h t s q = ap (lines_from 𝕋 asked version p n) (lines_cons r f h) ∙ go (lines f)
    where
      no-fault : more_faults 𝕋 asked faultless p n r ≡ faultless
      no-fault =
          rw (
            s,
            asked-less (not asked) (closes (cls 𝕋 r)) (rightly_numbered 𝕋 n r) q,
            asked-less (not asked) (not (closes (cls 𝕋 r))) (rightly_numbered 𝕋 n r) q,
          )

      go : (ls : Lines) → lines_from 𝕋 asked version p n (onto (r ∷ []) ls) ≡ lines_from 𝕋 asked version (cls 𝕋 r) (count n (cls 𝕋 r)) ls
      go (bad k) = ap (refused 4) (omega arith)
      go (good rs) =
          let e : n.records + suc (length rs) ≡ (count n (cls 𝕋 r)).records + length rs = omega arith in
          rw (e, judged-turn faultless p n r rs t, no-fault)

-- ---- the whole file

never : (𝕋 : Table) (n : Counts) (i : ℕ) (rs : List Bytes) → fault_from (counting 𝕋 (λ n r. true)) n i rs ≡ none
never 𝕋 n i [] = refl
never 𝕋 n i (r ∷ rs) = never 𝕋 (count n (cls 𝕋 r)) (suc i) rs

module _ (𝕋 : Table) where
  judged-asked : (rs : List Bytes) → judged 𝕋 rs ≡ judged_from 𝕋 true (𝕋.version (first_record rs)) faultless unknown none_counted rs
  unfolding judged judged_from
  judged-asked rs = refl

  placed-unasked : (rs : List Bytes) → placed 𝕋 rs ≡ judged_from 𝕋 false (𝕋.version (first_record rs)) faultless unknown none_counted rs
  unfolding placed judged_from
  placed-unasked rs = rw never

  -- the answer of a file within the size of 3, from its start
  abbrev pub whole : Bool → Bytes → Answer
  whole asked f = rest_from 𝕋 asked (𝕋.version (first_record (records_in (lines f)))) unknown none_counted f

  whole_of : (asked : Bool) (judge : List Bytes → Answer)
      → ((rs : List Bytes) → judge rs ≡ judged_from 𝕋 asked (𝕋.version (first_record rs)) faultless unknown none_counted rs)
      → (f : Bytes) → of_file judge f ≡ refusal 3 (unless (leb (length f) most_bytes) 0) (whole asked f)
  unfolding lines_from
  whole_of asked judge k f = ap (refusal 3 (unless (leb (length f) most_bytes) 0)) (go (lines f))
    where
      go : (ls : Lines) → of_lines judge ls ≡ lines_from 𝕋 asked (𝕋.version (first_record (records_in ls))) unknown none_counted ls
      go (bad n) = ap (refused 4) (omega arith)
      go (good rs) = rw (k rs, zero-add)

  pub structure-whole : (f : Bytes) → structure 𝕋 f ≡ refusal 3 (unless (leb (length f) most_bytes) 0) (whole true f)
  unfolding structure
  structure-whole f = whole_of true (judged 𝕋) judged-asked f

  pub numbering-whole : (f : Bytes) → numbering 𝕋 f ≡ refusal 3 (unless (leb (length f) most_bytes) 0) (whole false f)
  unfolding numbering
  numbering-whole f = whole_of false (placed 𝕋) placed-unasked f
