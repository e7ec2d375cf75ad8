-- What the lines decide, and the answer of the whole file. Assumes nothing.
use Prim.Native.Nat.{ℕ, ◌+◌, ◌≤◌, ◌<◌}
use native.Mathlib.Omega.{arith}
use mathlib.Core.Path.{◌≡◌, refl, sym, ap, ◌∙◌}
use mathlib.Core.Bool.{Bool, true, false, cond, false≢true}
use mathlib.Core.List.{[], ◌∷◌}
use Rattle.std.specs.Prelude.{Result, Ok, Err}
use Rattle.std.specs.Result.{MatchResult, IsErrAnd}
use Rattle.std.proofs.lemmas.Result.{err_from_is_err_and}
use Rattle.answers.specs.declared.Refusal.{Refusal}
use Rattle.answers.specs.declared.Refusal.TheVariants.{Line}
use lib.ListN.{length, take}
use lib.Dec.{leb}
use borrow.Author.Tests.{le-leb, lt-leb}
use Rattle.format.specs.Bytes.{Bytes}
use Rattle.format.specs.Table.{Class, unknown}
use Rattle.format.specs.Cwr22.{cwr22, rows22, version22}
use Rattle.format.specs.Lines.{Lines, good, bad, lines}
use Rattle.format.specs.Checks.{Counts, none_counted}
use Rattle.format.specs.Structure.{Answer, refused, refusal, unless, most_bytes, most_records, first_record, structure}
use Rattle.format.specs.Numbering.{numbering, records_in}
use Rattle.format.proofs.Tests.{by_cases}
use Rattle.lines.specs.Scan.{text_length, scanned}
use Rattle.structure.specs.Rest.{faultless, judged_from, lines_from, rest_from, is_good}
use Rattle.structure.proofs.Rest.{whole, structure-whole, numbering-whole}
use Rattle.structure.proofs.Here.{good-first}

-- ---- 4 and 5, by what the scan over the lines answers

never : (a b : ℕ) → ◌≡◌ {A = Result ℕ ℕ} (Ok a) (Err b) → ⊥
never a b e = let z : ◌≡◌ {A = ℕ} 0 1 = cc in omega arith

-- a line's fault goes out as a refusal
pub told-err : {m : Result ℕ Refusal} {d : Refusal} (r : Result ℕ ℕ)
    → MatchResult r (λ n. m ≡ Ok n) (λ k. IsErrAnd m (λ (d : Refusal). d ≡ Line k))
    → m ≡ Err d → (k : ℕ) × (r ≡ Err k) × (d ≡ Line k)
told-err {m} {d} (Ok n) h e = absurd (let z : ◌≡◌ {A = Result ℕ Refusal} (Ok n) (Err d) = sym h ∙ e in cc)
told-err {m} {d} (Err k) h e = let p = err_from_is_err_and m h in let q : Err d ≡ Err p.0 = sym e ∙ p.1 in (k, refl, cc)

module _ (asked version : Bool) (p : Class) (n : Counts) (i : ℕ) (e : i ≡ n.records) where
  pub lines-fault : (ls : Lines) (k : ℕ) → scanned i ls ≡ Err k → refused 4 k ≡ lines_from cwr22 asked version p n ls
  unfolding lines_from
  lines-fault (good rs) k q = absurd (never (i + length rs) k q)
  lines-fault (bad j) k q = let s : i + j ≡ k = cc in ap (refused 4) (omega (arith, e))

  pub lines-many : (ls : Lines) (k : ℕ) → scanned i ls ≡ Ok k → most_records < k
      → refused 5 most_records ≡ lines_from cwr22 asked version p n ls
  unfolding lines_from
  lines-many (good rs) k q h =
      let s : i + length rs ≡ k = cc in
      rw (lt-leb (n.records + length rs) most_records (omega (arith, e)))
  lines-many (bad j) k q h = absurd (never k (i + j) (sym q))

  pub lines-few : (ls : Lines) (k : ℕ) → scanned i ls ≡ Ok k → k ≤ most_records
      → judged_from cwr22 asked version faultless p n (records_in ls) ≡ lines_from cwr22 asked version p n ls
  unfolding lines_from
  lines-few (good rs) k q h =
      let s : i + length rs ≡ k = cc in
      rw (le-leb (n.records + length rs) most_records (omega (arith, e)))
  lines-few (bad j) k q h = absurd (never k (i + j) (sym q))

-- ---- the first record, of which 10 asks

first-line : (f : Bytes) → is_good (lines f) ≡ true → first_record (records_in (lines f)) ≡ take (text_length f) f
unfolding lines
first-line [] e = refl
first-line (b ∷ f) e = ap first_record (good-first (b ∷ f) (omega arith) e).1

-- where the lines are not good, 10 is not reached
version-any : (asked v w : Bool) (p : Class) (n : Counts) (ls : Lines) → is_good ls ≡ false
    → lines_from cwr22 asked v p n ls ≡ lines_from cwr22 asked w p n ls
unfolding lines_from
version-any asked v w p n (good rs) e = absurd (false≢true (sym e))
version-any asked v w p n (bad k) e = refl

-- ---- the whole file

module _ (f : Bytes) (asked : Bool) where
  abbrev rest : Answer
  rest = rest_from cwr22 asked (version22 (take (text_length f) f)) unknown none_counted f

  whole-rest : whole cwr22 asked f ≡ rest
  unfolding rows22
  whole-rest =
      by_cases (is_good (lines f))
      (λ e. ap (λ (r : Bytes). rest_from cwr22 asked (version22 r) unknown none_counted f) (first-line f e))
      (version-any asked (version22 (first_record (records_in (lines f)))) (version22 (take (text_length f) f)) unknown none_counted (lines f))

  -- 3, and the rest, are what is asked for: the structural check, or what numbering asks
  asked-for : cond asked (structure cwr22 f) (numbering cwr22 f) ≡ refusal 3 (unless (leb (length f) most_bytes) 0) (whole cwr22 asked f)
  asked-for = go asked
    where
      go : (a : Bool) → cond a (structure cwr22 f) (numbering cwr22 f) ≡ refusal 3 (unless (leb (length f) most_bytes) 0) (whole cwr22 a f)
      go true = structure-whole cwr22 f
      go false = numbering-whole cwr22 f

  pub whole_long : most_bytes < length f → refused 3 0 ≡ cond asked (structure cwr22 f) (numbering cwr22 f)
  whole_long h = sym (asked-for ∙ rw (lt-leb (length f) most_bytes h))

  pub whole-fits : length f ≤ most_bytes
      → rest_from cwr22 asked (version22 (take (text_length f) f)) unknown none_counted f ≡ cond asked (structure cwr22 f) (numbering cwr22 f)
  whole-fits h = sym (asked-for ∙ rw (le-leb (length f) most_bytes h) whole-rest)
