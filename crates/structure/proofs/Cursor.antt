-- Laws of `Here`: a file that passes, or that numbering takes, is walked from its first byte; at each place the row of the three bytes that
-- stand there tells the record and the place of the next; where no byte is left no record is. Assumes nothing.
use Prim.Native.Nat.{ℕ, ◌+◌, ◌-◌, ◌≤◌, ◌<◌}
use native.Mathlib.Omega.{arith}
use mathlib.Core.Path.{◌≡◌, sym, ap, ◌∙◌, subst}
use mathlib.Core.Bool.{true, false}
use mathlib.Core.List.{List, [], ◌∷◌}
use lib.ListN.{length, take, drop, drop_of_length-le, length-drop}
use lib.Seq.{take_all, take-take}
use lib.Dec.{T, leb}
use borrow.Author.Tests.{leb-true, leb-false}
use Rattle.format.specs.Bytes.{Bytes}
use Rattle.format.specs.Table.{Class, trl, unknown}
use Rattle.format.specs.Cwr22.{cwr22}
use Rattle.format.specs.Lines.{good, lines}
use Rattle.format.specs.Checks.{is, check6, check7, cls, may_follow, Along, AlongFrom}
use Rattle.format.specs.Numbering.{records_in}
use Rattle.format.proofs.Logic.{is_T, is_true}
use Rattle.format.proofs.Answers.{Placed}
use Rattle.kinds.specs.declared.Row.{Row}
use Rattle.kinds.specs.Rows.{row_for}
use Rattle.format.proofs.Tests.{by_cases}
use Rattle.lines.specs.Scan.{text_length}
use Rattle.structure.specs.Rest.{is_good}
use Rattle.structure.specs.Cursor.{Here, First}
use Rattle.structure.proofs.Here.{record_at, fits, long, records-here, fine-after, here-three, row-size, row_is}

-- ---- the start

pub here-start : (f : Bytes) (rs : List Bytes) → lines f ≡ good rs → Placed cwr22 rs → Here f 0 unknown rs
here-start f rs e p =
    record {
      within = omega arith;
      good = ap is_good e;
      left = ap records_in e;
      typed = p.six;
      placed = p.seven;
    }

-- ---- after another class

-- what may stand after c may stand after d
like : (c d : Class) → is trl c ≡ false → ((e : Class) → may_follow c e ≡ true → may_follow d e ≡ true)
    → (rs : List Bytes) → AlongFrom (check7 cwr22) c rs → AlongFrom (check7 cwr22) d rs
like c d e more [] a = absurd (subst T e a)
like c d e more (r ∷ rs) a = (is_T (may_follow d (cls cwr22 r)) (more (cls cwr22 r) (is_true (may_follow c (cls cwr22 r)) a.0)), a.1)

pub placed-like : {f : Bytes} {i : ℕ} {rs : List Bytes} (c d : Class) → is trl c ≡ false
    → ((e : Class) → may_follow c e ≡ true → may_follow d e ≡ true) → Here f i c rs → Here f i d rs
placed-like {rs = rs} c d e more h =
    record { within = h.within; good = h.good; left = h.left; typed = h.typed; placed = like c d e more rs h.placed }

-- ---- the end

-- the part of a file from a place on
pub to_end : (f : Bytes) (i : ℕ) → take (length f - i) (drop i f) ≡ drop i f
to_end f i = take_all (length f - i) (drop i f) (omega (arith, length-drop i f))

first_of : List Bytes → Bytes → Bytes
first_of [] d = d
first_of (r ∷ rs) d = r

rest_of : List Bytes → List Bytes
rest_of [] = []
rest_of (r ∷ rs) = rs

-- the two parts of equal lists
cons-parts : (r s : Bytes) (rs ss : List Bytes) → ◌≡◌ {A = List Bytes} (r ∷ rs) (s ∷ ss) → (r ≡ s) × (rs ≡ ss)
unfolding first_of rest_of
cons-parts r s rs ss e = (ap (λ l. first_of l r) e, ap rest_of e)

nothing-some : (r : Bytes) (rs : List Bytes) → ◌≡◌ {A = List Bytes} [] (r ∷ rs) → ⊥
nothing-some r rs e = let z : 0 ≡ length (r ∷ rs) = ap length e in omega arith

module _ {f : Bytes} {i : ℕ} {c : Class} where
  pub nothing_left : {rs : List Bytes} → Here f i c rs → length f ≤ i → rs ≡ []
  unfolding lines
  nothing_left h e = sym h.left ∙ rw (drop_of_length-le f e)

  pub some_left : {r : Bytes} {rs : List Bytes} → Here f i c (r ∷ rs) → i < length f
  some_left {r} {rs} h =
      by_cases (leb (length f) i)
      (λ e. absurd (nothing-some r rs (sym (nothing_left h (leb-true (length f) i e)))))
      (λ e. omega (arith, leb-false (length f) i e))

  -- three bytes at the least
  pub three-left : {r : Bytes} {rs : List Bytes} → Here f i c (r ∷ rs) → i + 3 ≤ length f
  three-left {r} {rs} h =
      let here = some_left h in
      let all : Along (check6 cwr22) (records_in (lines (drop i f))) = subst (Along (check6 cwr22)) (sym h.left) h.typed in
      omega (arith, here-three f i here h.good all, fits f i here h.good)

  -- ---- one record

  pub first : {r : Bytes} {rs : List Bytes} → Here f i c (r ∷ rs) → (row : Row) → row ≡ row_for (take 3 (drop i f)) → First f i c row r rs
  first {r} {rs} h row its =
      let here = some_left h in
      let all : Along (check6 cwr22) (records_in (lines (drop i f))) = subst (Along (check6 cwr22)) (sym h.left) h.typed in
      let (same, rest) = cons-parts (record_at f i) r _ rs (sym (records-here f i here h.good) ∙ h.left) in
      let size = row-size f i here h.good all row its in
      let three = here-three f i here h.good all in
      record {
        ends = rw size (fits f i here h.good);
        bytes = rw size same;
        long = ap length (sym same) ∙ long f i here h.good ∙ sym size;
        three = omega (arith, size, three);
        own = its ∙ ap row_for (sym (take-take 3 (text_length (drop i f)) (drop i f) three) ∙ ap (take 3) same);
        class = ap (cls cwr22) (sym same) ∙ sym (row_is f i here h.good all row its);
        follows = is_true (may_follow c (cls cwr22 r)) h.placed.0;
        next = record {
          within = rw size (fits f i here h.good);
          good = rw size (fine-after f i here h.good);
          left = rw size rest;
          typed = h.typed.1;
          placed = h.placed.1;
        };
      }
