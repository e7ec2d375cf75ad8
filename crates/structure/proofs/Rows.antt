-- The table's rows, as a walk reads them: each has room for its numbers, and the row of a record's type says whether the record is
-- right by 6 and where it stands. Assumes nothing.
use Prim.Native.Nat.{ℕ, zero, suc, ◌+◌, ◌≤◌, ◌<◌}
use native.Mathlib.Nat.{le_of_suc-le-suc, not-suc-le-zero}
use native.Mathlib.Omega.{arith}
use mathlib.Core.Path.{◌≡◌, refl, ap, ◌∙◌}
use mathlib.Core.Bool.{Bool, true, ◌&&◌, not}
use mathlib.Core.List.{List, [], ◌∷◌}
use lib.ListN.{length, take, get_or}
use lib.Dec.{T, leb, eqb, leb→le, eqb→eq}
use Rattle.format.specs.Bytes.{Bytes, every}
use Rattle.format.specs.Table.{known, at, width}
use Rattle.format.specs.Cwr22.{cwr22, rows22}
use Rattle.format.specs.Stages.{stages, spots, begins}
use Rattle.format.specs.Checks.{cls, typed}
use Rattle.format.proofs.Logic.{is_T, is_true, left, right}
use Rattle.kinds.specs.Rows.{class_in, kinds, row_for}
use Rattle.kinds.specs.declared.Row.{Row}
use Rattle.structure.specs.Walk.{Roomy}
use Rattle.kinds.proofs.Laws.{class-is, length-len}

-- ---- each row of the table is roomy

roomy : Row → Bool
roomy r = known (class_in r.class) && (leb 3 r.length && leb (at (class_in r.class) + width (class_in r.class)) r.length)

roomy→Roomy : (r : Row) → T (roomy r) → Roomy r
unfolding roomy
roomy→Roomy r t =
    let a = known (class_in r.class) in
    let b = leb 3 r.length in
    let c = leb (at (class_in r.class) + width (class_in r.class)) r.length in
    record {
      class = is_true a (left a (b && c) t);
      type = leb→le 3 r.length (left b c (right a (b && c) t));
      numbers = leb→le (at (class_in r.class) + width (class_in r.class)) r.length (right b c (right a (b && c) t));
    }

kinds-roomy : every roomy kinds ≡ true
unfolding roomy kinds rows22 spots begins stages
kinds-roomy = refl

every-at : (p : Row → Bool) (l : List Row) → T (every p l) → (k : ℕ) → k < length l → (d : Row) → T (p (get_or l k d))
every-at p [] e k h d = absurd (not-suc-le-zero h)
every-at p (r ∷ l) e zero h d = left (p r) (every p l) e
every-at p (r ∷ l) e (suc k) h d = every-at p l (right (p r) (every p l) e) k (le_of_suc-le-suc h) d

kinds-length : length kinds ≡ 38
unfolding kinds rows22 spots begins stages
kinds-length = refl

module _ (l : List Row) (table : l ≡ kinds) (k : ℕ) (few : k < 38) where
  pub in_table : k < length l
  in_table = rw (ap length table ∙ kinds-length) few

  pub row-roomy : (d : Row) → Roomy (get_or l k d)
  row-roomy d = roomy→Roomy (get_or l k d) (every-at roomy l (is_T (every roomy l) (ap (every roomy) table ∙ kinds-roomy)) k in_table d)

-- ---- the row of a record's type

module _ (r : Bytes) (row : Row) (its : row ≡ row_for (take 3 r)) where
  pub row-class : class_in row.class ≡ cls cwr22 r
  row-class = ap (λ (x : Row). class_in x.class) its ∙ class-is r

  row-length : row.length ≡ cwr22.len (take 3 r)
  row-length = ap (λ (x : Row). x.length) its ∙ length-len r

  -- right by 6: a known class, and the row's length
  pub row_typed : typed cwr22 r ≡ (known (class_in row.class) && eqb (length r) row.length)
  row_typed = rw (row-class, row-length)

  -- and then there is room for its numbers
  pub row_room : typed cwr22 r ≡ true → at (class_in row.class) + width (class_in row.class) ≤ length r
  row_room e =
      let t = is_T (typed cwr22 r) e in
      let k = left (known (cls cwr22 r)) (eqb (length r) (cwr22.len (take 3 r))) t in
      let l = eqb→eq (length r) (cwr22.len (take 3 r)) (right (known (cls cwr22 r)) (eqb (length r) (cwr22.len (take 3 r))) t) in
      rw row-class (omega (arith, cwr22.inside (take 3 r) k, l))
