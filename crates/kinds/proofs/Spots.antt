-- Lists of spots by a test, and a type without a sort.
-- Assumes nothing.
use Prim.Native.Nat.{ℕ, suc}
use mathlib.Core.Path.{◌≡◌, refl}
use mathlib.Core.Bool.{Bool, true, false, ◌&&◌, false≢true}
use mathlib.Core.List.{List, [], ◌∷◌}
use lib.Dec.{eqb}
use borrow.Author.Tests.{eqb-true}
use Rattle.format.specs.Bytes.{Bytes, every}
use Rattle.format.specs.Stages.{Spot, spot}
use Rattle.format.proofs.Tests.{both}
use Rattle.format.proofs.Spots.{not-among}
use Rattle.kinds.specs.Rows.{types_of, sort_among}
use Rattle.kinds.specs.declared.Sort.{Sort}
use Rattle.kinds.specs.declared.Sort.TheVariants.{Nothing}

unfoldable pub same_spots : List Spot → List Spot → Bool
same_spots [] [] = true
same_spots [] (y ∷ ys) = false
same_spots (x ∷ xs) [] = false
same_spots (x ∷ xs) (y ∷ ys) = eqb x.stage y.stage && (eqb x.rank y.rank && same_spots xs ys)

spot-same : (x y : Spot) → x.stage ≡ y.stage → x.rank ≡ y.rank → x ≡ y
spot-same x y p q = let e : spot x.stage x.rank ≡ spot y.stage y.rank = cc (p, q) in e

pub same_spots→eq : (xs ys : List Spot) → same_spots xs ys ≡ true → xs ≡ ys
unfolding same_spots
same_spots→eq [] [] e = refl
same_spots→eq [] (y ∷ ys) e = absurd (false≢true e)
same_spots→eq (x ∷ xs) [] e = absurd (false≢true e)
same_spots→eq (x ∷ xs) (y ∷ ys) e =
    let a = both (eqb x.stage y.stage) (eqb x.rank y.rank && same_spots xs ys) e in
    let b = both (eqb x.rank y.rank) (same_spots xs ys) a.1 in
    cc (spot-same x y (eqb-true x.stage y.stage a.0) (eqb-true x.rank y.rank b.0), same_spots→eq xs ys b.1)

-- a type that fails a test has no sort where all types of the sorts pass it
module _ (p : Bytes → Bool) (type : Bytes) (fails : p type ≡ false) where
  pub no-sort-of : (ss : List Sort) → every (λ s. every p (types_of s)) ss ≡ true → sort_among type ss ≡ Nothing
  no-sort-of [] q = refl
  no-sort-of (s ∷ ss) q =
      let b = both (every p (types_of s)) (every (λ t. every p (types_of t)) ss) q in
      rw (not-among p type fails (types_of s) b.0, no-sort-of ss b.1)
