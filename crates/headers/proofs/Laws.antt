-- Findings 0 to 15 before the others: their set, their verdicts. Assumes nothing.
use mathlib.Core.Path.{◌≡◌, refl, sym, ap, ◌∙◌}
use mathlib.Core.Bool.{Bool, true, false, cond, ◌&&◌, ◌||◌, and-false}
use mathlib.Core.Option.{none, some}
use mathlib.Core.List.{List, [], ◌∷◌, ◌++◌}
use Prim.Native.Nat.{ℕ, suc, ◌+◌, ◌*◌, ◌/◌, ◌≤◌}
use native.Mathlib.Omega.{arith}
use lib.Dec.{leb, eqb, leb-zero, eqb-suc-zero}
use lib.ListN.{length, replicate}
use borrow.Author.Tests.{leb-true, leb-false, eqb-true, ne_eqb}
use Rattle.format.specs.Bytes.{Bytes}
use Rattle.rules.specs.Tables.{Tables}
use Rattle.rules.specs.Findings.{field_findings, own_findings, set_of, FR, RR, TR, level, verdict_of, larger, worst_from, worst}
use Rattle.rules.specs.Verdicts.{rejects_from, rejects}
use Rattle.format.proofs.Tests.{by_cases}
use Rattle.findings.proofs.Laws.{set_below, set_after, worst-late, worst-after}
use Rattle.edits.specs.declared.Found.{Found}
use Rattle.headers.specs.Headed.{Gathered}

-- ---- a record's own findings begin at 16

pub own-late : (tables : Tables) (before : List Bytes) (r : Bytes) → own_findings tables before r ≡ replicate 16 false ++ field_findings tables before r
unfolding own_findings
own-late tables before r = refl

-- ---- verdicts

-- one that no other passes
over : (v : ℕ) (b : Bool) (x : ℕ) → x ≤ v → larger (cond b v 0) x ≡ cond b v x
over v false x h = rw (leb-zero x)
over v true x h = by_cases (leb v x) (λ e. rw e (omega (arith, leb-true v x e))) (λ e. rw e)

-- only finding 0 has the level GR
three-levels : (early late rr fr : Bool)
    → leb (verdict_of (cond early (some TR) (cond late (some TR) (cond rr (some RR) (cond fr (some FR) none))))) 3 ≡ true
three-levels true late rr fr = refl
three-levels false true rr fr = refl
three-levels false false true fr = refl
three-levels false false false true = refl
three-levels false false false false = refl

later-level : (n : ℕ) → verdict_of (level (suc n)) ≤ 3
unfolding level
later-level n = leb-true (verdict_of (level (suc n))) 3 (rw (eqb-suc-zero n, three-levels))

at_most : (b : Bool) (v w x : ℕ) → v ≤ w → x ≤ w → cond b v x ≤ w
at_most true v w x h k = h
at_most false v w x h k = k

pub later-worst : (n : ℕ) (bs : List Bool) → worst_from (suc n) bs ≤ 3
later-worst n [] = omega arith
later-worst n (b ∷ bs) =
    let h = later-worst (suc n) bs in
    let k = at_most b (verdict_of (level (suc n))) 3 0 (later-level n) (omega arith) in
    at_most (leb (cond b (verdict_of (level (suc n))) 0) (worst_from (suc (suc n)) bs)) (worst_from (suc (suc n)) bs) 3 (cond b (verdict_of (level (suc n))) 0) h k

-- so where the largest is 3 one of them rejects the transaction
top-three : (v w : ℕ) → v ≤ 3 → w ≤ 3 → (eqb v 3 || eqb w 3) ≡ eqb (larger v w) 3
top-three v w h k =
    by_cases (leb v w)
    (λ e. rw e (by_cases (eqb v 3)
    (λ q. let z : w ≡ 3 = omega (arith, leb-true v w e, eqb-true v 3 q) in rw (q, z))
    (λ q. rw q)))
    (λ e. let z = ne_eqb w 3 (λ q. omega (arith, leb-false v w e)) in rw (e, z) (by_cases (eqb v 3) (λ q. rw q) (λ q. rw q)))

rejecting : (b : Bool) (v : ℕ) → (b && eqb v 3) ≡ eqb (cond b v 0) 3
rejecting true v = refl
rejecting false v = refl

pub later-rejects : (n : ℕ) (bs : List Bool) → rejects_from (suc n) bs ≡ eqb (worst_from (suc n) bs) 3
later-rejects n [] = refl
later-rejects n (b ∷ bs) =
    let v = verdict_of (level (suc n)) in
    rw (rejecting b v, later-rejects (suc n) bs)
    (top-three (cond b v 0) (worst_from (suc (suc n)) bs) (at_most b v 3 0 (later-level n) (omega arith)) (later-worst (suc n) bs))

-- ---- finding 0, then 1 to 15, then those from 16 on

-- 1 to 15 leave room for 0
pub room : (fifteen : List Bool) → length fifteen ≡ 15 → set_of (replicate 1 false ++ fifteen) ≤ 65534
unfolding set_of
room fifteen long = omega (arith, set_below 15 fifteen (omega arith))

module _ (stray : Bool) (fifteen rest : List Bool) (long : length fifteen ≡ 15) where
  abbrev all : List Bool
  all = stray ∷ fifteen ++ rest

  abbrev others : ℕ
  others = larger (worst_from 1 fifteen) (worst_from 16 rest)

  worst-others : worst_from 1 (fifteen ++ rest) ≡ others
  worst-others = worst-after 1 fifteen rest ∙ rw long

  worst-all : worst all ≡ cond stray 4 others
  unfolding worst level
  worst-all =
      over 4 stray (worst_from 1 (fifteen ++ rest)) (omega (arith, later-worst 0 (fifteen ++ rest)))
      ∙ ap (cond stray 4) worst-others

  rejects-all : rejects all ≡ (eqb (worst_from 1 fifteen) 3 || eqb (worst_from 16 rest) 3)
  unfolding rejects level
  rejects-all =
      rw (and-false stray)
      (later-rejects 0 (fifteen ++ rest)
      ∙ ap (λ (x : ℕ). eqb x 3) worst-others
      ∙ sym (top-three (worst_from 1 fifteen) (worst_from 16 rest) (later-worst 0 fifteen) (later-worst 15 rest)))

  set_all : set_of all ≡ cond stray 1 0 + set_of (replicate 1 false ++ fifteen) + set_of (replicate 16 false ++ rest)
  unfolding set_of
  set_all = let e : set_of (fifteen ++ rest) ≡ set_of fifteen + 32768 * set_of rest = set_after fifteen rest ∙ rw long in omega (arith, e)

  set_rest : set_of (replicate 16 false ++ rest) ≡ 65536 * set_of rest
  unfolding set_of
  set_rest = omega arith

  -- as the code has them: w and o are what is known of 1 to 15 and of the others
  module _ (w o : Found)
      (w-set : w.set ≡ set_of (replicate 1 false ++ fifteen)) (w-level : w.level ≡ worst (replicate 1 false ++ fifteen))
      (o-set : o.set ≡ set_of (replicate 16 false ++ rest)) (o-level : o.level ≡ worst (replicate 16 false ++ rest)) where
    works-worst : w.level ≡ worst_from 1 fifteen
    unfolding worst
    works-worst = w-level ∙ worst-late 0 1 fifteen

    own-worst : o.level ≡ worst_from 16 rest
    unfolding worst
    own-worst = o-level ∙ worst-late 0 16 rest

    pub gathered : (b l v : ℕ) → b ≡ cond stray 1 0 → l ≡ larger w.level o.level → v ≡ cond stray 4 l
        → Gathered all stray (record {
          set = b + w.set + 65536 * (o.set / 65536);
          level = v;
          rejects = eqb w.level 3 || eqb o.level 3;
          stray = stray;
        })
    gathered b l v eb el ev =
        record {
          set = omega (arith, set_all, set_rest);
          level = ev ∙ ap (cond stray 4) (el ∙ rw (works-worst, own-worst)) ∙ sym worst-all;
          rejects = rw (works-worst, own-worst) (sym rejects-all);
          stray = refl;
        }
