-- Counts by level where verdicts are raised, and by verdict at the end. Assumes nothing.
use Prim.Native.Nat.{ℕ, zero, suc, ◌+◌, ◌-◌, ◌≤◌, ◌<◌}
use native.Mathlib.Nat.{not-suc-le-zero, le_of_suc-le-suc}
use native.Mathlib.Omega.{arith}
use mathlib.Core.Path.{◌≡◌, refl, sym, ap, ◌∙◌, subst}
use mathlib.Core.Bool.{Bool, true, false, cond}
use mathlib.Core.List.{List, [], ◌∷◌, ◌++◌}
use lib.Dec.{eqb, leb}
use lib.ListN.{length, set, get_or}
use borrow.Author.Tests.{leb-true, leb-false, le-leb, eqb-true, eq-eqb, ne_eqb}
use Rattle.format.specs.Bytes.{All}
use Rattle.format.specs.Structure.{most_records}
use Rattle.format.proofs.Tests.{by_cases}
use Rattle.rules.specs.Records.{only}
use Rattle.rules.specs.Findings.{larger}
use Rattle.rules.specs.Verdicts.{raised}
use Rattle.rules.specs.Sheet.{how_many, each, counts_by_verdict}
use Rattle.rules.proofs.Counts.{how_many-append, how_many-most, larger-max}
use Rattle.rules.proofs.Verdicts.{AtMost4, larger-zero, five}
use Rattle.figures.specs.Counted.{counts_by_level, Grown}
use Rattle.figures.proofs.Records.{few_levels}

abbrev at : List ℕ → ℕ → ℕ
at ns k = get_or ns k 0

-- a count with one element before the others
how_many-first : (p : ℕ → Bool) (v : ℕ) (vs : List ℕ) → how_many p (v ∷ vs) ≡ cond (p v) 1 0 + how_many p vs
how_many-first p v vs = first (p v)
  where
    first : (b : Bool) → length (cond b (v ∷ only p vs) (only p vs)) ≡ cond b 1 0 + length (only p vs)
    first true = omega arith
    first false = omega arith

-- ---- verdicts raised

-- tests that say the same
agree : (a b : Bool) → (a ≡ true → b ≡ true) → (b ≡ true → a ≡ true) → a ≡ b
agree true b f g = sym (f refl)
agree false true f g = g refl
agree false false f g = refl

-- .. of each verdict raised and as it was
counts-agree : (least : ℕ) (p q : ℕ → Bool) → ((v : ℕ) → p (larger least v) ≡ q v) → (vs : List ℕ) → how_many p (raised least vs) ≡ how_many q vs
unfolding raised
counts-agree least p q e [] = refl
counts-agree least p q e (v ∷ vs) =
    how_many-first p (larger least v) (raised least vs) ∙ rw (e v, counts-agree least p q e vs) (sym (how_many-first q v vs))

module _ (least : ℕ) (vs : List ℕ) where
  -- none stays below the least, those up to it come to it, the others stay
  below : (k : ℕ) → k < least → how_many (eqb k) (raised least vs) ≡ 0
  below k h = counts-agree least (eqb k) (λ v. false) (λ v. ne_eqb k (larger least v) (λ e. omega (arith, larger-max least v, e))) vs ∙ none vs
    where
      none : (vs : List ℕ) → how_many (λ v. false) vs ≡ 0
      none [] = refl
      none (v ∷ vs) = none vs

  to-least : how_many (eqb least) (raised least vs) ≡ how_many (λ v. leb v least) vs
  to-least =
      counts-agree least (eqb least) (λ v. leb v least)
      (λ v.
      agree (eqb least (larger least v)) (leb v least)
      (λ e. le-leb v least (omega (arith, larger-max least v, eqb-true least (larger least v) e)))
      (λ h. eq-eqb least (larger least v) (omega (arith, larger-max least v, leb-true v least h))))
      vs

  above : (k : ℕ) → least < k → how_many (eqb k) (raised least vs) ≡ how_many (eqb k) vs
  above k h =
      counts-agree least (eqb k) (eqb k)
      (λ v.
      agree (eqb k (larger least v)) (eqb k v)
      (λ e. eq-eqb k v (omega (arith, larger-max least v, eqb-true k (larger least v) e)))
      (λ e. eq-eqb k (larger least v) (omega (arith, larger-max least v, eqb-true k v e))))
      vs

-- those up to a verdict, one verdict after the other
only-least : (k v : ℕ) → k ≤ v → leb v k ≡ eqb k v
only-least k v h = agree (leb v k) (eqb k v) (λ g. eq-eqb k v (omega (arith, leb-true v k g))) (λ e. le-leb v k (omega (arith, eqb-true k v e)))

up-to-0 : (vs : List ℕ) → how_many (λ v. leb v 0) vs ≡ how_many (eqb 0) vs
up-to-0 [] = refl
up-to-0 (v ∷ vs) =
    how_many-first (λ w. leb w 0) v vs ∙ rw (only-least 0 v (omega arith), up-to-0 vs) (sym (how_many-first (eqb 0) v vs))

up-to-next : (k : ℕ) (vs : List ℕ) → how_many (λ v. leb v (suc k)) vs ≡ how_many (λ v. leb v k) vs + how_many (eqb (suc k)) vs
up-to-next k [] = refl
up-to-next k (v ∷ vs) =
    rw (how_many-first (λ w. leb w (suc k)) v vs, how_many-first (λ w. leb w k) v vs, how_many-first (eqb (suc k)) v vs)
    (omega (arith, one, up-to-next k vs))
  where
    one : cond (leb v (suc k)) 1 0 ≡ cond (leb v k) 1 0 + cond (eqb (suc k) v) 1 0
    one =
        by_cases (leb v k)
        (λ h.
        let low = leb-true v k h in
        rw (h, le-leb v (suc k) (omega arith), ne_eqb (suc k) v (λ e. omega (arith, e))))
        (λ h. rw (h, only-least (suc k) v (leb-false v k h)) (omega arith))

up-to-3 : (vs : List ℕ) → how_many (λ v. leb v 3) vs ≡ how_many (eqb 0) vs + how_many (eqb 1) vs + how_many (eqb 2) vs + how_many (eqb 3) vs
up-to-3 vs = omega (arith, up-to-0 vs, up-to-next 0 vs, up-to-next 1 vs, up-to-next 2 vs)

-- none has another
all-five : (vs : List ℕ) → All AtMost4 vs
    → how_many (eqb 0) vs + how_many (eqb 1) vs + how_many (eqb 2) vs + how_many (eqb 3) vs + how_many (eqb 4) vs ≡ length vs
unfolding counts_by_verdict
all-five vs low = omega (arith, five vs low)

-- ---- a transaction, a group and a file, once their records are counted

at_each : (n : ℕ) (f : ℕ → ℕ) (k : ℕ) → k < n → at (each n f) k ≡ f k
at_each zero f k h = absurd (not-suc-le-zero h)
at_each (suc n) f zero h = refl
at_each (suc n) f (suc k) h = at_each n (λ m. f (suc m)) k (le_of_suc-le-suc h)

four_same : {a b c d a' b' c' d' : ℕ} → a ≡ a' → b ≡ b' → c ≡ c' → d ≡ d' → a ∷ b ∷ c ∷ d ∷ [] ≡ a' ∷ b' ∷ c' ∷ d' ∷ []
four_same a b c d = rw (a, b, c, d)

-- nothing is raised to 0
raised-none : (vs : List ℕ) → raised 0 vs ≡ vs
unfolding raised
raised-none [] = refl
raised-none (v ∷ vs) = rw (larger-zero v, raised-none vs)

module _ {us vs : List ℕ} {n : ℕ} {before ls : List ℕ} (grown : Grown us vs n before ls) where
  -- as many at each level as there were and as there are more
  were-at : (l : ℕ) → l < 4 → at before l ≡ how_many (eqb (suc l)) us
  unfolding counts_by_level
  were-at l h = ap (λ ns. at ns l) grown.were ∙ at_each 4 (λ k. how_many (eqb (suc k)) us) l h

  are_at : (l : ℕ) → l < 4 → at ls l ≡ how_many (eqb (suc l)) us + how_many (eqb (suc l)) vs
  unfolding counts_by_level
  are_at l h =
      ap (λ ns. at ns l) grown.are
      ∙ at_each 4 (λ k. how_many (eqb (suc k)) (us ++ vs)) l h
      ∙ how_many-append (eqb (suc l)) us vs

  module _ (few : length us + length vs ≤ most_records) where
    pub few-before : All (λ m. m ≤ most_records) before
    few-before = subst (All (λ m. m ≤ most_records)) (sym grown.were) (few_levels us (omega (arith, few)))

    pub few-records : n ≤ most_records
    few-records = omega (arith, few, grown.all)

  pub four : length ls ≡ 4
  unfolding counts_by_level
  four = ap length grown.are

  -- no more can have come to GR than there are records
  pub no_more : at ls 3 ≤ at before 3 + n
  no_more = omega (arith, are_at 3 (omega arith), were-at 3 (omega arith), how_many-most (eqb 4) vs, grown.all)

  pub settled-3 : set (set (set ls 0 (at before 0)) 1 (at before 1)) 2 (at before 2 + (at before 3 + n - at ls 3)) ≡ counts_by_level (us ++ raised 3 vs)
  unfolding counts_by_level
  settled-3 = ap (λ l. set (set (set l 0 (at before 0)) 1 (at before 1)) 2 (at before 2 + (at before 3 + n - at ls 3))) grown.are ∙ four_same
      (omega (arith, were-at 0 (omega arith), how_many-append (eqb 1) us (raised 3 vs), below 3 vs 1 (omega arith)))
      (omega (arith, were-at 1 (omega arith), how_many-append (eqb 2) us (raised 3 vs), below 3 vs 2 (omega arith)))
      (omega (
        arith,
        were-at 2 (omega arith),
        were-at 3 (omega arith),
        are_at 3 (omega arith),
        grown.all,
        how_many-append (eqb 3) us (raised 3 vs),
        to-least 3 vs,
        up-to-3 vs,
        all-five vs grown.low,
      ))
      (omega (arith, how_many-append (eqb 4) us vs, how_many-append (eqb 4) us (raised 3 vs), above 3 vs 4 (omega arith)))

  pub settled-4 : set before 3 (at before 3 + n) ≡ counts_by_level (us ++ raised 4 vs)
  unfolding counts_by_level
  settled-4 = ap (λ l. set l 3 (at before 3 + n)) grown.were ∙ four_same
      (omega (arith, how_many-append (eqb 1) us (raised 4 vs), below 4 vs 1 (omega arith)))
      (omega (arith, how_many-append (eqb 2) us (raised 4 vs), below 4 vs 2 (omega arith)))
      (omega (arith, how_many-append (eqb 3) us (raised 4 vs), below 4 vs 3 (omega arith)))
      (omega (
        arith,
        were-at 3 (omega arith),
        grown.all,
        how_many-append (eqb 4) us (raised 4 vs),
        to-least 4 vs,
        up-to-next 3 vs,
        up-to-3 vs,
        all-five vs grown.low,
      ))

  -- where none is rejected
  pub settled-none : ls ≡ counts_by_level (us ++ raised 0 vs)
  settled-none = grown.are ∙ ap (λ ws. counts_by_level (us ++ ws)) (sym (raised-none vs))

-- with none before them
none-at : (l : ℕ) → l < 4 → at (counts_by_level []) l ≡ 0
unfolding counts_by_level
none-at l h = at_each 4 (λ k. 0) l h

module _ {us vs : List ℕ} {n : ℕ} {ls : List ℕ} (grown : Grown us vs n (counts_by_level []) ls) where
  alone : (l : ℕ) → l < 4 → at ls l ≡ how_many (eqb (suc l)) vs
  alone l h = omega (arith, are_at grown l h, were-at grown l h, none-at l h)

  pub come-to : at ls 0 + at ls 1 + at ls 2 + at ls 3 ≤ n
  come-to =
      omega (arith, alone 0 (omega arith), alone 1 (omega arith), alone 2 (omega arith), alone 3 (omega arith), grown.all, all-five vs grown.low)

  pub whole : (n - (at ls 0 + at ls 1 + at ls 2 + at ls 3)) ∷ at ls 0 ∷ at ls 1 ∷ at ls 2 ∷ at ls 3 ∷ [] ≡ counts_by_verdict vs
  unfolding counts_by_verdict
  whole =
      rw (alone 0 (omega arith), alone 1 (omega arith), alone 2 (omega arith), alone 3 (omega arith), grown.all)
      (ap (λ m. m ∷ how_many (eqb 1) vs ∷ how_many (eqb 2) vs ∷ how_many (eqb 3) vs ∷ how_many (eqb 4) vs ∷ [])
      (let e : length vs - (how_many (eqb 1) vs + how_many (eqb 2) vs + how_many (eqb 3) vs + how_many (eqb 4) vs) ≡ how_many (eqb 0) vs = omega (arith, all-five vs grown.low) in
      e))
