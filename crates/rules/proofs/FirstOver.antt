-- 47 stands exactly where some right is over in some territory without members, and the first of these is told. Assumes nothing.
use Prim.Native.Nat.{ℕ, zero, suc, ◌+◌, ◌<◌}
use native.Mathlib.Omega.{arith}
use mathlib.Core.Path.{◌≡◌, refl, sym, ◌∙◌}
use mathlib.Core.Logic.{◌↔◌}
use mathlib.Core.Bool.{Bool, true, false, not, false≢true, ◌&&◌, ◌||◌, or-true}
use mathlib.Core.Option.{Option, none, some}
use mathlib.Core.List.{List, [], ◌∷◌}
use borrow.Author.Tests.{leb-false, lt-leb, not-true}
use lib.ListN.{length, get_or}
use Rattle.format.specs.Bytes.{Bytes}
use Rattle.format.proofs.Tests.{by_cases, both}
use Rattle.rules.specs.Values.{full_share}
use Rattle.rules.specs.Totals.{Right, PR, MR, SR, exceeds}
use Rattle.rules.specs.Territories.{Territory, names, has_members}
use Rattle.rules.specs.Collection.{total_in, is_over, over_from, first_over, is_some, is47}
use Rattle.rules.specs.Claims.{IsOver}
use Rattle.rules.proofs.Names.{length-names}

module _ (xs : List Territory) (t : ℕ) (ds : List Bytes) where
  abbrev too_much : Right → List Bytes → Bool
  too_much right ns = exceeds t full_share (total_in xs right ns ds)

  is-more : (right : Right) (ns : List Bytes) → too_much right ns ≡ true → full_share + t < total_in xs right ns ds
  is-more right ns e = leb-false (total_in xs right ns ds) (full_share + t) (not-true _ e)

  more-is : (right : Right) (ns : List Bytes) → full_share + t < total_in xs right ns ds → too_much right ns ≡ true
  more-is right ns h = rw (lt-leb (total_in xs right ns ds) (full_share + t) h) refl

  some_right : (ns : List Bytes) → is_over xs t ns ds ≡ true → (right : Right) × (full_share + t < total_in xs right ns ds)
  unfolding is_over
  some_right ns e =
      by_cases (too_much PR ns) (λ p. (PR, is-more PR ns p))
      (λ p. by_cases (too_much MR ns) (λ m. (MR, is-more MR ns m)) (λ m. (SR, is-more SR ns (rw (p, m) at e))))

  right-over : (right : Right) (ns : List Bytes) → too_much right ns ≡ true → is_over xs t ns ds ≡ true
  unfolding is_over
  right-over PR ns e = rw e refl
  right-over MR ns e = rw (e, or-true (too_much PR ns)) refl
  right-over SR ns e = rw e (or-true (too_much PR ns || too_much MR ns))

  -- what each territory is tested for
  abbrev found : ℕ → List Bytes → Bool
  found i ns = not (has_members xs i) && is_over xs t ns ds

  over-found : (i : ℕ) → IsOver xs t ds i → found i (get_or (names xs) i []) ≡ true
  over-found i o = rw (o.memberless, right-over o.right _ (more-is o.right _ o.over)) refl

  found-over : (i : ℕ) → i < length (names xs) → found i (get_or (names xs) i []) ≡ true → IsOver xs t ds i
  found-over i h e =
      let (bare, over) = both (not (has_members xs i)) (is_over xs t (get_or (names xs) i []) ds) e in
      let (right, most) = some_right (get_or (names xs) i []) over in
      record { inside = rw (length-names xs) at h; memberless = not-true (has_members xs i) bare; right = right; over = most }

  -- the first of some, from position i on
  pub record FirstFrom (i : ℕ) (nss : List (List Bytes)) (k : ℕ) : Type 0 where
    pub step : ℕ
    pub place : i + step ≡ k
    pub inside : step < length nss
    pub here : found k (get_or nss step []) ≡ true
    pub none_before : (m : ℕ) → m < step → found (i + m) (get_or nss m []) ≡ false

  one_more : (i : ℕ) (ns : List Bytes) (nss : List (List Bytes)) (s : ℕ) → found i ns ≡ false
      → ((m : ℕ) → m < s → found (suc i + m) (get_or nss m []) ≡ false) → (m : ℕ) → m < suc s → found (i + m) (get_or (ns ∷ nss) m []) ≡ false
  one_more i ns nss s e h zero l = let same : i + 0 ≡ i = omega arith in rw same e
  one_more i ns nss s e h (suc m) l = let same : i + suc m ≡ suc i + m = omega arith in rw same (h m (omega arith))

  first-from : (i : ℕ) (nss : List (List Bytes)) (k : ℕ) → over_from xs t i nss ds ≡ some k → FirstFrom i nss k
  first-from i [] k e = let z : ◌≡◌ {A = ℕ} 0 1 = cc in absurd (omega arith)
  first-from i (ns ∷ nss) k e =
      by_cases (found i ns)
      (λ q.
      let here : some i ≡ some k = rw q at e in
      let same : i ≡ k = cc in
      record { step = 0; place = omega arith; inside = omega arith; here = rw (← same) q; none_before = λ m l. absurd (omega arith) })
      (λ q.
      let r = first-from (suc i) nss k (rw q at e) in
      record {
        step = suc r.step;
        place = omega (arith, r.place);
        inside = omega (arith, r.inside);
        here = r.here;
        none_before = one_more i ns nss r.step q r.none_before;
      })

  some-from : (i : ℕ) (nss : List (List Bytes)) (s : ℕ) → s < length nss → found (i + s) (get_or nss s []) ≡ true
      → is_some xs t (over_from xs t i nss ds) ≡ true
  some-from i [] s h e = absurd (omega arith)
  some-from i (ns ∷ nss) zero h e = let same : i + 0 ≡ i = omega arith in let here : found i ns ≡ true = rw same at e in rw here refl
  some-from i (ns ∷ nss) (suc s) h e =
      let same : i + suc s ≡ suc i + s = omega arith in
      by_cases (found i ns) (λ q. rw q refl) (λ q. rw q (some-from (suc i) nss s (omega arith) (rw same at e)))

  pub first-over : (i : ℕ) → first_over xs t ds ≡ some i → IsOver xs t ds i × ((j : ℕ) → j < i → IsOver xs t ds j → ⊥)
  unfolding first_over
  first-over i e =
      let r = first-from 0 (names xs) i e in
      let same : r.step ≡ i = omega (arith, r.place) in (
        found-over i (rw same at r.inside) (rw same at r.here),
        λ j l o.
            let here : 0 + j ≡ j = omega arith in
            let missed : found j (get_or (names xs) j []) ≡ false = rw here at (r.none_before j (omega (arith, same, l))) in
            false≢true (sym missed ∙ over-found j o),
      )

  pub exactly : is47 xs t ds ≡ true ↔ ((i : ℕ) × IsOver xs t ds i)
  unfolding is47 first_over
  exactly = (
    go (over_from xs t 0 (names xs) ds) refl,
    λ (i, o).
        let here : 0 + i ≡ i = omega arith in
        some-from 0 (names xs) i (rw (length-names xs) o.inside) (rw here (over-found i o)),
  )
    where
      go : (o : Option ℕ) → over_from xs t 0 (names xs) ds ≡ o → is_some xs t o ≡ true → (i : ℕ) × IsOver xs t ds i
      go none q e = absurd (false≢true e)
      go (some i) q e = (i, (first-over i q).0)
