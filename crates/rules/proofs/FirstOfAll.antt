-- Over a whole file, the territory that is told is that of the first transaction that has 47. Assumes nothing.
use Prim.Native.Nat.{ℕ, suc, ◌+◌}
use native.Mathlib.Omega.{arith}
use mathlib.Core.Path.{◌≡◌, refl, ap, subst}
use mathlib.Core.Bool.{Bool, false}
use mathlib.Core.Option.{Option, none, some}
use mathlib.Core.List.{List, [], ◌∷◌}
use Rattle.format.specs.Doc.{Transaction}
use Rattle.format.specs.Tree.{Tree}
use Rattle.rules.specs.Records.{any}
use Rattle.rules.specs.Territories.{Territory}
use Rattle.rules.specs.Collection.{first_over, is_some, is47}
use Rattle.rules.specs.WithTerritories.{Over, nowhere, over, or_later, over_among, file_over}
use Rattle.rules.specs.Claims.{FirstIn, has47, all_of}

abbrev one_further : {A : Type 0} (p : A → Bool) (x : A) (xs : List A) → p x ≡ false → (k : ℕ) → FirstIn p xs k → FirstIn p (x ∷ xs) (suc k)
one_further p x xs e k h = record {
  before = x ∷ h.before;
  after = h.after;
  own = h.own;
  split = ap (λ l. x ∷ l) h.split;
  place = ap suc h.place;
  none_before = rw e h.none_before;
  passes = h.passes;
}

module _ (xs : List Territory) (t : ℕ) where
  has-47 : (x : Transaction) (o : Option ℕ) → first_over xs t x.details ≡ o → has47 xs t x ≡ is_some xs t o
  unfolding is47
  has-47 x o e = ap (is_some xs t) e

  -- transaction m is the first that has a territory, and that is told
  abbrev FirstTold : List Transaction → ℕ → ℕ → Type 0
  FirstTold ws m i = (x : FirstIn (has47 xs t) ws m) × (first_over xs t x.own.details ≡ some i)

  -- of transactions from number n on
  abbrev Told : ℕ → List Transaction → Over → Type 0
  Told n ws nowhere = any (has47 xs t) ws ≡ false
  Told n ws (over m i) = (k : ℕ) × (n + k ≡ m) × FirstTold ws k i

  told : (n : ℕ) (ws : List Transaction) → Told n ws (over_among xs t n ws)
  told n [] = refl
  told n (w ∷ ws) = go (first_over xs t w.details) refl (over_among xs t (suc n) ws) (told (suc n) ws)
    where
      go : (o : Option ℕ) → first_over xs t w.details ≡ o → (later : Over) → Told (suc n) ws later → Told n (w ∷ ws) (or_later n o later)
      go none q nowhere h = rw (has-47 w none q) h
      go none q (over m i) (k, place, first) =
          let (x, own) = first in (suc k, omega (arith, place), (one_further (has47 xs t) w ws (has-47 w none q) k x, own))
      go (some j) q later h = (
        0,
        omega arith,
        (record { before = []; after = ws; own = w; split = refl; place = refl; none_before = refl; passes = has-47 w (some j) q }, q),
      )

  pub first_of_all : (d : Tree) (m i : ℕ) → file_over xs t d ≡ over m i → FirstTold (all_of d) m i
  unfolding file_over
  first_of_all d m i e =
      let ws = all_of d in
      let (k, place, first) = subst (Told 0 ws) e (told 0 ws) in
      let same : k ≡ m = omega (arith, place) in
      subst (λ n. FirstTold ws n i) same first

  pub none_of_all : (d : Tree) → file_over xs t d ≡ nowhere → any (has47 xs t) (all_of d) ≡ false
  unfolding file_over
  none_of_all d e = let ws = all_of d in subst (Told 0 ws) e (told 0 ws)
