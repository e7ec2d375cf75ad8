-- The first of a list that passes, and lists cut by transactions. Assumes nothing.
use Prim.Native.Nat.{ℕ, zero, suc}
use mathlib.Core.Path.{◌≡◌, refl, sym, ap, ◌∙◌}
use mathlib.Core.Bool.{Bool, true, false, false≢true, ◌||◌, or_assoc}
use mathlib.Core.Option.{Option, none, some}
use mathlib.Core.List.{List, [], ◌∷◌, ◌++◌, map, append_assoc, map-append}
use lib.ListN.{length, take, drop}
use lib.Seq.{take-append_seam, drop-append_seam}
use Rattle.format.specs.Doc.{Group, Transaction, records_g}
use Rattle.format.specs.Tree.{Tree}
use Rattle.format.proofs.Tests.{by_cases}
use Rattle.rules.specs.Records.{any}
use Rattle.rules.specs.Verdicts.{joined}
use Rattle.rules.specs.First.{of_transactions, of_groups, of_each, one_later, first_at}

-- ---- some element passes

module _ {A : Type 0} (p : A → Bool) where
  pub any_append : (xs ys : List A) → any p (xs ++ ys) ≡ (any p xs || any p ys)
  any_append [] ys = refl
  any_append (x ∷ xs) ys = rw (any_append xs ys) (sym (or_assoc (p x) (any p xs) (any p ys)))

-- ---- the first that passes

pub neither : (a b : Bool) → (a || b) ≡ false → (a ≡ false) × (b ≡ false)
neither true b e = absurd (false≢true (sym e))
neither false b e = (refl, e)

-- one is the first: k stand before it, and none of them passes
pub record Found {A : Type 0} (p : A → Bool) (xs : List A) (k : ℕ) : Type 0 where
  pub before : List A
  pub after : List A
  pub own : A
  pub split : xs ≡ before ++ own ∷ after
  pub place : length before ≡ k
  pub none_before : any p before ≡ false
  pub passes : p own ≡ true

module _ {A : Type 0} (p : A → Bool) where
  pub none_first : (xs : List A) → any p xs ≡ false → first_at p xs ≡ none
  none_first [] e = refl
  none_first (x ∷ xs) e = let (this, those) = neither (p x) (any p xs) e in rw this (ap one_later (none_first xs those))

  -- and so for each list
  abbrev pub Searched : List A → Option ℕ → Type 0
  Searched xs none = any p xs ≡ false
  Searched xs (some k) = Found p xs k

  one_more : (x : A) (xs : List A) → p x ≡ false → (o : Option ℕ) → Searched xs o → Searched (x ∷ xs) (one_later o)
  one_more x xs e none h = rw e h
  one_more x xs e (some k) h = record {
    before = x ∷ h.before;
    after = h.after;
    own = h.own;
    split = ap (λ (l : List A). x ∷ l) h.split;
    place = ap suc h.place;
    none_before = rw e h.none_before;
    passes = h.passes;
  }

  pub searched : (xs : List A) → Searched xs (first_at p xs)
  searched [] = refl
  searched (x ∷ xs) =
      by_cases (p x)
      (λ e. rw e (record { before = []; after = xs; own = x; split = refl; place = refl; none_before = refl; passes = e }))
      (λ e. rw e (one_more x xs e (first_at p xs) (searched xs)))

  -- so the one at a place passes where the first stands there
  module _ (before after : List A) (x : A) (r : Found p (before ++ x ∷ after) (length before)) where
    same_rest : x ∷ after ≡ r.own ∷ r.after
    same_rest =
        sym (drop-append_seam before (x ∷ after))
        ∙ ap (drop (length before)) r.split
        ∙ ap (λ (n : ℕ). drop n (r.before ++ r.own ∷ r.after)) (sym r.place)
        ∙ drop-append_seam r.before (r.own ∷ r.after)

    pub own-passes : p x ≡ true
    own-passes = let e : x ≡ r.own = cc same_rest in rw e r.passes

-- ---- cut by transactions

pub of-transactions : {A : Type 0} (f : Transaction → List A) → ((x : Transaction) → length (f x) ≡ suc (length x.details))
    → (xs : List Transaction) (rest : List A) → of_transactions xs (joined f xs ++ rest) ≡ map f xs
of-transactions f e [] rest = refl
of-transactions f e (x ∷ xs) rest =
    rw (append_assoc (f x) (joined f xs) rest, ← e x, take-append_seam (f x) (joined f xs ++ rest), drop-append_seam (f x) (joined f xs ++ rest))
    (ap (λ l. f x ∷ l) (of-transactions f e xs rest))

-- ---- each element by what a function says of it

module _ {A B : Type 0} (h : A → B) where
  pub first-map : (p : B → Bool) (q : A → Bool) → ((x : A) → p (h x) ≡ q x) → (xs : List A) → first_at p (map h xs) ≡ first_at q xs
  first-map p q e [] = refl
  first-map p q e (x ∷ xs) = rw (e x, first-map p q e xs)

  pub any-map : (p : B → Bool) (q : A → Bool) → ((x : A) → p (h x) ≡ q x) → (xs : List A) → any p (map h xs) ≡ any q xs
  any-map p q e [] = refl
  any-map p q e (x ∷ xs) = rw (e x, any-map p q e xs)

  take-map : (n : ℕ) (l : List A) → take n (map h l) ≡ map h (take n l)
  take-map zero l = refl
  take-map (suc n) [] = refl
  take-map (suc n) (x ∷ l) = ap (λ (m : List B). h x ∷ m) (take-map n l)

  drop-map : (n : ℕ) (l : List A) → drop n (map h l) ≡ map h (drop n l)
  drop-map zero l = refl
  drop-map (suc n) [] = refl
  drop-map (suc n) (x ∷ l) = drop-map n l

  transactions-map : (xs : List Transaction) (l : List A) → of_transactions xs (map h l) ≡ map (map h) (of_transactions xs l)
  transactions-map [] l = refl
  transactions-map (x ∷ xs) l =
      let n = suc (length x.details) in
      rw (take-map n l, drop-map n l, transactions-map xs (drop n l))

module _ {A B : Type 0} (h : A → B) where
  groups-map : (gs : List Group) (l : List A) → of_groups gs (map h l) ≡ map (map h) (of_groups gs l)
  groups-map [] l = refl
  groups-map (g ∷ gs) l =
      rw (drop-map h 1 l, drop-map h (records_g g) l, transactions-map h g.transactions (drop 1 l), groups-map gs (drop (records_g g) l))
      (sym (map-append (map h) (of_transactions g.transactions (drop 1 l)) (of_groups gs (drop (records_g g) l))))

  pub each_map : (d : Tree) (l : List A) → of_each d (map h l) ≡ map (map h) (of_each d l)
  unfolding of_each
  each_map d l = rw (drop-map h 1 l) (groups-map d.groups (drop 1 l))
