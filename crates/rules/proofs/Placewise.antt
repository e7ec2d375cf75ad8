-- Lists compared place by place: joined, mapped, and each place of them. Assumes nothing.
use Prim.Native.Nat.{ℕ, zero, suc}
use mathlib.Core.List.{List, [], ◌∷◌, ◌++◌, map}
use lib.ListN.{get_or}
use Rattle.format.specs.Bytes.{All}
use Rattle.rules.specs.Verdicts.{joined}

-- ---- what holds of each element

-- holds of all
pub always : {A : Type 0} (P : A → Type 0) → ((x : A) → P x) → (xs : List A) → All P xs
always P h [] = tt
always P h (x ∷ xs) = (h x, always P h xs)

pub all_then : {A : Type 0} {P Q : A → Type 0} → ((x : A) → P x → Q x) → (xs : List A) → All P xs → All Q xs
all_then f [] h = tt
all_then f (x ∷ xs) h = (f x h.0, all_then f xs h.1)

-- and at each place, and beyond
pub all-at : {A : Type 0} (P : A → Type 0) {a : A} → P a → (xs : List A) → All P xs → (k : ℕ) → P (get_or xs k a)
all-at P p [] h k = p
all-at P p (x ∷ xs) h zero = h.0
all-at P p (x ∷ xs) h (suc k) = all-at P p xs h.1 k

-- ---- two lists

module _ {A : Type 0} (R : A → A → Type 0) where
  abbrev pub Placewise : List A → List A → Type 0
  Placewise [] [] = Unit {0}
  Placewise [] (y ∷ ys) = ⊥
  Placewise (x ∷ xs) [] = ⊥
  Placewise (x ∷ xs) (y ∷ ys) = R x y × Placewise xs ys

  module _ (same : (x : A) → R x x) where
    pub alike : (xs : List A) → Placewise xs xs
    alike [] = tt
    alike (x ∷ xs) = (same x, alike xs)

    pub at_place : (a : A) (xs ys : List A) → Placewise xs ys → (k : ℕ) → R (get_or xs k a) (get_or ys k a)
    at_place a [] [] h k = same a
    at_place a [] (y ∷ ys) h k = absurd h
    at_place a (x ∷ xs) [] h k = absurd h
    at_place a (x ∷ xs) (y ∷ ys) h zero = h.0
    at_place a (x ∷ xs) (y ∷ ys) h (suc k) = at_place a xs ys h.1 k

  appended : (xs ys us vs : List A) → Placewise xs ys → Placewise us vs → Placewise (xs ++ us) (ys ++ vs)
  appended [] [] us vs h k = k
  appended [] (y ∷ ys) us vs h k = absurd h
  appended (x ∷ xs) [] us vs h k = absurd h
  appended (x ∷ xs) (y ∷ ys) us vs h k = (h.0, appended xs ys us vs h.1 k)

  module _ {B : Type 0} (f g : B → List A) where
    all-joined : (xs : List B) → All (λ x. Placewise (f x) (g x)) xs → Placewise (joined f xs) (joined g xs)
    all-joined [] h = tt
    all-joined (x ∷ xs) h = appended (f x) (g x) (joined f xs) (joined g xs) h.0 (all-joined xs h.1)

    -- between two that never differ, as those of a group's or a file's control records do not
    pub enclosed-where : {a : A} → R a a → (xs : List B) → All (λ x. Placewise (f x) (g x)) xs
        → Placewise (a ∷ joined f xs ++ a ∷ []) (a ∷ joined g xs ++ a ∷ [])
    enclosed-where {a = a} same xs h = (same, appended (joined f xs) (joined g xs) (a ∷ []) (a ∷ []) (all-joined xs h) (same, tt))

  pub enclosed : {B : Type 0} {a : A} → R a a → (f g : B → List A) → ((x : B) → Placewise (f x) (g x)) → (xs : List B)
      → Placewise (a ∷ joined f xs ++ a ∷ []) (a ∷ joined g xs ++ a ∷ [])
  enclosed same f g h xs = enclosed-where f g same xs (always (λ x. Placewise (f x) (g x)) h xs)

pub mapped : {A B : Type 0} (R : A → A → Type 0) (S : B → B → Type 0) (f g : A → B) → ((x y : A) → R x y → S (f x) (g y)) → (xs ys : List A)
    → Placewise R xs ys → Placewise S (map f xs) (map g ys)
mapped R S f g h [] [] k = tt
mapped R S f g h [] (y ∷ ys) k = absurd k
mapped R S f g h (x ∷ xs) [] k = absurd k
mapped R S f g h (x ∷ xs) (y ∷ ys) k = (h x y k.0, mapped R S f g h xs ys k.1)
