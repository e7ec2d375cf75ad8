-- A level of a file as its loop keeps it: the parts that it has gone over, and the records that are left. The same for the details of a
-- transaction, the transactions of a group and the groups of a file, whatever is done with each part. Assumes nothing.
use Prim.Native.Nat.{ℕ, ◌+◌}
use mathlib.Core.Path.{◌≡◌, refl, sym, ap, ◌∙◌, subst}
use mathlib.Core.Bool.{false}
use mathlib.Core.List.{List, [], ◌∷◌, ◌++◌, append_assoc, append-nil}
use lib.Dec.{T}
use lib.ListN.{length}
use Rattle.format.specs.Bytes.{Bytes}
use Rattle.format.specs.Table.{Class, trl}
use Rattle.format.specs.Cwr22.{cwr22}
use Rattle.format.specs.Checks.{is, check7, AlongFrom}
use Rattle.format.specs.Structure.{first_record}
use Rattle.structure.specs.Cursor.{Here}
use Rattle.transactions.specs.Walk.{rest_at, tail_of, Position}

-- ---- one record

-- after a record that is no TRL another stands
some-record : (c : Class) → is trl c ≡ false → (rs : List Bytes) → AlongFrom (check7 cwr22) c rs → rs ≡ first_record rs ∷ tail_of rs
some-record c e [] a = absurd (subst T e a)
some-record c e (r ∷ rs) a = refl

module _ {f : Bytes} {at : ℕ} {c : Class} {rs : List Bytes} (h : Here f at c rs) (more : is trl c ≡ false) where
  pub first-left : rs ≡ first_record rs ∷ tail_of rs
  first-left = some-record c more rs h.placed

  pub first-here : Here f at c (first_record rs ∷ tail_of rs)
  first-here = subst (Here f at c) first-left h

-- a walk that stands before record n, of as many as there are with those that are left
pub standing : {f : Bytes} {at : ℕ} {c : Class} (n : ℕ) → Here f at c (rest_at f at) → Position f (n + length (rest_at f at)) at n c (rest_at f at)
standing n h = record { here = h; left = refl }

-- ---- parts

-- after records of class c, the parts at the front of the records from a byte on
module _ {A : Type 0} (parts : List Bytes → List A) (f : Bytes) (m start : ℕ) (c : Class) where
  -- the walk has gone over the parts xs, of which the claim holds: what was done with them
  pub record Going (claim : List A → Type 0) (at n : ℕ) (xs : List A) : Type 0 where
    pub position : Position f m at n c (rest_at f at)
    pub split : parts (rest_at f start) ≡ xs ++ parts (rest_at f at)
    pub done : claim xs

  pub going-none : {claim : List A → Type 0} {n : ℕ} → Position f m start n c (rest_at f start) → claim [] → Going claim start n []
  going-none p k = record { position = p; split = refl; done = k }

  module _ {claim : List A → Type 0} {at n : ℕ} {xs : List A} (going : Going claim at n xs) where
    -- one part more
    pub going_on : {claim' : List A → Type 0} {at' n' : ℕ} {rs : List Bytes} (x : A) → parts (rest_at f at) ≡ x ∷ parts rs
        → Position f m at' n' c rs → claim' (xs ++ x ∷ []) → Going claim' at' n' (xs ++ x ∷ [])
    going_on {at' = at'} x e p k =
        let q = p.here.left in
        record {
          position = rw q p;
          split = going.split ∙ ap (λ l. xs ++ l) (e ∙ ap (λ l. x ∷ parts l) (sym q)) ∙ sym (append_assoc xs (x ∷ []) (parts (rest_at f at')));
          done = k;
        }

    -- none is left
    pub going-all : parts (rest_at f at) ≡ [] → parts (rest_at f start) ≡ xs
    going-all e = going.split ∙ ap (λ l. xs ++ l) e ∙ append-nil xs
