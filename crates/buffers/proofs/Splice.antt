-- Laws of `splice`, over lists of any kind. Assumes nothing.
use mathlib.Core.Path.{◌≡◌, refl, sym, ap, ◌∙◌}
use mathlib.Core.List.{List, [], ◌∷◌, ◌++◌, append_assoc}
use Prim.Native.Nat.{ℕ, ◌+◌, ◌<◌, ◌≤◌}
use native.Mathlib.Numerals.{add-one}
use native.Mathlib.Omega.{arith}
use lib.ListN.{length, take, drop, set, length-append, length-drop, take-append-drop}
use lib.Seq.{length-take-le, take_at, drop_at, drop-append-add, drop-drop, take-take, set_split}
use borrow.Rule.Slice.PartMut.{put_mid}
use Rattle.format.specs.Lent.{splice}

module _ {A : Type 0} where
  pub splice-nil : (a : ℕ) (l : List A) → splice a [] l ≡ l
  unfolding splice
  splice-nil a l = let q : a + 0 ≡ a = omega arith in rw q (take-append-drop a l)

  -- one store
  pub set-splice : (a : ℕ) (x : A) (l : List A) → a < length l → set l a x ≡ splice a (x ∷ []) l
  unfolding splice
  set-splice a x l h = set_split l a x h ∙ rw add-one

  -- a part that was lent and comes back as ys
  pub part-splice : (a k : ℕ) (ys l : List A) → length ys ≡ k → put_mid a k l ys ≡ splice a ys l
  unfolding splice
  part-splice a k ys l e = rw (e, drop-drop k a l)

-- what was spliced stands there, and before and after it all is as it was
module _ {A : Type 0} (a : ℕ) (xs l : List A) (h : a + length xs ≤ length l) where
  length_front : length (take a l) ≡ a
  length_front = length-take-le a l (omega arith)

  pub length-splice : length (splice a xs l) ≡ length l
  unfolding splice
  length-splice = simp (length-append, length-drop, length_front) (omega arith)

  front : take a (splice a xs l) ≡ take a l
  unfolding splice
  front = take_at (take a l) _ a length_front

  sooner : (b : ℕ) → b ≤ a → take b (splice a xs l) ≡ take b l
  sooner b le = sym (take-take b a (splice a xs l) le) ∙ ap (take b) front ∙ take-take b a l le

  from : drop a (splice a xs l) ≡ xs ++ drop (a + length xs) l
  unfolding splice
  from = drop_at (take a l) _ a length_front

  pub mid : take (length xs) (drop a (splice a xs l)) ≡ xs
  mid = rw from (take_at xs _ (length xs) refl)

  through : take (a + length xs) (splice a xs l) ≡ take a l ++ xs
  unfolding splice
  through =
      let e : length (take a l ++ xs) ≡ a + length xs = length-append (take a l) xs ∙ ap (λ (k : ℕ). k + length xs) length_front in
      rw (← append_assoc (take a l) xs (drop (a + length xs) l)) (take_at (take a l ++ xs) _ (a + length xs) e)

  beyond : (n : ℕ) → drop (a + length xs + n) (splice a xs l) ≡ drop (a + length xs + n) l
  beyond n =
      let q : a + length xs + n ≡ a + (length xs + n) = omega arith in
      rw (q, ← drop-drop (length xs + n) a (splice a xs l), from, drop-append-add xs (drop (a + length xs) l) n, drop-drop n (a + length xs) l)
      (rw (← q))

  rest : drop (a + length xs) (splice a xs l) ≡ drop (a + length xs) l
  rest =
      let q : a + length xs + 0 ≡ a + length xs = omega arith in
      rw q at (beyond 0)

  -- more after it
  pub splice-on : (ys : List A) → splice (a + length xs) ys (splice a xs l) ≡ splice a (xs ++ ys) l
  unfolding splice
  splice-on ys =
      let q : a + (length xs + length ys) ≡ a + length xs + length ys = omega arith in
      rw (through, beyond (length ys), append_assoc (take a l), append_assoc xs, length-append xs ys, q)

  -- as many over it
  pub splice-over : (ys : List A) → length ys ≡ length xs → splice a ys (splice a xs l) ≡ splice a ys l
  unfolding splice
  splice-over ys e = rw (front, e) (ap (λ (r : List A). take a l ++ (ys ++ r)) rest)

  -- more before it
  pub splice-before : (b : ℕ) (ys : List A) → b + length ys ≡ a → splice b ys (splice a xs l) ≡ splice b (ys ++ xs) l
  unfolding splice
  splice-before b ys e =
      let q : b + (length ys + length xs) ≡ a + length xs = omega arith in
      rw (sooner b (omega arith), e, from, append_assoc ys, length-append ys xs, q)
