-- Numbers cut out of a record and put back. Assumes nothing.
use Prim.Native.Nat.{ℕ, suc, pred, ◌+◌, ◌≤◌}
use native.Mathlib.Omega.{arith}
use mathlib.Core.Path.{◌≡◌, refl, ap, ◌∙◌}
use mathlib.Core.List.{[], ◌++◌, append_assoc, append-nil}
use lib.ListN.{length, take, drop, length-append, length-drop, take-append-drop}
use lib.Seq.{length-take-le, take_at, drop_at, take-take, take-append-le, take-add}
use lib.Dec.{T, eqb, eqb→eq, eqb_refl, lit≤}
use Rattle.format.specs.Bytes.{Bytes, is_text, Text, inserted, decimal}
use Rattle.format.specs.Table.{Class, hdr, grh, head, detail, grt, trl, unknown, known, at, width, Table}
use Rattle.format.specs.WellFormed.{item, Right, Held}
use Rattle.format.specs.Checks.{Counts, expected, slot, cut, cls, typed}
use Rattle.format.specs.Numbering.{held}
use Rattle.format.proofs.Logic.{both, left, right, All-append, All-take, All-drop}
use Rattle.format.proofs.Decimal.{decimal-text, length-decimal}

-- ---- at any place a and width w

-- the first bytes are those of the front part
front-type : (a : ℕ) (s y : Bytes) → a ≤ length s → 3 ≤ a → take 3 (take a s ++ y) ≡ take 3 s
front-type a s y h k = take-append-le 3 (take a s) y (rw (length-take-le a s h) k) ∙ take-take 3 a s k

module _ (a : ℕ) (x s : Bytes) (h : a ≤ length s) where
  length_inserted : length (inserted a x s) ≡ length x + length s
  unfolding inserted
  length_inserted = simp (length-append, length-take-le a s h, length-drop) (omega arith)

  inserted-front : take a (inserted a x s) ≡ take a s
  unfolding inserted
  inserted-front = rw append_assoc (take_at (take a s) (x ++ drop a s) a (length-take-le a s h))

  inserted-middle : take (length x) (drop a (inserted a x s)) ≡ x
  unfolding inserted
  inserted-middle = rw (append_assoc, drop_at (take a s) (x ++ drop a s) a (length-take-le a s h)) (take_at x (drop a s) (length x) refl)

  inserted-back : drop (a + length x) (inserted a x s) ≡ drop a s
  unfolding inserted
  inserted-back = drop_at (take a s ++ x) (drop a s) (a + length x) (length-append (take a s) x ∙ rw (length-take-le a s h))

  inserted-type : 3 ≤ a → take 3 (inserted a x s) ≡ take 3 s
  unfolding inserted
  inserted-type k = rw append_assoc (front-type a s (x ++ drop a s) h k)

-- a record is what is left of it with its numbers put back
refill : (a w : ℕ) (r : Bytes) → a + w ≤ length r → inserted a (take w (drop a r)) (take a r ++ drop (a + w) r) ≡ r
unfolding inserted
refill a w r h =
    let first = length-take-le a r (omega arith) in
    rw (take_at (take a r) (drop (a + w) r) a first, drop_at (take a r) (drop (a + w) r) a first, ← take-add a w r, take-append-drop)

-- numbers put into a record whose own were cut out: the record with its number positions overwritten
pub overwritten : (a w : ℕ) (x r : Bytes) → a ≤ length r → inserted a x (take a r ++ drop (a + w) r) ≡ take a r ++ x ++ drop (a + w) r
unfolding inserted
overwritten a w x r h =
    rw (take_at (take a r) (drop (a + w) r) a (length-take-le a r h), drop_at (take a r) (drop (a + w) r) a (length-take-le a r h))

pub inserted-nothing : (a : ℕ) (s : Bytes) → inserted a [] s ≡ s
unfolding inserted
inserted-nothing a s = rw (append-nil, take-append-drop)

-- ---- at the place and width of a class

pub three : (c : Class) → 3 ≤ at c
three hdr = lit≤ tt
three grh = lit≤ tt
three head = lit≤ tt
three detail = lit≤ tt
three grt = lit≤ tt
three trl = lit≤ tt
three unknown = lit≤ tt

length_two : (a b x y : ℕ) → length (decimal a x ++ decimal b y) ≡ a + b
length_two a b x y = rw (length-append, length-decimal a x, length-decimal b y)

length_three : (a b c x y z : ℕ) → length (decimal a x ++ decimal b y ++ decimal c z) ≡ a + b + c
length_three a b c x y z = rw (length-append, length_two, length-decimal)

pub expected-length : (n : Counts) (c : Class) → length (expected n c) ≡ width c
expected-length n hdr = refl
expected-length n grh = length-decimal 5 (suc n.groups)
expected-length n head = length_two 8 8 n.in_group 0
expected-length n detail = length_two 8 8 (pred n.in_group) n.in_transaction
expected-length n grt = length_three 5 8 8 n.groups n.in_group (suc n.group_records)
expected-length n trl = length_three 5 8 8 n.groups n.transactions (suc n.records)
expected-length n unknown = refl

text-append : (x y : Bytes) → Text x → Text y → Text (x ++ y)
text-append x y = All-append (λ b. T (is_text b)) x y

text-two : (a b x y : ℕ) → Text (decimal a x ++ decimal b y)
text-two a b x y = text-append (decimal a x) (decimal b y) (decimal-text a x) (decimal-text b y)

text-three : (a b c x y z : ℕ) → Text (decimal a x ++ decimal b y ++ decimal c z)
text-three a b c x y z = text-append (decimal a x ++ decimal b y) (decimal c z) (text-two a b x y) (decimal-text c z)

pub expected-text : (n : Counts) (c : Class) → Text (expected n c)
expected-text n hdr = tt
expected-text n grh = decimal-text 5 (suc n.groups)
expected-text n head = text-two 8 8 n.in_group 0
expected-text n detail = text-two 8 8 (pred n.in_group) n.in_transaction
expected-text n grt = text-three 5 8 8 n.groups n.in_group (suc n.group_records)
expected-text n trl = text-three 5 8 8 n.groups n.transactions (suc n.records)
expected-text n unknown = tt

module _ (𝕋 : Table) where
  -- a held record with numbers put into it
  module _ (c : Class) (s x : Bytes) (R : Right 𝕋 c s) (l : length x ≡ width c) where
    fits : at c ≤ length s
    fits =
        let m : at c + width c ≤ 𝕋.len (take 3 s) = rw R.type at (𝕋.inside (take 3 s) (rw R.type R.type_known)) in
        omega (arith, R.size)

    pub put-cls : cls 𝕋 (inserted (at c) x s) ≡ c
    put-cls = ap 𝕋.class (inserted-type (at c) x s fits (three c)) ∙ R.type

    pub put-slot : slot c (inserted (at c) x s) ≡ x
    put-slot = rw (← l) (inserted-middle (at c) x s fits)

    put-cut : cut c (inserted (at c) x s) ≡ s
    put-cut = rw (inserted-front (at c) x s fits, ← l, inserted-back (at c) x s fits, take-append-drop)

    pub put-held : held 𝕋 (inserted (at c) x s) ≡ item c s
    put-held = rw (put-cls, put-cut)

    pub put-length : length (inserted (at c) x s) ≡ 𝕋.len (take 3 s)
    put-length = length_inserted (at c) x s fits ∙ rw (← R.size, l) (omega arith)

    pub put_typed : T (typed 𝕋 (inserted (at c) x s))
    put_typed =
        both (known (cls 𝕋 (inserted (at c) x s))) (eqb (length (inserted (at c) x s)) (𝕋.len (take 3 (inserted (at c) x s))))
        (rw put-cls R.type_known)
        (rw (put-length, inserted-type (at c) x s fits (three c)) (eqb_refl (𝕋.len (take 3 s))))

    pub put-text : Text x → Text (inserted (at c) x s)
    unfolding inserted
    put-text h =
        text-append (take (at c) s ++ x) (drop (at c) s)
        (text-append (take (at c) s) x (All-take (λ b. T (is_text b)) (at c) s R.text) h)
        (All-drop (λ b. T (is_text b)) (at c) s R.text)

  -- a record that is right by 4 and 6, without its numbers
  module _ (r : Bytes) (h : Text r) (t : T (typed 𝕋 r)) where
    long : length r ≡ 𝕋.len (take 3 r)
    long = eqb→eq (length r) (𝕋.len (take 3 r)) (right (known (cls 𝕋 r)) (eqb (length r) (𝕋.len (take 3 r))) t)

    whole : at (cls 𝕋 r) + width (cls 𝕋 r) ≤ length r
    whole = omega (arith, 𝕋.inside (take 3 r) (left (known (cls 𝕋 r)) (eqb (length r) (𝕋.len (take 3 r))) t), long)

    pub held-right : Held 𝕋 (held 𝕋 r)
    held-right =
        record {
          text =
              let a = at (cls 𝕋 r) in
              let e = a + width (cls 𝕋 r) in
              text-append (take a r) (drop e r) (All-take (λ b. T (is_text b)) a r h) (All-drop (λ b. T (is_text b)) e r h);
          type = ap 𝕋.class same;
          type_known = left (known (cls 𝕋 r)) (eqb (length r) (𝕋.len (take 3 r))) t;
          size = rw (same, ← long, length-append, length-take-le (at (cls 𝕋 r)) r (omega (arith, whole)), length-drop) (omega (arith, whole));
        }
      where
        same : take 3 (cut (cls 𝕋 r) r) ≡ take 3 r
        same = front-type (at (cls 𝕋 r)) r (drop (at (cls 𝕋 r) + width (cls 𝕋 r)) r) (omega (arith, whole)) (three (cls 𝕋 r))

    pub slot-length : length (slot (cls 𝕋 r) r) ≡ width (cls 𝕋 r)
    slot-length = length-take-le (width (cls 𝕋 r)) (drop (at (cls 𝕋 r)) r) (rw length-drop (omega (arith, whole)))

    pub slot-text : Text (slot (cls 𝕋 r) r)
    slot-text = All-take (λ b. T (is_text b)) (width (cls 𝕋 r)) (drop (at (cls 𝕋 r)) r) (All-drop (λ b. T (is_text b)) (at (cls 𝕋 r)) r h)

    pub slot-put : inserted (at (cls 𝕋 r)) (slot (cls 𝕋 r) r) (cut (cls 𝕋 r) r) ≡ r
    slot-put = refill (at (cls 𝕋 r)) (width (cls 𝕋 r)) r whole
