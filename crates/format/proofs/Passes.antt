-- The checks over a file's records, against the list of records held without their numbers. Assumes nothing.
use Prim.Native.Nat.{ℕ, suc, ◌+◌}
use native.Mathlib.Omega.{arith}
use mathlib.Core.Path.{◌≡◌, refl, sym, ap, ◌∙◌, subst}
use mathlib.Core.Bool.{Bool, true, false, not, cond}
use mathlib.Core.Option.{Option, none, some}
use mathlib.Core.List.{List, [], ◌∷◌, map}
use lib.ListN.{length, take, length-append}
use lib.Dec.{T}
use Rattle.format.specs.Bytes.{Bytes, All, Text, inserted, unlines}
use Rattle.format.specs.Table.{Class, trl, at, width, Table}
use Rattle.format.specs.WellFormed.{Item, item, Right, Held, Loose}
use Rattle.format.specs.Checks.{Check, fault_from, Along, AlongFrom, Counts, count, expected, is, may_follow, closes, slot}
use Rattle.format.specs.Checks.{cls, typed, rightly_numbered, check6, check7, check8, check9, ok8, ok9, counting, count_from}
use Rattle.format.specs.Numbering.{held, number}
use Rattle.format.proofs.Logic.{or_right, either_way, same_bytes→eq, same_bytes-refl}
use Rattle.format.proofs.Slots.{expected-length, expected-text, put-cls, put-slot, put-held, put-length}
use Rattle.format.proofs.Slots.{put_typed, put-text, held-right, slot-text, slot-length, slot-put}

-- ---- a check finds no fault exactly where no record fails

cond-none : (b : Bool) (o : Option ℕ) (i : ℕ) → cond b o (some i) ≡ none → T b × (o ≡ none)
cond-none true o i e = (tt, e)
cond-none false o i e = let z : ◌≡◌ {A = ℕ} 0 1 = cc in absurd (omega arith)

none-cond : (b : Bool) {o : Option ℕ} (i : ℕ) → T b → o ≡ none → cond b o (some i) ≡ none
none-cond true i t e = e
none-cond false i t e = absurd t

module _ (K : Check) where
  pub fault-along : (s : K.State) (i : ℕ) (rs : List Bytes) → fault_from K s i rs ≡ none → AlongFrom K s rs
  fault-along s i [] e = (cond-none (K.end s) none i e).0
  fault-along s i (r ∷ rs) e =
      let p = cond-none (K.ok s r) (fault_from K (K.next s r) (suc i) rs) i e in
      (p.0, fault-along (K.next s r) (suc i) rs p.1)

  pub along-fault : (s : K.State) (i : ℕ) (rs : List Bytes) → AlongFrom K s rs → fault_from K s i rs ≡ none
  along-fault s i [] h = none-cond (K.end s) i h refl
  along-fault s i (r ∷ rs) h = none-cond (K.ok s r) i h.0 (along-fault (K.next s r) (suc i) rs h.1)

-- ---- places and counts of held records

abbrev pub Places : Class → List Item → Type 0
Places p [] = T (is trl p)
Places p (item c s ∷ ss) = T (may_follow p c) × Places c ss

abbrev pub counted : Counts → List Item → Counts
counted n [] = n
counted n (item c s ∷ ss) = counted (count n c) ss

pub number-loose : (n : Counts) (ss : List Item) → Loose ss (number n ss)
number-loose n [] = tt
number-loose n (item c s ∷ ss) = ((expected n c, expected-text n c, expected-length n c, refl), number-loose (count n c) ss)

module _ (𝕋 : Table) where
  -- ---- records that carry anything at their number positions: read, they are the held records again

  pub loose-held : (ss : List Item) (rs : List Bytes) → All (Held 𝕋) ss → Loose ss rs → map (held 𝕋) rs ≡ ss
  loose-held [] [] h l = refl
  loose-held [] (r ∷ rs) h l = absurd l
  loose-held (i ∷ ss) [] h l = absurd l
  loose-held (item c s ∷ ss) (r ∷ rs) h l =
      let (x, t, n, e) = l.0 in
      rw (← e, put-held 𝕋 c s x h.0 n, loose-held ss rs h.1 l.1)

  -- what holds of every held record with text put into it holds of each of the records
  module _ (P : Bytes → Type 0) (k : (c : Class) (s x : Bytes) → Right 𝕋 c s → Text x → length x ≡ width c → P (inserted (at c) x s)) where
    loose-all : (ss : List Item) (rs : List Bytes) → All (Held 𝕋) ss → Loose ss rs → All P rs
    loose-all [] [] h l = tt
    loose-all [] (r ∷ rs) h l = absurd l
    loose-all (i ∷ ss) [] h l = absurd l
    loose-all (item c s ∷ ss) (r ∷ rs) h l = let (x, t, n, e) = l.0 in (subst P e (k c s x h.0 t n), loose-all ss rs h.1 l.1)

  pub loose-text : (ss : List Item) (rs : List Bytes) → All (Held 𝕋) ss → Loose ss rs → All Text rs
  loose-text = loose-all Text (λ c s x R t n. put-text 𝕋 c s x R n t)

  all_typed : (rs : List Bytes) → All (λ r. T (typed 𝕋 r)) rs → Along (check6 𝕋) rs
  all_typed [] h = tt
  all_typed (r ∷ rs) h = (h.0, all_typed rs h.1)

  pub loose-typed : (ss : List Item) (rs : List Bytes) → All (Held 𝕋) ss → Loose ss rs → Along (check6 𝕋) rs
  loose-typed ss rs h l = all_typed rs (loose-all (λ r. T (typed 𝕋 r)) (λ c s x R t n. put_typed 𝕋 c s x R n) ss rs h l)

  -- so they differ in nothing but the numbers, and not in length
  lengths : List Item → ℕ
  lengths [] = 0
  lengths (item c s ∷ ss) = 𝕋.len (take 3 s) + 2 + lengths ss

  loose-length : (ss : List Item) (rs : List Bytes) → All (Held 𝕋) ss → Loose ss rs → length (unlines rs) ≡ lengths ss
  unfolding lengths
  loose-length [] [] h l = refl
  loose-length [] (r ∷ rs) h l = absurd l
  loose-length (i ∷ ss) [] h l = absurd l
  loose-length (item c s ∷ ss) (r ∷ rs) h l =
      let (x, t, n, e) = l.0 in
      length-append r (13 ∷ 10 ∷ unlines rs) ∙ omega (arith, ap length (sym e) ∙ put-length 𝕋 c s x h.0 n, loose-length ss rs h.1 l.1)

  pub same_length : (ss : List Item) (qs rs : List Bytes) → All (Held 𝕋) ss → Loose ss qs → Loose ss rs → length (unlines qs) ≡ length (unlines rs)
  same_length ss qs rs h k l = loose-length ss qs h k ∙ sym (loose-length ss rs h l)

  -- ---- the numbered records are such records, and their numbers are the expected ones

  -- a test of the records' numbers that asks no more than that they are the expected ones
  number_ok : (ok : Counts → Bytes → Bool) → ((n : Counts) (r : Bytes) → T (rightly_numbered 𝕋 n r) → T (ok n r))
      → (n : Counts) (ss : List Item) → All (Held 𝕋) ss → AlongFrom (counting 𝕋 ok) n (number n ss)
  number_ok ok w n [] h = tt
  number_ok ok w n (item c s ∷ ss) h = (
    w n (inserted (at c) (expected n c) s) (rw (cl, put-slot 𝕋 c s (expected n c) h.0 (expected-length n c)) (same_bytes-refl (expected n c))),
    rw cl (number_ok ok w (count n c) ss h.1),
  )
    where
      cl : cls 𝕋 (inserted (at c) (expected n c) s) ≡ c
      cl = put-cls 𝕋 c s (expected n c) h.0 (expected-length n c)

  pub number-ok8 : (n : Counts) (ss : List Item) → All (Held 𝕋) ss → AlongFrom (check8 𝕋) n (number n ss)
  number-ok8 = number_ok (ok8 𝕋) (λ n r. or_right (closes (cls 𝕋 r)) (rightly_numbered 𝕋 n r))

  pub number-ok9 : (n : Counts) (ss : List Item) → All (Held 𝕋) ss → AlongFrom (check9 𝕋) n (number n ss)
  number-ok9 = number_ok (ok9 𝕋) (λ n r. or_right (not (closes (cls 𝕋 r))) (rightly_numbered 𝕋 n r))

  -- ---- from the file's records to held records

  pub records-held : (rs : List Bytes) → All Text rs → Along (check6 𝕋) rs → All (Held 𝕋) (map (held 𝕋) rs)
  records-held [] h t = tt
  records-held (r ∷ rs) h t = (held-right 𝕋 r h.0 t.0, records-held rs h.1 t.1)

  pub records-loose : (rs : List Bytes) → All Text rs → Along (check6 𝕋) rs → Loose (map (held 𝕋) rs) rs
  records-loose [] h t = tt
  records-loose (r ∷ rs) h t =
      ((slot (cls 𝕋 r) r, slot-text 𝕋 r h.0 t.0, slot-length 𝕋 r h.0 t.0, slot-put 𝕋 r h.0 t.0), records-loose rs h.1 t.1)

  pub records-numbered : (n : Counts) (rs : List Bytes) → All Text rs → Along (check6 𝕋) rs
      → AlongFrom (check8 𝕋) n rs → AlongFrom (check9 𝕋) n rs → number n (map (held 𝕋) rs) ≡ rs
  records-numbered n [] h t p q = refl
  records-numbered n (r ∷ rs) h t p q =
      rw (records-numbered (count n (cls 𝕋 r)) rs h.1 t.1 p.1 q.1, ← same, slot-put 𝕋 r h.0 t.0)
    where
      same : slot (cls 𝕋 r) r ≡ expected n (cls 𝕋 r)
      same = same_bytes→eq (slot (cls 𝕋 r) r) (expected n (cls 𝕋 r)) (either_way (closes (cls 𝕋 r)) (rightly_numbered 𝕋 n r) p.0 q.0)

  -- ---- places and counts are those of the held records

  pub records-places : (p : Class) (rs : List Bytes) → AlongFrom (check7 𝕋) p rs → Places p (map (held 𝕋) rs)
  records-places p [] h = h
  records-places p (r ∷ rs) h = (h.0, records-places (cls 𝕋 r) rs h.1)

  pub places-records : (p : Class) (rs : List Bytes) → Places p (map (held 𝕋) rs) → AlongFrom (check7 𝕋) p rs
  places-records p [] h = h
  places-records p (r ∷ rs) h = (h.0, places-records (cls 𝕋 r) rs h.1)

  pub records-counted : (n : Counts) (rs : List Bytes) → count_from 𝕋 n rs ≡ counted n (map (held 𝕋) rs)
  records-counted n [] = refl
  records-counted n (r ∷ rs) = records-counted (count n (cls 𝕋 r)) rs
