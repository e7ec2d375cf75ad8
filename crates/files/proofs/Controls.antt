-- The records that open and close a file and its groups: their first letters, and which class may follow. Assumes nothing.
use Prim.Native.Nat.{ℕ, ◌+◌, ◌<◌}
use native.Mathlib.Omega.{arith}
use mathlib.Core.Path.{◌≡◌, refl, sym, ap, ◌∙◌, subst}
use mathlib.Core.Bool.{Bool, true, false}
use mathlib.Core.List.{List, [], ◌∷◌}
use lib.Dec.{T, eqb}
use lib.ListN.{take, drop, get_or}
use lib.Seq.{get_or-take, get_or-drop}
use borrow.Author.Tests.{eqb-true}
use Rattle.format.specs.Bytes.{Bytes, every}
use Rattle.format.specs.Table.{Class, hdr, grh, head, detail, grt, trl, unknown, Row as FormatRow, row}
use Rattle.format.specs.Cwr22.{rows22, cwr22}
use Rattle.format.specs.Checks.{is, cls, may_follow, check7, AlongFrom}
use Rattle.format.specs.Structure.{first_record}
use Rattle.format.proofs.Logic.{is_T, is_true}
use Rattle.format.proofs.Tree.{is→eq}
use Rattle.kinds.specs.Rows.{row_for}
use Rattle.kinds.proofs.Laws.{in_class, of-class}
use Rattle.structure.specs.Cursor.{Here}
use Rattle.structure.proofs.Cursor.{first as record-here, placed-like}
use Rattle.transactions.proofs.Levels.{first-here}

-- ---- first letters

pub initial : ℕ → FormatRow → Bool
initial b (row t m c) = eqb (get_or t 0 0) b

-- the type of every row of class k begins with that letter
pub record Initial (k : Class) (b : ℕ) : Type 0 where
  pub all : every (in_class k (initial b)) rows22 ≡ true
  pub known : is k unknown ≡ false

pub opening-letter : Initial grh 71
unfolding rows22 initial
opening-letter = record { all = refl; known = refl }

pub trailer-letter : Initial trl 84
unfolding rows22 initial
trailer-letter = record { all = refl; known = refl }

module _ {k : Class} {b : ℕ} (kind : Initial k b) where
  letter-type : (r : Bytes) → cls cwr22 r ≡ k → get_or (take 3 r) 0 0 ≡ b
  unfolding rows22 initial
  letter-type r h =
      of-class k (initial b) kind.all kind.known (λ (f : FormatRow). get_or (take 3 r) 0 0 ≡ b) r h (λ m e. eqb-true (get_or (take 3 r) 0 0) b e)

  -- where such a record stands first
  pub letter : {f : Bytes} {i : ℕ} {c : Class} {rs : List Bytes} → Here f i c rs → is trl c ≡ false → cls cwr22 (first_record rs) ≡ k
      → get_or f i 0 ≡ b
  letter {f} {i} {rs = rs} h more its =
      let front = record-here (first-here h more) (row_for (take 3 (drop i f))) refl in
      let none : i + 0 ≡ i = omega arith in
      let in-type : 0 < 3 = omega arith in
      let in-record : 0 < (row_for (take 3 (drop i f))).length = omega (arith, front.three) in
      let same : get_or (first_record rs) 0 0 ≡ get_or f i 0 =
      ap (λ q. get_or q 0 0) (sym front.bytes) ∙ get_or-take _ (drop i f) 0 0 in-record ∙ get_or-drop i f 0 0 ∙ ap (λ q. get_or f q 0) none in
      sym same ∙ sym (get_or-take 3 (first_record rs) 0 0 in-type) ∙ letter-type (first_record rs) its

-- ---- what follows

module _ {f : Bytes} {i : ℕ} {rs : List Bytes} where
  pub as-head : Here f i grh rs → Here f i head rs
  as-head h = placed-like grh head refl (λ e q. rw q refl) h

  pub as-closed : Here f i hdr rs → Here f i grt rs
  as-closed h = placed-like hdr grt refl (λ e q. rw q refl) h

-- the class of the first record, by the one before
pub follows : (c : Class) → is trl c ≡ false → (rs : List Bytes) → AlongFrom (check7 cwr22) c rs → may_follow c (cls cwr22 (first_record rs)) ≡ true
follows c e [] a = absurd (subst T e a)
follows c e (r ∷ rs) a = is_true (may_follow c (cls cwr22 r)) a.0

-- a header after GRH, GRT after a transaction, TRL after the last group
pub head-after : (c : Class) → may_follow grh c ≡ true → c ≡ head
head-after c q = sym (is→eq head c (is_T (is head c) q))

pub grt-after : (c : Class) → may_follow head c ≡ true → is head c ≡ false → is detail c ≡ false → c ≡ grt
grt-after c q h d = sym (is→eq grt c (is_T (is grt c) (rw (h, d) at q)))

pub trl-after : (c : Class) → may_follow grt c ≡ true → is grh c ≡ false → c ≡ trl
trl-after c q h = sym (is→eq trl c (is_T (is trl c) (rw h at q)))

-- nothing after TRL
pub last-record : (rs : List Bytes) → AlongFrom (check7 cwr22) trl rs → rs ≡ []
last-record [] a = refl
last-record (r ∷ rs) a = absurd a.0
