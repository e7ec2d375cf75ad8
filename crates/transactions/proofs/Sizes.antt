-- The classes whose records all have one length: where such a record ends, and how a walk stands after it. Assumes nothing.
use Prim.Native.Nat.{ℕ, ◌+◌, ◌-◌, ◌≤◌}
use native.Mathlib.Omega.{arith}
use mathlib.Core.Path.{◌≡◌, refl, ap, ◌∙◌, subst}
use mathlib.Core.Bool.{Bool, true, false}
use mathlib.Core.List.{List}
use lib.Dec.{eqb}
use lib.ListN.{length, take, drop}
use borrow.Author.Tests.{eqb-true}
use Rattle.format.specs.Bytes.{Bytes, every}
use Rattle.format.specs.Table.{Class, hdr, grh, head, grt, trl, unknown, Row as FormatRow, row, len_of}
use Rattle.format.specs.Cwr22.{rows22, cwr22}
use Rattle.format.specs.Checks.{is, cls}
use Rattle.format.specs.Structure.{first_record}
use Rattle.kinds.specs.Rows.{row_for}
use Rattle.kinds.proofs.Laws.{in_class, of-class, length-len}
use Rattle.structure.specs.Cursor.{Here, First}
use Rattle.structure.proofs.Cursor.{first as record-here}
use Rattle.transactions.specs.Walk.{rest_at, tail_of, Position}
use Rattle.transactions.proofs.Levels.{first-left, first-here}

pub sized : ℕ → FormatRow → Bool
sized n (row t m c) = eqb m n

-- every row of class k has that length
pub record Sized (k : Class) (n : ℕ) : Type 0 where
  pub all : every (in_class k (sized n)) rows22 ≡ true
  pub known : is k unknown ≡ false

pub file-header : Sized hdr 167
unfolding rows22 sized
file-header = record { all = refl; known = refl }

pub group-header : Sized grh 28
unfolding rows22 sized
group-header = record { all = refl; known = refl }

pub transaction-header : Sized head 260
unfolding rows22 sized
transaction-header = record { all = refl; known = refl }

pub group-trailer : Sized grt 37
unfolding rows22 sized
group-trailer = record { all = refl; known = refl }

pub file-trailer : Sized trl 24
unfolding rows22 sized
file-trailer = record { all = refl; known = refl }

module _ {k : Class} {n : ℕ} (kind : Sized k n) where
  length-type : (r : Bytes) → cls cwr22 r ≡ k → cwr22.len (take 3 r) ≡ n
  unfolding rows22 sized
  length-type r h = of-class k (sized n) kind.all kind.known (λ (f : FormatRow). len_of f ≡ n) r h (λ m e. eqb-true m n e)

  -- such a record stands first
  module _ {f : Bytes} {i : ℕ} {c : Class} {rs : List Bytes} (h : Here f i c rs) (more : is trl c ≡ false) (its : cls cwr22 (first_record rs) ≡ k) where
    stands : First f i c (row_for (take 3 (drop i f))) (first_record rs) (tail_of rs)
    stands = record-here (first-here h more) (row_for (take 3 (drop i f))) refl

    row-length : (row_for (take 3 (drop i f))).length ≡ n
    row-length = ap (λ q. q.length) stands.own ∙ length-len (first_record rs) ∙ length-type (first_record rs) its

    pub long : length (first_record rs) ≡ n
    long = stands.long ∙ row-length

    pub ends : i + n + 2 ≤ length f
    ends = rw row-length at stands.ends

    pub lent : (e : ℕ) → e ≡ i + n → take (e - i) (drop i f) ≡ first_record rs
    lent e q = let w : e - i ≡ n = omega arith in rw w (rw row-length at stands.bytes)

    pub next : (e : ℕ) → e ≡ i + n + 2 → Here f e k (tail_of rs)
    next e q = rw q (subst (λ (d : Class). Here f (i + n + 2) d (tail_of rs)) its (rw row-length at stands.next))

-- one record on
pub step : {f : Bytes} {m at n e : ℕ} {c k : Class} {rs : List Bytes} → Position f m at n c rs → is trl c ≡ false → Here f e k (tail_of rs)
    → Position f m e (n + 1) k (tail_of rs)
step p more h = record { here = h; left = omega (arith, p.left, ap length (first-left p.here more)) }

-- the records that are left after one of a class whose records all have one length
module _ {k : Class} {n : ℕ} (kind : Sized k n) {f : Bytes} {m at i : ℕ} {c : Class} (p : Position f m at i c (rest_at f at))
    (more : is trl c ≡ false) (its : cls cwr22 (first_record (rest_at f at)) ≡ k) (e : ℕ) (q : e ≡ at + n + 2) where
  passed : Position f m e (i + 1) k (tail_of (rest_at f at))
  passed = step p more (next kind p.here more its e q)

  pub left_after : rest_at f e ≡ tail_of (rest_at f at)
  left_after = passed.here.left

  pub position-after : Position f m e (i + 1) k (rest_at f e)
  position-after = rw left_after passed

  -- what is known of them, as a call that begins with them says it
  pub known-after : (C : ℕ → List Bytes → Type 0) → C (i + 1 + length (rest_at f e)) (rest_at f e) → C m (tail_of (rest_at f at))
  known-after C x = subst (λ (l : List Bytes). C m l) left_after (subst (λ (j : ℕ). C j (rest_at f e)) position-after.left x)
