-- The row of a type: it is the first of the code's rows, and says the class, the length and the spots that the format has for the type.
-- Assumes nothing.
use Prim.Native.Nat.{ℕ, zero, suc, ◌+◌, ◌<◌, ◌≤◌}
use native.Mathlib.Omega.{arith}
use mathlib.Core.Path.{◌≡◌, refl, sym, ap, ◌∙◌, subst}
use mathlib.Core.Bool.{Bool, true, false, not, cond, false≢true, ◌||◌}
use mathlib.Core.List.{List, [], ◌∷◌, map}
use lib.ListN.{length, get_or, take, length-take}
use lib.Seq.{take_all}
use lib.Dec.{eqb}
use borrow.Author.Tests.{eqb-true}
use Rattle.format.specs.Bytes.{Bytes, every, same_bytes, among}
use Rattle.format.specs.Table.{Class, hdr, grh, head, detail, grt, trl, unknown, known, Row as FormatRow, row, no_type, row_of, class_of, len_of}
use Rattle.format.specs.Cwr22.{rows22, cwr22}
use Rattle.format.specs.Checks.{is, cls}
use Rattle.format.specs.Stages.{stages, spots, begins}
use Rattle.kinds.specs.Rows.{class_for, class_in, code_row, kinds, row_for, type_of, no_row, first_row, spots_of, types_of, sort_among, sorts, sort_of, place_of, same_sort, of_party, of_claim}
use Rattle.kinds.specs.declared.Class.{Class as CodeClass}
use Rattle.kinds.specs.declared.Sort.{Sort}
use Rattle.kinds.specs.declared.Sort.TheVariants.{Nothing, Header, Publisher, Writer, Ewt, Ver, Per, Rec, Instrument, Misplaced, PublishersClaim, WritersClaim}
use Rattle.kinds.specs.declared.Row.{Row}
use Rattle.kinds.specs.contracts.Class as TheClass
use Rattle.kinds.specs.contracts.Sort as TheSort
use Rattle.kinds.specs.declared.Class.TheVariants.{Hdr, Grh, Head, Detail, Grt, Trl, Unknown}
use denote.Enum.Bare.{sameb}
use denote.Enum.Declared.{tag_of}
use Rattle.format.proofs.Tests.{by_cases, both, same→eq}
use Rattle.kinds.proofs.First.{has, distinct, only, short}
use Rattle.format.proofs.Spots.{types_pass, no-spots, begins-none}
use Rattle.kinds.proofs.Spots.{same_spots, same_spots→eq, no-sort-of}

code-unknown : code_row (no_type) ≡ no_row
unfolding spots begins stages sort_of
code-unknown = refl

-- ---- the first of the code's rows is the code's row of the format's first

pub first_three : (r : Bytes) → 3 ≤ length r → get_or r 0 0 ∷ get_or r 1 0 ∷ get_or r 2 0 ∷ [] ≡ take 3 r
first_three [] h = absurd (omega arith)
first_three (x ∷ []) h = absurd (omega arith)
first_three (x ∷ y ∷ []) h = absurd (omega arith)
first_three (x ∷ y ∷ z ∷ r) h = refl

-- the code's row keeps three bytes of a type: no type has more or fewer
three : FormatRow → Bool
three (row u n c) = eqb (length u) 3

type-kept : (u : Bytes) → length u ≡ 3 → (n : ℕ) (c : Class) → type_of (code_row (row u n c)) ≡ u
type-kept u h n c = first_three u (omega arith) ∙ take_all 3 u (omega arith)

first-is : (fs : List FormatRow) → every three fs ≡ true → (type : Bytes) → first_row (map code_row fs) type ≡ code_row (row_of fs type)
unfolding three
first-is [] q type = sym code-unknown
first-is (row u n c ∷ fs) q type =
    let p = both (eqb (length u) 3) (every three fs) q in
    ap (λ (v : Bytes). cond (same_bytes v type) (code_row (row u n c)) (first_row (map code_row fs) type)) (type-kept u (eqb-true (length u) 3 p.0) n c)
    ∙ by_cases (same_bytes u type) (λ e. rw e) (λ e. rw e (first-is fs p.1 type))

first-row : (type : Bytes) → first_row kinds type ≡ row_for type
unfolding kinds row_for rows22 three
first-row type = first-is rows22 refl type

distinct-kinds : distinct kinds ≡ true
unfolding kinds rows22 spots begins stages sort_of has distinct
distinct-kinds = refl

-- ---- the code's table, searched or hinted at

module _ (l : List Row) (table : l ≡ kinds) (type : Bytes) where
  pub searched : first_row l type ≡ row_for type
  searched = ap (λ (k : List Row). first_row k type) table ∙ first-row type

  pub hinted : (k : ℕ) → k < length l → (d : Row) → same_bytes (type_of (get_or l k d)) type ≡ true → get_or l k d ≡ row_for type
  hinted k inside d e = only type d l (ap distinct table ∙ distinct-kinds) k inside e ∙ searched

pub short_row : (r : Bytes) → length r < 3 → no_row ≡ row_for (take 3 r)
short_row r h = sym (short kinds (take 3 r) (rw length-take (omega arith))) ∙ first-row (take 3 r)

-- ---- class and length

-- the code's class of a row stands for the format's
code-class : (f : FormatRow) → class_in (code_row f).class ≡ class_of f
code-class (row type n hdr) = refl
code-class (row type n grh) = refl
code-class (row type n head) = refl
code-class (row type n detail) = refl
code-class (row type n grt) = refl
code-class (row type n trl) = refl
code-class (row type n unknown) = refl

code-length : (f : FormatRow) → (code_row f).length ≡ len_of f
code-length (row type n c) = refl

pub class-is : (r : Bytes) → class_in (row_for (take 3 r)).class ≡ cls cwr22 r
unfolding row_for rows22
class-is r = code-class (row_of rows22 (take 3 r))

pub length-len : (r : Bytes) → (row_for (take 3 r)).length ≡ cwr22.len (take 3 r)
unfolding row_for rows22
length-len r = code-length (row_of rows22 (take 3 r))

-- ---- spots

-- the columns hold all spots of a type: it has at most three, of one rank
fits : FormatRow → Bool
fits (row type n c) = same_spots (spots_of (code_row (row type n c))) (spots type)

all_fit : every fits rows22 ≡ true
unfolding rows22 fits same_spots spots begins stages sort_of
all_fit = refl

-- the row found for t is that of no type, or is of the type t and passes each test that all rows pass
module _ (C : FormatRow → Type 0) (p : FormatRow → Bool) (type : Bytes)
    (found : (n : ℕ) (c : Class) → p (row type n c) ≡ true → C (row type n c)) where
  pub row-cases : (fs : List FormatRow) → every p fs ≡ true → (row_of fs type ≡ no_type → C (no_type)) → C (row_of fs type)
  row-cases [] q none = none refl
  row-cases (row u n c ∷ fs) q none =
      let pq = both (p (row u n c)) (every p fs) q in
      by_cases (same_bytes u type)
      (λ e. rw (e, same→eq u type e) (found n c (rw (same→eq u type e) at pq.0)))
      (λ e. rw e (row-cases fs pq.1 (rw e at none)))

-- ---- what all rows of a class have in common

is-self : (k : Class) → is k k ≡ true
is-self hdr = refl
is-self grh = refl
is-self head = refl
is-self detail = refl
is-self grt = refl
is-self trl = refl
is-self unknown = refl

-- a row of class k passes the test
abbrev pub in_class : Class → (FormatRow → Bool) → FormatRow → Bool
in_class k p f = not (is k (class_of f)) || p f

-- what follows from the test holds of the row of each record of the class
pub of-class : (k : Class) (p : FormatRow → Bool) → every (in_class k p) rows22 ≡ true → is k unknown ≡ false
    → (C : FormatRow → Type 0) (r : Bytes)
    → cls cwr22 r ≡ k → ((n : ℕ) → p (row (take 3 r) n k) ≡ true → C (row (take 3 r) n k)) → C (row_of rows22 (take 3 r))
unfolding rows22
of-class k p all named C r h found =
    row-cases (λ (f : FormatRow). class_of f ≡ k → C f) (in_class k p) (take 3 r)
    (λ n c e q.
    subst (λ (d : Class). C (row (take 3 r) n d)) (sym q)
    (found n (rw (is-self k) at (subst (λ (d : Class). (not (is k d) || p (row (take 3 r) n d)) ≡ true) q e))))
    rows22 all
    (λ none q. absurd (false≢true (sym named ∙ ap (is k) q ∙ is-self k)))
    h

-- ---- types that are not there

-- each type of the stages is in the table, so a type that is not has no spot
listed : Bytes → Bool
listed type = known (class_of (row_of rows22 type))

stages-listed : every (types_pass listed) stages ≡ true
unfolding stages types_pass listed rows22
stages-listed = refl

module _ (type : Bytes) (none : row_of rows22 type ≡ no_type) where
  unlisted : listed type ≡ false
  unfolding listed
  unlisted = ap (λ (f : FormatRow). known (class_of f)) none

  unlisted-spots : spots type ≡ []
  unfolding spots
  unlisted-spots = no-spots listed type unlisted 1 stages stages-listed

  unlisted-begins : begins type ≡ false
  unfolding begins
  unlisted-begins = begins-none listed type unlisted stages stages-listed

pub stage-spots : (type : Bytes) → spots_of (row_for type) ≡ spots type
unfolding row_for fits
stage-spots type =
    row-cases (λ (f : FormatRow). spots_of (code_row f) ≡ spots type) fits type
    (λ n c e. same_spots→eq (spots_of (code_row (row type n c))) (spots type) e)
    rows22 all_fit
    (λ none. ap spots_of code-unknown ∙ sym (unlisted-spots type none))

pub alone-begins : (type : Bytes) → (row_for type).alone ≡ begins type
unfolding row_for
alone-begins type =
    row-cases (λ (f : FormatRow). (code_row f).alone ≡ begins type) fits type
    (λ n c e. refl)
    rows22 all_fit
    (λ none. ap (λ (r : Row). r.alone) code-unknown ∙ sym (unlisted-begins type none))

-- ---- sorts

sorts-listed : every (λ s. every listed (types_of s)) sorts ≡ true
unfolding listed rows22
sorts-listed = refl

pub sort-is : (type : Bytes) → (row_for type).sort ≡ sort_of type
unfolding row_for sort_of
sort-is type =
    row-cases (λ (f : FormatRow). (code_row f).sort ≡ sort_of type) fits type
    (λ n c e. refl)
    rows22 all_fit
    (λ none. ap (λ (r : Row). r.sort) code-unknown ∙ sym (no-sort-of listed type (unlisted type none) sorts sorts-listed))

-- a type is one of those of its sort, if it has one
module _ (type : Bytes) (s : Sort) (some : s ≡ Nothing → ⊥) where
  one-of : (ss : List Sort) → sort_among type ss ≡ s → among type (types_of s) ≡ true
  one-of [] e = absurd (some (sym e))
  one-of (x ∷ ss) e =
      by_cases (among type (types_of x)) (λ q. ap (λ (y : Sort). among type (types_of y)) (sym (rw q at e)) ∙ q) (λ q. one-of ss (rw q at e))

  pub of-sort : (kind : Row) → kind ≡ row_for type → kind.sort ≡ s → among type (types_of s) ≡ true
  unfolding sort_of
  of-sort kind its e = one-of sorts (sym (sort-is type) ∙ sym (ap (λ (r : Row). r.sort) its) ∙ e)

-- sorts at one place are one
at_place : ℕ → Sort
at_place n = get_or (Nothing ∷ sorts) n Nothing

at-place : (s : Sort) → at_place (place_of s) ≡ s
unfolding at_place
at-place Nothing = refl
at-place Header = refl
at-place Publisher = refl
at-place Writer = refl
at-place Ewt = refl
at-place Ver = refl
at-place Per = refl
at-place Rec = refl
at-place Instrument = refl
at-place Misplaced = refl
at-place PublishersClaim = refl
at-place WritersClaim = refl

pub same-sort→eq : (a b : Sort) → same_sort a b ≡ true → a ≡ b
same-sort→eq a b e = sym (at-place a) ∙ ap at_place (eqb-true (place_of a) (place_of b) e) ∙ at-place b

-- what == says of two sorts
same-tag : (s : Sort) → tag_of TheSort.the_type s ≡ place_of s
same-tag Nothing = refl
same-tag Header = refl
same-tag Publisher = refl
same-tag Writer = refl
same-tag Ewt = refl
same-tag Ver = refl
same-tag Per = refl
same-tag Rec = refl
same-tag Instrument = refl
same-tag Misplaced = refl
same-tag PublishersClaim = refl
same-tag WritersClaim = refl

pub same-is : (a b : Sort) → sameb TheSort.the_type a b ≡ same_sort a b
same-is a b = cc (same-tag a, same-tag b)

-- and of a class and a detail's
pub same-detail : (c : CodeClass) → sameb TheClass.the_type c Detail ≡ is detail (class_in c)
same-detail Hdr = refl
same-detail Grh = refl
same-detail Head = refl
same-detail Detail = refl
same-detail Grt = refl
same-detail Trl = refl
same-detail Unknown = refl

-- classes of the code that stand for one class are one
for-in : (c : CodeClass) → class_for (class_in c) ≡ c
for-in Hdr = refl
for-in Grh = refl
for-in Head = refl
for-in Detail = refl
for-in Grt = refl
for-in Trl = refl
for-in Unknown = refl

pub in-class : (a b : CodeClass) → class_in a ≡ class_in b → a ≡ b
in-class a b e = sym (for-in a) ∙ ap class_for e ∙ for-in b

-- ---- a claim is no party

-- a sort is one of two
one_of : {P : Type 0} (s a b : Sort) → (same_sort s a || same_sort s b) ≡ true → (s ≡ a → P) → (s ≡ b → P) → P
one_of s a b e f g = by_cases (same_sort s a) (λ t. f (same-sort→eq s a t)) (λ t. g (same-sort→eq s b (rw t at e)))

pub not-party : (s : Sort) → of_claim s ≡ true → of_party s ≡ false
not-party s e = one_of s PublishersClaim WritersClaim e (λ z. rw z) (λ z. rw z)

pub not-claim : (s : Sort) → of_party s ≡ true → of_claim s ≡ false
not-claim s e = one_of s Publisher Writer e (λ z. rw z) (λ z. rw z)
