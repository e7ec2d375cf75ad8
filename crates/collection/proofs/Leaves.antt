-- The classes of the records of a file that passes, by their places in its tree, and the transactions found among its records. Assumes nothing.
use Prim.Native.Nat.{ℕ}
use mathlib.Core.Path.{◌≡◌, refl, sym, ap, ◌∙◌}
use mathlib.Core.Bool.{Bool, true, false, false≢true, ◌||◌}
use mathlib.Core.List.{List, [], ◌∷◌, ◌++◌, append_assoc, append-nil}
use lib.Dec.{T}
use Rattle.format.specs.Bytes.{Bytes, All}
use Rattle.format.specs.Doc.{Group, Transaction}
use Rattle.format.specs.Table.{Class, hdr, grh, head, detail, trl, unknown}
use Rattle.format.specs.Cwr22.{rows22, cwr22}
use Rattle.format.specs.Lines.{lines}
use Rattle.format.specs.Checks.{is, cls, check7, AlongFrom, Along}
use Rattle.format.specs.Structure.{passed, judged, structure, first_record}
use Rattle.format.specs.Numbering.{records_in}
use Rattle.format.specs.Tree.{Tree, span, after, last_of, is_grh, is_head, is_detail, is_inside, transactions_in, groups_in}
use Rattle.format.specs.Tree.{tree, records_in_t, records_in_g, leaves}
use Rattle.format.proofs.Logic.{is_T, is_true}
use Rattle.format.proofs.Tests.{by_cases}
use Rattle.format.proofs.Tree.{is→eq}
use Rattle.format.proofs.Answers.{file-read, answer-judged}
use Rattle.format.proofs.Branches.{Stops, span-all, tree-leaves}
use Rattle.rules.specs.Verdicts.{joined}
use Rattle.rules.specs.Territories.{Territory}
use Rattle.rules.specs.Outcome.{content}
use Rattle.rules.specs.WithTerritories.{over_among, file_over}

-- ---- classes

-- a record of a class that is no header's
no-head : (c : Class) → is head c ≡ false → (r : Bytes) → is c (cls cwr22 r) ≡ true → is_head cwr22 r ≡ false
no-head c e r q = rw (← is→eq c (cls cwr22 r) (is_T (is c (cls cwr22 r)) q)) e

pub head-no-detail : (r : Bytes) → is_head cwr22 r ≡ true → is_detail cwr22 r ≡ false
head-no-detail r e = rw (← is→eq head (cls cwr22 r) (is_T (is_head cwr22 r) e))

pub detail-no-head : (r : Bytes) → is_detail cwr22 r ≡ true → is_head cwr22 r ≡ false
detail-no-head r e = no-head detail refl r e

-- neither of what stands inside a group
pub outside : (r : Bytes) → is_inside cwr22 r ≡ false → (is_head cwr22 r ≡ false) × (is_detail cwr22 r ≡ false)
outside r e = neither (is_head cwr22 r) (is_detail cwr22 r) e
  where
    neither : (a b : Bool) → (a || b) ≡ false → (a ≡ false) × (b ≡ false)
    neither true b e = absurd (false≢true (sym e))
    neither false b e = (refl, e)

-- ---- by their places in a tree

pub record Transacted (x : Transaction) : Type 0 where
  pub header : is_head cwr22 x.header ≡ true
  pub details : All (λ r. is_detail cwr22 r ≡ true) x.details

pub record Grouped (g : Group) : Type 0 where
  pub opening : is_head cwr22 g.opening ≡ false
  pub transactions : All Transacted g.transactions
  pub closing : is_inside cwr22 g.closing ≡ false

pub record Classed (d : Tree) : Type 0 where
  pub header : is_head cwr22 d.header ≡ false
  pub groups : All Grouped d.groups
  pub trailer : is_head cwr22 d.trailer ≡ false

spanned : (p : Bytes → Bool) (rs : List Bytes) → All (λ r. p r ≡ true) (span p rs)
spanned p [] = tt
spanned p (r ∷ rs) = by_cases (p r) (λ e. rw e (e, spanned p rs)) (λ e. rw e tt)

transacted : (rs : List Bytes) → All Transacted (transactions_in cwr22 rs)
transacted [] = tt
transacted (r ∷ rs) =
    by_cases (is_head cwr22 r)
    (λ e. rw e (record { header = e; details = spanned (is_detail cwr22) rs }, transacted rs))
    (λ e. rw e (transacted rs))

ended : (rs : List Bytes) → is_inside cwr22 (first_record (after (is_inside cwr22) rs)) ≡ false
unfolding rows22
ended [] = refl
ended (r ∷ rs) = by_cases (is_inside cwr22 r) (λ e. rw e (ended rs)) (λ e. rw e e)

grouped : (rs : List Bytes) → All Grouped (groups_in cwr22 rs)
grouped [] = tt
grouped (r ∷ rs) =
    by_cases (is_grh cwr22 r)
    (λ e. rw e (
      record { opening = no-head grh refl r e; transactions = transacted (span (is_inside cwr22) rs); closing = ended rs },
      grouped rs,
    ))
    (λ e. rw e (grouped rs))

-- the last record is TRL
last-trl : (c : Class) (r : Bytes) (rs : List Bytes) → AlongFrom (check7 cwr22) c (r ∷ rs) → T (is trl (cls cwr22 (last_of (r ∷ rs))))
last-trl c r [] h = h.1
last-trl c r (s ∷ rs) h = last-trl (cls cwr22 r) s rs h.1

classed : (rs : List Bytes) → Along (check7 cwr22) rs → Classed (tree cwr22 rs)
unfolding tree
classed [] h = absurd h
classed (r ∷ rs) h = record {
  header = no-head hdr refl r (is_true (is hdr (cls cwr22 r)) h.0);
  groups = grouped (r ∷ rs);
  trailer = no-head trl refl (last_of (r ∷ rs)) (is_true (is trl (cls cwr22 (last_of (r ∷ rs)))) (last-trl unknown r rs h));
}

-- a file that passes
module _ (f : Bytes) (k m n : ℕ) (e : structure cwr22 f ≡ passed k m n) where
  placed : Along (check7 cwr22) (records_in (lines f))
  unfolding structure
  placed =
      let r = file-read (judged cwr22) f k m n e in
      rw r.is-lines (answer-judged cwr22 r.rs k m n r.is-judged).in_place.seven

  pub classes : Classed (content f)
  classes = classed (records_in (lines f)) placed

  pub same_leaves : leaves (content f) ≡ records_in (lines f)
  same_leaves = tree-leaves cwr22 (records_in (lines f)) placed

-- ---- transactions among the leaves

-- no detail stands first where a transaction begins
pub begun : (xs : List Transaction) → All Transacted xs → (rs : List Bytes) → Stops (is_detail cwr22) rs → Stops (is_detail cwr22) (records_in_t xs ++ rs)
begun [] h rs s = s
begun (x ∷ xs) h rs s = head-no-detail x.header h.0.header

skipped : (ds rs : List Bytes) → All (λ r. is_detail cwr22 r ≡ true) ds → transactions_in cwr22 (ds ++ rs) ≡ transactions_in cwr22 rs
skipped [] rs h = refl
skipped (d ∷ ds) rs h = rw (detail-no-head d h.0) (skipped ds rs h.1)

in-transactions : (xs : List Transaction) → All Transacted xs → (rs : List Bytes) → Stops (is_detail cwr22) rs
    → transactions_in cwr22 (records_in_t xs ++ rs) ≡ xs ++ transactions_in cwr22 rs
in-transactions [] h rs s = refl
in-transactions (x ∷ xs) h rs s =
    let after = records_in_t xs ++ rs in
    rw (
      append_assoc x.details (records_in_t xs) rs,
      h.0.header,
      span-all (is_detail cwr22) x.details after h.0.details (begun xs h.1 rs s),
      skipped x.details after h.0.details,
      in-transactions xs h.1 rs s,
    )

in-groups : (gs : List Group) → All Grouped gs → (rs : List Bytes)
    → transactions_in cwr22 (records_in_g gs ++ rs) ≡ joined (λ (g : Group). g.transactions) gs ++ transactions_in cwr22 rs
in-groups [] h rs = refl
in-groups (g ∷ gs) h rs =
    let closed = outside g.closing h.0.closing in
    let after = g.closing ∷ records_in_g gs ++ rs in
    rw (
      h.0.opening,
      append_assoc (records_in_t g.transactions) (g.closing ∷ records_in_g gs) rs,
      in-transactions g.transactions h.0.transactions after closed.1,
      closed.0,
      in-groups gs h.1 rs,
      append_assoc g.transactions (joined (λ (x : Group). x.transactions) gs) (transactions_in cwr22 rs),
    )

in-leaves : (d : Tree) → Classed d → transactions_in cwr22 (leaves d) ≡ joined (λ (g : Group). g.transactions) d.groups
unfolding leaves
in-leaves d h =
    rw (h.header, in-groups d.groups h.groups (d.trailer ∷ []), h.trailer) (append-nil (joined (λ (g : Group). g.transactions) d.groups))

-- the transactions of a file that passes are those of its groups, one group after the other
pub transactions-all : (f : Bytes) (k m n : ℕ) → structure cwr22 f ≡ passed k m n
    → transactions_in cwr22 (records_in (lines f)) ≡ joined (λ (g : Group). g.transactions) (content f).groups
transactions-all f k m n e = ap (transactions_in cwr22) (sym (same_leaves f k m n e)) ∙ in-leaves (content f) (classes f k m n e)

-- so the first territory that is over is found among them
pub over-all : (T : List Territory) (t : ℕ) (f : Bytes) (k m n : ℕ) → structure cwr22 f ≡ passed k m n
    → file_over T t (content f) ≡ over_among T t 0 (transactions_in cwr22 (records_in (lines f)))
unfolding file_over
over-all T t f k m n e = ap (over_among T t 0) (sym (transactions-all f k m n e))
