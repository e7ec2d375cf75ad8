-- A pass over all records of a file that turns the entries of each transaction where its header stands, for entries of one width, whatever
-- a turn does: over the tree of the records it turns the entries of every transaction, and leaves all others. Assumes nothing.
use Prim.Native.Nat.{ℕ, suc, ◌+◌, ◌*◌}
use native.Mathlib.Nat.{add-zero}
use native.Mathlib.Omega.{arith}
use mathlib.Core.Path.{◌≡◌, refl, sym, ap, ◌∙◌}
use mathlib.Core.Bool.{true, false, cond}
use mathlib.Core.List.{List, [], ◌∷◌, ◌++◌, append_assoc, append-nil}
use lib.ListN.{length, length-append}
use Rattle.format.specs.Bytes.{Bytes, All}
use Rattle.format.specs.Doc.{Group, Transaction}
use Rattle.format.specs.Cwr22.{cwr22}
use Rattle.format.specs.Tree.{Tree, span, is_head, is_detail, records_in_t, records_in_g, leaves}
use Rattle.format.proofs.Branches.{Stops, span-all}
use Rattle.rules.specs.Verdicts.{joined}
use Rattle.collection.proofs.Leaves.{detail-no-head, outside, Transacted, Grouped, Classed, begun}

-- from record i on, with a turn at each header for its details
pub record Pass : Type 0 where
  pub width : ℕ
  pub turn : ℕ → List Bytes → Bytes → Bytes
  pub pass : ℕ → List Bytes → Bytes → Bytes
  pub none : (i : ℕ) (g : Bytes) → pass i [] g ≡ g
  pub one : (i : ℕ) (r : Bytes) (rs : List Bytes) (g : Bytes)
      → pass i (r ∷ rs) g ≡ pass (suc i) rs (cond (is_head cwr22 r) (turn i (span (is_detail cwr22) rs) g) g)

-- all entries of a tree: those of a transaction's records by its group, on either side those of GRH and GRT, and of the file's first and last
abbrev pub group_entries : (Group → Bytes) → (Group → Transaction → Bytes) → Group → Bytes
group_entries edge of g = edge g ++ (joined (of g) g.transactions ++ edge g)

abbrev pub file_entries : (Group → Bytes) → Bytes → (Group → Transaction → Bytes) → Tree → Bytes
file_entries edge ends of d = ends ++ (joined (group_entries edge of) d.groups ++ ends)

regroup : (e t j z : Bytes) → ((e ++ (t ++ e)) ++ j) ++ z ≡ e ++ (t ++ (e ++ (j ++ z)))
regroup e t j z = simp append_assoc

module _ (P : Pass) where
  -- over these records it makes b of a, wherever they stand
  pub record Makes (rs : List Bytes) (a b : Bytes) : Type 0 where
    pub long : length b ≡ length a
    pub makes : (i : ℕ) (before after : Bytes) → length before ≡ P.width * i → P.pass i rs (before ++ (a ++ after)) ≡ before ++ (b ++ after)

  -- a turn makes b of a
  pub record Turned (x : Transaction) (a b : Bytes) : Type 0 where
    pub old : length a ≡ P.width * suc (length x.details)
    pub new : length b ≡ P.width * suc (length x.details)
    pub turned : (i : ℕ) (before after : Bytes) → length before ≡ P.width * i
        → P.turn i x.details (before ++ (a ++ after)) ≡ before ++ (b ++ after)

  -- ---- along the records

  made_none : Makes [] [] []
  made_none = record { long = refl; makes = λ i before after e. P.none i (before ++ after) }

  -- past records that are no headers
  skip : (ds rs : List Bytes) → All (λ r. is_detail cwr22 r ≡ true) ds → (i : ℕ) (g : Bytes) → P.pass i (ds ++ rs) g ≡ P.pass (i + length ds) rs g
  skip [] rs h i g = ap (λ (n : ℕ). P.pass n rs g) (sym (add-zero i))
  skip (d ∷ ds) rs h i g =
      let e : suc i + length ds ≡ i + suc (length ds) = omega arith in
      P.one i d (ds ++ rs) g
      ∙ rw (detail-no-head d h.0) (skip ds rs h.1 (suc i) g)
      ∙ ap (λ (n : ℕ). P.pass n rs g) e

  -- the entries of the first records stay or are turned; the pass goes on after them
  past : (n : ℕ) {rs : List Bytes} {a b : Bytes} → Makes rs a b → (i : ℕ) (before front after : Bytes) → length before ≡ P.width * i
      → length front ≡ P.width * n → P.pass (i + n) rs (before ++ (front ++ (a ++ after))) ≡ before ++ (front ++ (b ++ after))
  past n {rs} {a} {b} m i before front after e q =
      let long : length (before ++ front) ≡ P.width * (i + n) = length-append before front ∙ omega (arith, e, q) in
      ap (P.pass (i + n) rs) (sym (append_assoc before front (a ++ after)))
      ∙ m.makes (i + n) (before ++ front) after long
      ∙ append_assoc before front (b ++ after)

  made-control : (r : Bytes) → is_head cwr22 r ≡ false → (entry : Bytes) → length entry ≡ P.width → {rs : List Bytes} {a b : Bytes}
      → Makes rs a b → Makes (r ∷ rs) (entry ++ a) (entry ++ b)
  made-control r h entry q {rs} {a} {b} m = record {
    long = omega (arith, length-append entry b, length-append entry a, m.long);
    makes = λ i before after e.
        let w : length entry ≡ P.width * 1 = omega (arith, q) in
        let next : suc i ≡ i + 1 = omega arith in
        P.one i r rs (before ++ ((entry ++ a) ++ after))
        ∙ rw (h, append_assoc entry a after, append_assoc entry b after, next) (past 1 m i before entry after e w);
  }

  made-transaction : (x : Transaction) → Transacted x → {old new : Bytes} → Turned x old new → (rs : List Bytes) → Stops (is_detail cwr22) rs
      → {a b : Bytes} → Makes rs a b → Makes (x.header ∷ x.details ++ rs) (old ++ a) (new ++ b)
  made-transaction x h {old} {new} t rs s {a} {b} m = record {
    long = omega (arith, length-append new b, length-append old a, m.long, t.old, t.new);
    makes = λ i before after e.
        let next : suc i + length x.details ≡ i + suc (length x.details) = omega arith in
        P.one i x.header (x.details ++ rs) (before ++ ((old ++ a) ++ after))
        ∙ rw (
          h.header,
          span-all (is_detail cwr22) x.details rs h.details s,
          append_assoc old a after,
          t.turned i before (a ++ after) e,
          skip x.details rs h.details (suc i) (before ++ (new ++ (a ++ after))),
          append_assoc new b after,
          next,
        )
        (past (suc (length x.details)) m i before new after e t.new);
  }

  -- ---- over a tree

  module _ (old new : Group → Transaction → Bytes) (turns : (g : Group) (x : Transaction) → Turned x (old g x) (new g x))
      (edge : Group → Bytes) (narrow : (g : Group) → length (edge g) ≡ P.width) (ends : Bytes) (end : length ends ≡ P.width) where
    made-transactions : (g : Group) (xs : List Transaction) → All Transacted xs → (rs : List Bytes) → Stops (is_detail cwr22) rs
        → {a b : Bytes} → Makes rs a b → Makes (records_in_t xs ++ rs) (joined (old g) xs ++ a) (joined (new g) xs ++ b)
    made-transactions g [] h rs s m = m
    made-transactions g (x ∷ xs) h rs s {a} {b} m =
        rw (
          append_assoc x.details (records_in_t xs) rs,
          append_assoc (old g x) (joined (old g) xs) a,
          append_assoc (new g x) (joined (new g) xs) b,
        )
        (made-transaction x h.0 (turns g x) (records_in_t xs ++ rs) (begun xs h.1 rs s) (made-transactions g xs h.1 rs s m))

    made-groups : (gs : List Group) → All Grouped gs → {rs : List Bytes} {a b : Bytes} → Makes rs a b
        → Makes (records_in_g gs ++ rs) (joined (group_entries edge old) gs ++ a) (joined (group_entries edge new) gs ++ b)
    made-groups [] h m = m
    made-groups (g ∷ gs) h {rs} {a} {b} m =
        let closed = outside g.closing h.0.closing in
        let rest = made-control g.closing closed.0 (edge g) (narrow g) (made-groups gs h.1 m) in
        let inside = made-transactions g g.transactions h.0.transactions (g.closing ∷ records_in_g gs ++ rs) closed.1 rest in
        rw (
          append_assoc (records_in_t g.transactions) (g.closing ∷ records_in_g gs) rs,
          regroup (edge g) (joined (old g) g.transactions) (joined (group_entries edge old) gs) a,
          regroup (edge g) (joined (new g) g.transactions) (joined (group_entries edge new) gs) b,
        )
        (made-control g.opening h.0.opening (edge g) (narrow g) inside)

    pub made-file : (d : Tree) → Classed d → Makes (leaves d) (file_entries edge ends old d) (file_entries edge ends new d)
    unfolding leaves
    made-file d h =
        let last = made-control d.trailer h.trailer ends end made_none in
        made-control d.header h.header ends end (made-groups d.groups h.groups (rw append-nil at last))
