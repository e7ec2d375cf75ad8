-- The fields of a claim record, and its entry. Assumes nothing.
use Prim.Native.Nat.{ℕ, ◌+◌, ◌-◌, ◌≤◌}
use native.Mathlib.Omega.{arith}
use mathlib.Core.Path.{◌≡◌, sym, ◌∙◌}
use mathlib.Core.Bool.{Bool, true, false, cond, not, ◌&&◌, ◌||◌}
use mathlib.Core.List.{List, [], ◌∷◌}
use lib.Dec.{eqb, ltb}
use lib.ListN.{length}
use borrow.Author.Tests.{le-leb}
use Rattle.format.specs.Bytes.{Bytes}
use Rattle.format.specs.Fields.{field_of, are_digits, number_of}
use Rattle.format.proofs.Tests.{by_cases, both}
use Rattle.rules.specs.Values.{share_of, bad_share}
use Rattle.rules.specs.Totals.{PR, MR, SR}
use Rattle.rules.specs.Territories.{Territory, codes_of}
use Rattle.rules.specs.Collection.{is_publishers_claim, is_claim, claim_field, collected, mark, claimed, is48}
use Rattle.values.specs.declared.Share.{Share}
use Rattle.territories.specs.Positions.{place_of}
use Rattle.territories.proofs.Laws.{among-place, length-codes}
use Rattle.edits.proofs.Fields.{one_same}
use Rattle.claims.specs.Zeros.{no_claim}
use Rattle.claims.specs.Entries.{entry_of}
use Rattle.parties.specs.Records.{Reads}

-- ---- a field by its place after the shares' start

pub field-here : (b : Bool) (on size : ℕ) (r : Bytes) → is_publishers_claim r ≡ b
    → field_of (cond b 35 29 + on) size r ≡ claim_field (35 + on) (29 + on) size r
field-here true on size r e = rw e
field-here false on size r e = rw e

pub room : (b : Bool) (on size n : ℕ) → n ≡ cond b 58 52 → on + size ≤ 20 → (1 ≤ cond b 35 29 + on) × (cond b 35 29 + on - 1 + size ≤ n)
room true on size n e h = (omega arith, omega arith)
room false on size n e h = (omega arith, omega arith)

-- no five digits write more than the most, so that a bad share is one that isn't digits
pub reads : (f : Bytes) (s : Share) → s.counts ≡ share_of f → s.counts ≤ 99999 → s.bad ≡ bad_share 99999 f → Reads f s
unfolding share_of bad_share
reads f s c few b =
    by_cases (are_digits f)
    (λ e.
    let n : s.counts ≡ number_of f = rw e at c in
    record { right = rw (b, e, le-leb (number_of f) 99999 (omega (arith, n, few))); counts = λ _. n; few = few })
    (λ e. record { right = rw (b, e); counts = λ y. c ∙ rw y; few = few })

-- ---- its entry

module _ (T : List Territory) (r : Bytes) (claim : is_claim r ≡ true) (place count m : ℕ) (pr mr sr : Share)
    (placed : place ≡ place_of (claimed r) (codes_of T)) (counted : count ≡ length T) (marked : mark r ≡ m ∷ [])
    (reads-pr : Reads (collected PR r) pr) (reads-mr : Reads (collected MR r) mr) (reads-sr : Reads (collected SR r) sr) where
  abbrev passes : Bool
  passes = ltb place count && (eqb 73 m || eqb 69 m) && not pr.bad && not mr.bad && not sr.bad

  coded : ltb (place_of (claimed r) (codes_of T)) (length (codes_of T)) ≡ ltb place count
  coded = rw (length-codes T, placed, counted)

  fails-48 : is48 T r ≡ not passes
  unfolding is48
  fails-48 =
      rw (claim, among-place (claimed r) (codes_of T), coded, marked, one_same 73 m, one_same 69 m, ← reads-pr.right, ← reads-mr.right, ← reads-sr.right)

  pub entry-right : (party : ℕ) → passes ≡ true
      → record { party = party; code = place; mark = m; pr = pr.counts; mr = mr.counts; sr = sr.counts } ≡ entry_of T party r
  entry-right party e =
      let two = ltb place count && (eqb 73 m || eqb 69 m) in
      let (four, s) = both (two && not pr.bad && not mr.bad) (not sr.bad) e in
      let (three, q) = both (two && not pr.bad) (not mr.bad) four in
      let (_, p) = both two (not pr.bad) three in
      rw (
        fails-48,
        e,
        ← placed,
        marked,
        ← reads-pr.counts (sym reads-pr.right ∙ p),
        ← reads-mr.counts (sym reads-mr.right ∙ q),
        ← reads-sr.counts (sym reads-sr.right ∙ s),
      )

  pub entry-wrong : (party : ℕ) → passes ≡ false → no_claim ≡ entry_of T party r
  entry-wrong party e = rw (fails-48, e)
