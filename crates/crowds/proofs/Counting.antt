-- Claims counted record by record: once a walk has come to a record, the rest of the file and the count so far decide. Assumes nothing.
use Prim.Native.Nat.{ℕ, suc, ◌+◌, ◌≤◌, ◌<◌}
use native.Mathlib.Omega.{arith}
use mathlib.Core.Path.{◌≡◌, refl, sym, ap, ◌∙◌}
use mathlib.Core.Bool.{Bool, true, false, cond, ◌&&◌, false≢true}
use mathlib.Core.Option.{Option, none, some}
use mathlib.Core.List.{List, [], ◌∷◌}
use lib.Dec.{ltb}
use lib.ListN.{length}
use borrow.Author.Tests.{lt-ltb, le-ltb}
use Rattle.format.specs.Bytes.{Bytes}
use Rattle.format.specs.Table.{Class, hdr, grh, head, detail, grt, trl, unknown}
use Rattle.format.specs.Cwr22.{cwr22}
use Rattle.format.specs.Checks.{is, cls, may_follow, check7, AlongFrom}
use Rattle.format.specs.Tree.{span, is_head, is_detail}
use Rattle.format.proofs.Logic.{is_T, is_true}
use Rattle.format.proofs.Tests.{by_cases}
use Rattle.format.proofs.Tree.{is→eq}
use Rattle.rules.specs.Records.{only}
use Rattle.rules.specs.Collection.{is_claim}
use Rattle.rules.specs.WithTerritories.{crowded_from}

-- the claims of the transaction whose details these records begin with
abbrev pub claims_ahead : List Bytes → ℕ
claims_ahead rs = length (only is_claim (span (is_detail cwr22) rs))

-- what is still to be told before record i, with the records rs left, where n claims were met since record h
abbrev pub decided : (room h n i : ℕ) → List Bytes → Option ℕ
decided room h n i rs = cond (ltb room (n + claims_ahead rs)) (some h) (crowded_from room i rs)

-- ---- details follow headers and details only

no-detail-after : (c : Class) → is head c ≡ false → is detail c ≡ false → may_follow c detail ≡ false
no-detail-after hdr h d = refl
no-detail-after grh h d = refl
no-detail-after head h d = absurd (false≢true (sym h))
no-detail-after detail h d = absurd (false≢true (sym d))
no-detail-after grt h d = refl
no-detail-after trl h d = refl
no-detail-after unknown h d = refl

none_ahead : (c : Class) → is head c ≡ false → is detail c ≡ false → (rs : List Bytes) → AlongFrom (check7 cwr22) c rs → claims_ahead rs ≡ 0
none_ahead c h d [] a = refl
none_ahead c h d (r ∷ rs) a =
    by_cases (is_detail cwr22 r)
    (λ e.
    let same = is→eq detail (cls cwr22 r) (is_T (is_detail cwr22 r) e) in
    let may = is_true (may_follow c (cls cwr22 r)) a.0 in
    absurd (false≢true (sym (no-detail-after c h d) ∙ ap (may_follow c) same ∙ may)))
    (λ e. rw e)

-- ---- one record more

one-claim : (b : Bool) (n : ℕ) (r : Bytes) (rs : List Bytes) → n + length (cond b (r ∷ rs) rs) ≡ cond b (n + 1) n + length rs
one-claim true n r rs = omega arith
one-claim false n r rs = refl

module _ (room h n i : ℕ) (r : Bytes) (rs : List Bytes) where
  -- a detail is no header
  on-detail : is_detail cwr22 r ≡ true → decided room h n i (r ∷ rs) ≡ decided room h (cond (is_claim r) (n + 1) n) (suc i) rs
  on-detail e =
      let no-head : is_head cwr22 r ≡ false = rw (← is→eq detail (cls cwr22 r) (is_T (is_detail cwr22 r) e)) in
      rw (e, no-head, one-claim (is_claim r) n r (only is_claim (span (is_detail cwr22) rs)))

  module _ (fits : n ≤ room) (placed : AlongFrom (check7 cwr22) (cls cwr22 r) rs) where
    begun : is_detail cwr22 r ≡ false
        → cond (is_head cwr22 r && ltb room (claims_ahead rs)) (some i) (crowded_from room (suc i) rs) ≡ decided room i 0 (suc i) rs
    begun e =
        let all : 0 + claims_ahead rs ≡ claims_ahead rs = omega arith in
        by_cases (is_head cwr22 r) (λ q. rw (q, all)) (λ q. rw (q, none_ahead (cls cwr22 r) q e rs placed, le-ltb room 0 (omega arith)))

    -- a record that is none ends the count, and begins one
    on-other : is_detail cwr22 r ≡ false → decided room h n i (r ∷ rs) ≡ decided room i 0 (suc i) rs
    on-other e = rw (e, le-ltb room (n + 0) (omega arith)) (begun e)

    on-record : decided room h n i (r ∷ rs)
        ≡ decided room (cond (is_detail cwr22 r) h i) (cond (is_detail cwr22 r) (cond (is_claim r) (n + 1) n) 0) (suc i) rs
    on-record =
        let after : Bool → Option ℕ = λ b. decided room (cond b h i) (cond b (cond (is_claim r) (n + 1) n) 0) (suc i) rs in
        by_cases (is_detail cwr22 r) (λ e. on-detail e ∙ ap after (sym e)) (λ e. on-other e ∙ ap after (sym e))

    -- as code has it: what the record is, the next number, and the records left
    pub one_more : (d c : Bool) (j : ℕ) (left : List Bytes) → d ≡ is_detail cwr22 r → c ≡ is_claim r → j ≡ suc i → left ≡ rs
        → decided room (cond d h i) (cond d (cond c (n + 1) n) 0) j left ≡ decided room h n i (r ∷ rs)
    one_more d c j left p q s t = rw (p, q, s, t) (sym on-record)

-- ---- the answers

pub too_many : (room h n i : ℕ) (rs : List Bytes) → room < n → decided room h n i rs ≡ some h
too_many room h n i rs less = rw (lt-ltb room (n + claims_ahead rs) (omega arith))

pub nothing-more : (room h n i : ℕ) (rs : List Bytes) → n ≤ room → rs ≡ [] → decided room h n i rs ≡ none
nothing-more room h n i rs fits e = rw (e, le-ltb room (n + 0) (omega arith))

pub nothing-counted : (room h i : ℕ) (rs : List Bytes) → AlongFrom (check7 cwr22) unknown rs → decided room h 0 i rs ≡ crowded_from room i rs
nothing-counted room h i rs placed = rw (none_ahead unknown refl refl rs placed, le-ltb room 0 (omega arith))
