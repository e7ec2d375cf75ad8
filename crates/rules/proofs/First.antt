-- What is claimed of the first transaction to look at (specs/Claims) holds. Assumes nothing.
use Prim.Native.Nat.{ℕ, ◌≤◌, ◌<◌}
use native.Mathlib.Omega.{arith}
use mathlib.Core.Path.{◌≡◌, refl, sym, ap, ◌∙◌, subst}
use mathlib.Core.Bool.{Bool, false≢true}
use mathlib.Core.Option.{Option, none, some}
use mathlib.Core.List.{List, ◌∷◌}
use lib.ListN.{length, length-append}
use Rattle.format.specs.Bytes.{Bytes}
use Rattle.format.specs.Tree.{Tree}
use Rattle.format.specs.Structure.{Answer, refused, passed, most_records}
use Rattle.format.specs.Lent.{in_room}
use Rattle.format.specs.Claims.{Near}
use Rattle.format.proofs.Answers.{By, refused-by}
use Rattle.rules.specs.Tables.{Tables}
use Rattle.rules.specs.Records.{any}
use Rattle.rules.specs.Verdicts.{file_findings}
use Rattle.rules.specs.Outcome.{enough, admission, answer, content, check}
use Rattle.rules.specs.First.{is_grave, of_each, first_at, first_rejected, refused_with, nothing, at, seen, let_in, first}
use Rattle.rules.specs.Claims.{sets_in, sets_by_transaction, Firsts}
use Rattle.rules.proofs.Each.{findings-all, findings-each}
use Rattle.rules.proofs.Outcomes.{admitted, admission-near, admission-by, room-else, passed-admitted, checks}
use Rattle.rules.proofs.Found.{Found, Searched, searched, own-passes}
use Rattle.rules.proofs.OwnSets.{own_sets, grave-file, few-own}
use Rattle.rules.proofs.ReadOff.{small-file, same_first}

-- as a walk over the transactions finds it
pub first-own : (tables : Tables) (t : ℕ) (d : Tree) → first_rejected d (file_findings tables t d) ≡ first_at (any is_grave) (sets_by_transaction tables t d)
unfolding first_rejected
first-own tables t d = ap (first_at (any is_grave)) (own_sets tables t d)

-- ---- the outcome taken apart

let-refused : (x : Answer) (o : Option ℕ) (a : Answer) → let_in x o ≡ refused_with a → (n : ℕ) × (i : ℕ) × (x ≡ refused n i) × (a ≡ refused n i)
let-refused (refused n i) o a e = (n, i, refl, cc)
let-refused (passed g m n) none a e = let z : ◌≡◌ {A = ℕ} 0 1 = cc in absurd (omega arith)
let-refused (passed g m n) (some k) a e = let z : ◌≡◌ {A = ℕ} 0 1 = cc in absurd (omega arith)

let-nothing : (x : Answer) (o : Option ℕ) → let_in x o ≡ nothing → o ≡ none
let-nothing (refused n i) o e = let z : ◌≡◌ {A = ℕ} 0 1 = cc in absurd (omega arith)
let-nothing (passed g m n) none e = refl
let-nothing (passed g m n) (some k) e = let z : ◌≡◌ {A = ℕ} 0 1 = cc in absurd (omega arith)

let-at : (x : Answer) (o : Option ℕ) (k : ℕ) → let_in x o ≡ at k → (g : ℕ) × (m : ℕ) × (n : ℕ) × (x ≡ passed g m n) × (o ≡ some k)
let-at (refused n i) o k e = let z : ◌≡◌ {A = ℕ} 0 1 = cc in absurd (omega arith)
let-at (passed g m n) none k e = let z : ◌≡◌ {A = ℕ} 0 1 = cc in absurd (omega arith)
let-at (passed g m n) (some j) k e = (g, m, n, refl, cc)

module _ (tables : Tables) (t : ℕ) (f : Bytes) where
  abbrev pub sets : List (List Bool)
  sets = file_findings tables t (content f)

  abbrev pub found : Option ℕ
  found = first_rejected (content f) sets

  pub first-refused : (n i : ℕ) → admission tables t f ≡ refused n i → first tables t f ≡ refused_with (refused n i)
  unfolding first
  first-refused n i e = ap (λ (a : Answer). let_in a found) e

  pub first-let-in : (k m n : ℕ) → admission tables t f ≡ passed k m n → first tables t f ≡ seen found
  unfolding first
  first-let-in k m n e = ap (λ (a : Answer). let_in a found) e

  -- what the search over the transactions' own sets comes to
  outcome : Searched (any is_grave) (sets_by_transaction tables t (content f)) found
  unfolding first_rejected
  outcome =
      subst (λ l. Searched (any is_grave) l (first_at (any is_grave) (of_each (content f) sets))) (own_sets tables t (content f))
      (searched (any is_grave) (of_each (content f) sets))

  is_found : (k : ℕ) → first tables t f ≡ at k → Found (any is_grave) (sets_by_transaction tables t (content f)) k
  unfolding first
  is_found k e =
      let (_, _, _, _, o) = let-at (admission tables t f) found k e in
      subst (Searched (any is_grave) (sets_by_transaction tables t (content f))) o outcome

  is-near : (k : ℕ) → first tables t f ≡ at k → k < most_records
  unfolding first
  is-near k e =
      let (g, m, n, a, _) = let-at (admission tables t f) found k e in
      let r = is_found k e in
      let many = ap length r.split ∙ length-append r.before (r.own ∷ r.after) in
      let few : n ≤ most_records = subst Near a (admission-near tables t f) in
      let all = sym (findings-all tables t (content f)) ∙ findings-each f g m n (admitted tables t f g m n a).1 tables t in
      omega (arith, r.place, many, few-own tables t (content f), all, few)

  is_read : (v g : Bytes) (k m n : ℕ) → (check tables t f v g).answer ≡ passed k m n
      → first tables t f ≡ seen (first_rejected (content f) (sets_in n (check tables t f v g).findings))
  unfolding check
  is_read v g k m n e =
      let front = (checks.entries tables t f v g k m n e).1 in
      let count = (checks.one_each tables t f v g k m n e).1 in
      first-let-in k m n (passed-admitted tables t f v g k m n e).0
      ∙ ap seen (sym (same_first sets n (check tables t f v g).findings count front (small-file tables t 64 (omega arith) (content f)) (content f)))

  by-1-to-10 : By (λ n. (1 ≤ n) × (n ≤ 10)) (admission tables t f)
  by-1-to-10 = admission-by (λ n. (1 ≤ n) × (n ≤ 10)) tables t f (λ e. (omega arith, omega arith)) (omega arith)

-- ---- the claims

pub firsts : Firsts
unfolding first check answer
firsts = record {
  own_sets = own_sets;
  read_off = is_read;
  refused_as = λ tables t f v g a e.
      let (n, i, x, b) = let-refused (admission tables t f) (found tables t f) a e in
      ap (in_room (enough (length v) (length g))) x ∙ sym b;
  as_refused = λ tables t f v g n i e h.
      first-refused tables t f n i
      (room-else (enough (length v) (length g)) (admission tables t f) (refused n i) e (λ q. let same : n ≡ 11 = cc in h same));
  never_11 = λ tables t f a e.
      let (n, i, x, b) = let-refused (admission tables t f) (found tables t f) a e in
      let (low, high) = refused-by (λ k. (1 ≤ k) × (k ≤ 10)) n i (by-1-to-10 tables t f) x in
      (n, i, b, low, high);
  no_record = λ tables t f e.
      let o = let-nothing (admission tables t f) (found tables t f) e in
      grave-file tables t (content f) ∙ subst (Searched (any is_grave) (sets_by_transaction tables t (content f))) o (outcome tables t f);
  named = λ tables t f k e.
      let r = is_found tables t f k e in
      record {
        before = r.before;
        after = r.after;
        own = r.own;
        split = r.split;
        place = r.place;
        none_before = r.none_before;
        grave = r.passes;
      };
  only_own = λ tables t f before after own e h a.
      let r = is_found tables t f (length before) a in
      false≢true (sym h ∙ own-passes (any is_grave) before after own (rw e at r));
  near = is-near;
}
