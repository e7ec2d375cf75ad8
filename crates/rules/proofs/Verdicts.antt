-- 0 is the least verdict, that of records without a finding, and 4 the largest. Assumes nothing.
use Prim.Native.Nat.{ℕ, zero, suc, ◌+◌, ◌≤◌, ◌<◌}
use native.Mathlib.Omega.{arith}
use mathlib.Core.Path.{◌≡◌, refl, sym, ◌∙◌}
use mathlib.Core.Bool.{Bool, true, false, cond, ◌&&◌}
use mathlib.Core.Option.{Option, none, some}
use mathlib.Core.List.{List, [], ◌∷◌, ◌++◌, map}
use native.Mathlib.Nat.{not-suc-le-zero}
use lib.Dec.{leb, leb-zero, eqb}
use lib.ListN.{length, get_or}
use borrow.Author.Tests.{leb-true, eqb-true, eqb-false}
use Rattle.format.specs.Bytes.{Bytes, All}
use Rattle.format.specs.Doc.{Group, Transaction}
use Rattle.format.specs.Tree.{Tree}
use Rattle.format.proofs.Logic.{All-append}
use Rattle.format.proofs.Tests.{by_cases, both}
use Rattle.rules.specs.Tables.{Tables}
use Rattle.rules.specs.Records.{any}
use Rattle.rules.specs.Findings.{Level, FR, RR, TR, GR, level, verdict, verdict_of, larger, worst_from, worst}
use Rattle.rules.specs.Works.{named_type, transaction_findings}
use Rattle.rules.specs.Verdicts.{joined, rejects, raised, is_stray, transaction_verdicts, transaction_verdicts_by, group_verdicts, group_verdicts_by, file_verdicts, file_verdicts_by}
use Rattle.rules.specs.Sheet.{counts_by_verdict}
use Rattle.rules.specs.Claims.{sum}
use Rattle.rules.proofs.Joined.{joined-all}
use Rattle.rules.proofs.Counts.{larger-max}

pub larger-zero : (x : ℕ) → larger 0 x ≡ x
larger-zero x = rw (leb-zero x)

-- ---- 0 where no finding holds

-- each of the findings below k brings a verdict
abbrev each_brings : ℕ → Bool
each_brings zero = true
each_brings (suc k) = leb 1 (verdict_of (level k)) && each_brings k

brings : (k n : ℕ) → each_brings k ≡ true → n < k → 1 ≤ verdict_of (level n)
brings zero n e h = absurd (not-suc-le-zero h)
brings (suc k) n e h =
    let (last, others) = both (leb 1 (verdict_of (level k))) (each_brings k) e in
    by_cases (eqb n k)
    (λ q. rw (eqb-true n k q) (leb-true 1 (verdict_of (level k)) last))
    (λ q. brings k n others (let ne = eqb-false n k q in omega (arith, h, ne)))

all-bring : each_brings 47 ≡ true
unfolding level
all-bring = refl

-- so that what has verdict 0 carries none
pub no-finding : (n : ℕ) (set : List Bool) → n + length set ≤ 47 → worst_from n set ≡ 0 → (k : ℕ) → get_or set k false ≡ false
no-finding n [] h e k = refl
no-finding n (true ∷ set) h e k =
    absurd (omega (arith, brings 47 n all-bring (omega (arith, h)), larger-max (verdict_of (level n)) (worst_from (suc n) set), e))
no-finding n (false ∷ set) h e zero = refl
no-finding n (false ∷ set) h e (suc k) = no-finding (suc n) set (omega (arith, h)) (sym (larger-zero (worst_from (suc n) set)) ∙ e) k

-- ---- at most 4

abbrev pub AtMost4 : ℕ → Type 0
AtMost4 v = v ≤ 4

of-option : (o : Option Level) → AtMost4 (verdict_of o)
of-option none = omega arith
of-option (some FR) = omega arith
of-option (some RR) = omega arith
of-option (some TR) = omega arith
of-option (some GR) = omega arith

choice-most : (b : Bool) {m n : ℕ} → AtMost4 m → AtMost4 n → AtMost4 (cond b m n)
choice-most true h k = h
choice-most false h k = k

larger-most : {m n : ℕ} → AtMost4 m → AtMost4 n → AtMost4 (larger m n)
larger-most {m} {n} h k = choice-most (leb m n) k h

pub worst-most : (n : ℕ) (set : List Bool) → AtMost4 (worst_from n set)
worst-most n [] = omega arith
worst-most n (b ∷ set) = larger-most (choice-most b (of-option (level n)) (omega arith)) (worst-most (suc n) set)

pub worsts-most : (sets : List (List Bool)) → All AtMost4 (map worst sets)
unfolding worst
worsts-most [] = tt
worsts-most (set ∷ sets) = (worst-most 0 set, worsts-most sets)

raised-most : {least : ℕ} → AtMost4 least → (vs : List ℕ) → All AtMost4 vs → All AtMost4 (raised least vs)
unfolding raised
raised-most h [] k = tt
raised-most h (v ∷ vs) k = (larger-most h k.0, raised-most h vs k.1)

-- between two records that have no findings
pub between : (vs : List ℕ) → All AtMost4 vs → All AtMost4 (0 ∷ vs ++ 0 ∷ [])
between vs h = (omega arith, All-append AtMost4 vs (0 ∷ []) h (omega arith, tt))

module _ (tables : Tables) (t : ℕ) where
  pub transaction-most : (named : Bytes) (x : Transaction) → All AtMost4 (transaction_verdicts tables t named x)
  unfolding transaction_verdicts_by
  transaction-most named x =
      let sets = transaction_findings tables t named x in
      raised-most (choice-most (any rejects sets) {m = verdict TR} {n = 0} (omega arith) (omega arith)) (map worst sets) (worsts-most sets)

  group-most : (g : Group) → All AtMost4 (group_verdicts tables t g)
  unfolding group_verdicts_by
  group-most g =
      let named = named_type g.opening in
      let inside = joined (transaction_verdicts tables t named) g.transactions in
      raised-most (choice-most (is_stray g) {m = verdict GR} {n = 0} (omega arith) (omega arith)) (0 ∷ inside ++ 0 ∷ [])
      (between inside (joined-all AtMost4 (transaction_verdicts tables t named) (transaction-most named) g.transactions))

  pub verdicts-most : (d : Tree) → All AtMost4 (file_verdicts tables t d)
  unfolding file_verdicts_by
  verdicts-most d = between (joined (group_verdicts tables t) d.groups) (joined-all AtMost4 (group_verdicts tables t) group-most d.groups)

-- ---- so each has one of five

pub five : (vs : List ℕ) → All AtMost4 vs → sum (counts_by_verdict vs) ≡ length vs
unfolding counts_by_verdict
five [] h = refl
five (zero ∷ vs) h = omega (arith, five vs h.1)
five (suc zero ∷ vs) h = omega (arith, five vs h.1)
five (suc (suc zero) ∷ vs) h = omega (arith, five vs h.1)
five (suc (suc (suc zero)) ∷ vs) h = omega (arith, five vs h.1)
five (suc (suc (suc (suc zero))) ∷ vs) h = omega (arith, five vs h.1)
five (suc (suc (suc (suc (suc v)))) ∷ vs) h = absurd (omega (arith, h.0))
