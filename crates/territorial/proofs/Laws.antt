-- Where a check with a territory table stands: what is known of a transaction in doubt, and what it has come to where none is left. Assumes
-- nothing.
use Prim.Native.Nat.{ℕ, suc, ◌≤◌}
use native.Mathlib.Omega.{arith}
use native.Mathlib.Nat.{zero-add}
use mathlib.Core.Path.{◌≡◌, refl, ap, ◌∙◌}
use mathlib.Core.Bool.{true, false}
use mathlib.Core.List.{List, [], ◌∷◌, ◌++◌, append-nil}
use lib.ListN.{length, drop, replicate}
use Rattle.format.specs.Bytes.{Bytes}
use Rattle.format.specs.Cwr22.{cwr22}
use Rattle.format.specs.Structure.{most_records}
use Rattle.format.specs.Lent.{splice}
use Rattle.format.specs.Tree.{span, is_detail}
use Rattle.format.proofs.Tests.{by_cases}
use Rattle.rules.specs.Tables.{Tables}
use Rattle.rules.specs.Records.{only}
use Rattle.rules.specs.Territories.{Territory, territories_in}
use Rattle.rules.specs.Collection.{is_party, is_claim}
use Rattle.rules.specs.Verdicts.{finding_bytes, file_findings_by, file_verdicts_by}
use Rattle.rules.specs.Outcome.{enough, content}
use Rattle.rules.specs.WithTerritories.{nowhere, Claimed as RulesClaimed, claimed_findings, answer_with, claimed_by, check_claims}
use Rattle.std.specs.Prelude.{Option, None, Some, Result, Ok}
use Rattle.std.specs.Result.{IsErrAnd}
use Rattle.std.proofs.lemmas.Result.{err_from_is_err_and}
use Rattle.answers.specs.declared.Refusal.{Refusal}
use Rattle.answers.specs.Numbers.{answer_of, refused_of}
use Rattle.transactions.specs.Walk.{rest_at}
use Rattle.transactions.proofs.Gone.{length-parted}
use Rattle.claims.specs.declared.Claim.{Claim}
use Rattle.claims.specs.Zeros.{no_claim}
use Rattle.claims.specs.Entries.{entries_from}
use Rattle.parties.specs.Ahead.{entries_at}
use Rattle.collection.specs.declared.Sought.{Sought}
use Rattle.collection.specs.declared.Over.{Over}
use Rattle.collection.specs.Walk.{or_over, or_found}
use Rattle.collection.proofs.Known.{entries-fewer}
use Rattle.territorial.specs.declared.Claimed.{Claimed}
use Rattle.territorial.specs.Promises.{over_of, outcome, Checked}
use Rattle.territorial.specs.Progress.{Going, Doubt}

-- no more entries than claims
entries-of-claims : (T : List Territory) (p : ℕ) (ds : List Bytes) → length (entries_from T p ds) ≤ length (only is_claim ds)
entries-of-claims T p [] = omega arith
entries-of-claims T p (d ∷ ds) =
    by_cases (is_party d)
    (λ i. rw i (by_cases (is_claim d) (λ c. rw c (omega (arith, entries-of-claims T (suc p) ds))) (λ c. rw c (entries-of-claims T (suc p) ds))))
    (λ o.
    by_cases (is_claim d)
    (λ c. rw (o, c) (omega (arith, entries-of-claims T p ds)))
    (λ c. rw (o, c) (entries-of-claims T p ds)))

-- the first territory, as the walk has it
pub told-over : (o : Option Over) → over_of o ≡ or_over o nowhere
told-over None = refl
told-over (Some o) = refl

module _ {tables : Tables} {table : Bytes} {t : ℕ} {f : Bytes} {room : ℕ} {v₀ g₀ : Bytes} {s : Sought} {v g : Bytes}
    (going : Going tables table t f room v₀ g₀ s v g) where
  pub doubt : (first : ℕ) → s.doubt ≡ Some first → Doubt table t f room first
  unfolding entries_at
  doubt first e =
      let d = going.reached.doubts first e in
      let T = territories_in table in
      let rest = rest_at f first in
      let ds = span (is_detail cwr22) rest in
      let parted = length-parted (is_detail cwr22) rest in
      let few : length rest ≤ most_records = omega (arith, parted, ap length d.left, d.ends, d.standing.position.left, going.lent.few) in
      record {
        within = record { here = d.here; short = going.lent.short; right = going.lent.right; few = omega (arith, few) };
        fits = omega (arith, entries-of-claims T 0 ds, d.fits room going.fits);
        few = omega (arith, entries-fewer T 0 ds, parted, few);
        right = going.lent.right;
        small = going.lent.small;
      }

  front : (xs l : Bytes) → splice 0 xs l ≡ xs ++ drop (length xs) l
  unfolding splice
  front xs l = rw (zero-add (length xs))

  module _ (cs : List Claim) (c : Claimed) where
    -- what is defined, for the answer that is given
    defined : RulesClaimed Claim
    defined = claimed_by (answer_of (Ok c.passed)) no_claim tables table t f cs v₀ g₀

    as-defined : answer_of (Ok c.passed) ≡ answer_with tables table t f (enough (length v₀) (length g₀)) room → length cs ≡ room
        → defined ≡ check_claims no_claim tables table t f cs v₀ g₀
    unfolding check_claims defined
    as-defined is long = rw (long, is)

    passed-so : s.doubt ≡ None → over_of c.over ≡ or_found s.walk nowhere → outcome (Ok c) (replicate (length cs) no_claim) v g ≡ defined
    unfolding claimed_by defined
    passed-so e found =
        let (sameV, same_g, told) = going.reached.ends e in
        let vs = file_verdicts_by (claimed_findings tables (territories_in table) t) (content f) in
        let sets = finding_bytes (file_findings_by (claimed_findings tables (territories_in table) t) (content f)) in
        let is-v : v ≡ vs ++ drop (length vs) v₀ = sameV ∙ going.written.verdicts ∙ front vs v₀ in
        let is-g : g ≡ sets ++ drop (length sets) g₀ = same_g ∙ going.written.findings ∙ front sets g₀ in
        λ i. record {
          answer = answer_of (Ok c.passed);
          over = (found ∙ told) i;
          verdicts = is-v i;
          findings = is-g i;
          claims = replicate (length cs) no_claim;
        }

    pub ended : answer_of (Ok c.passed) ≡ answer_with tables table t f (enough (length v₀) (length g₀)) room → length cs ≡ room
        → s.doubt ≡ None → over_of c.over ≡ or_found s.walk nowhere
        → Checked tables table t f cs v₀ g₀ (Ok c) (replicate (length cs) no_claim) v g
    ended is long e found = record { is = passed-so e found ∙ as-defined is long }

-- a refused file leaves all as it was: r is answered, where the refusal e goes out
pub refused-so : {tables : Tables} {table : Bytes} {t : ℕ} {f : Bytes} {v g : Bytes} (cs : List Claim) (r : Result Claimed Refusal) (e : Refusal)
    → IsErrAnd r (λ (d : Refusal). d ≡ e) → refused_of e ≡ answer_with tables table t f (enough (length v) (length g)) (length cs)
    → Checked tables table t f cs v g r cs v g
unfolding check_claims claimed_by
refused-so cs r e h is = let p = err_from_is_err_and r h in rw (p.1, p.2) (record { is = rw (← is) refl })
