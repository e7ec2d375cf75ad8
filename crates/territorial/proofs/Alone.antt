-- One outcome alone fits the promise of the check with a territory table. Assumes nothing.
use Prim.Native.Nat.{ℕ}
use native.Mathlib.Omega.{arith}
use mathlib.Core.Path.{◌≡◌, refl, sym, ap, ◌∙◌}
use Rattle.std.specs.Prelude.{Option, Some, None, Result, Ok, Err}
use Rattle.rules.specs.WithTerritories.{Claimed as RulesClaimed}
use Rattle.answers.specs.declared.Passed.{Passed}
use Rattle.answers.specs.declared.Refusal.{Refusal}
use Rattle.answers.proofs.Alone.{answer-alone}
use Rattle.claims.specs.declared.Claim.{Claim}
use Rattle.collection.specs.declared.Over.{Over}
use Rattle.territorial.specs.declared.Claimed.{Claimed}
use Rattle.territorial.specs.Promises.{over_of, answer_told, over_told, OneFits}

-- no two cases stand for one territory
over-alone : (a b : Option Over) → over_of a ≡ over_of b → a ≡ b
over-alone None None e = refl
over-alone None (Some b) e = let z : ◌≡◌ {A = ℕ} 0 1 = cc in absurd (omega arith)
over-alone (Some a) None e = let z : ◌≡◌ {A = ℕ} 0 1 = cc in absurd (omega arith)
over-alone (Some a) (Some b) e =
    let same : a.transaction ≡ b.transaction = cc in
    let place : a.territory ≡ b.territory = cc in
    λ i. Some (record { transaction = same i; territory = place i })

-- nor for one answer
told-alone : (r s : Result Claimed Refusal) → answer_told r ≡ answer_told s → over_told r ≡ over_told s → r ≡ s
told-alone (Ok a) (Ok b) e o =
    let both : ◌≡◌ {A = Result Passed Refusal} (Ok a.passed) (Ok b.passed) = answer-alone (Ok a.passed) (Ok b.passed) e in
    let same : a.passed ≡ b.passed = cc in
    let over = over-alone a.over b.over o in
    λ i. Ok (record { passed = same i; over = over i })
told-alone (Ok a) (Err b) e o = let z : ◌≡◌ {A = ℕ} 0 1 = cc in absurd (omega arith)
told-alone (Err a) (Ok b) e o = let z : ◌≡◌ {A = ℕ} 0 1 = cc in absurd (omega arith)
told-alone (Err a) (Err b) e o =
    let both : ◌≡◌ {A = Result Passed Refusal} (Err a) (Err b) = answer-alone (Err a) (Err b) e in
    let same : a ≡ b = cc in
    ap Err same

pub one-fits : OneFits
one-fits = record {
  check = λ tables table t f cs v g r s cs₁ cs₂ v₁ g₁ v₂ g₂ p q.
      let e = p.is ∙ sym q.is in (
        told-alone r s (ap (λ (o : RulesClaimed Claim). o.answer) e) (ap (λ (o : RulesClaimed Claim). o.over) e),
        ap (λ (o : RulesClaimed Claim). o.claims) e,
        ap (λ (o : RulesClaimed Claim). o.verdicts) e,
        ap (λ (o : RulesClaimed Claim). o.findings) e,
      );
}
