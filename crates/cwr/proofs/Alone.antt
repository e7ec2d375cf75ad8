-- One outcome alone fits the promise of each call: of the answers nothing is lost when they are read as number and place. Assumes nothing.
use Prim.Native.Nat.{ℕ}
use native.Mathlib.Omega.{arith}
use mathlib.Core.Path.{◌≡◌, refl, sym, ap, ◌∙◌}
use Rattle.std.specs.Prelude.{Some, None, Ok, Err}
use Rattle.rules.specs.Outcome.{Outcome}
use Rattle.rules.specs.Sheet.{Missed as RulesMissed, Sheet as RulesSheet, Added}
use Rattle.answers.specs.declared.Refusal.{Refusal}
use Rattle.answers.specs.Numbers.{refused_of}
use Rattle.answers.proofs.Alone.{answer-alone}
use Rattle.sheet.specs.declared.Missed.{Missed}
use Rattle.sheet.specs.declared.Sheet.{Sheet}
use Rattle.sheet.specs.declared.Taken.{Taken}
use Rattle.sheet.specs.Told.{added_of}
use Rattle.cwr.specs.First.{rules_first}
use Rattle.cwr.specs.Promises.{Answer, First, OneFits}

-- no two cases stand for one outcome
refusal_alone : (a b : Refusal) → refused_of a ≡ refused_of b → ◌≡◌ {A = First} (Err a) (Err b)
refusal_alone a b e = let same : ◌≡◌ {A = Answer} (Err a) (Err b) = answer-alone (Err a) (Err b) e in cc

first_alone : (r s : First) → rules_first r ≡ rules_first s → r ≡ s
first_alone (Err a) (Err b) e = refusal_alone a b cc
first_alone (Err a) (Ok None) e = let z : ◌≡◌ {A = ℕ} 0 1 = cc in absurd (omega arith)
first_alone (Err a) (Ok (Some k)) e = let z : ◌≡◌ {A = ℕ} 0 1 = cc in absurd (omega arith)
first_alone (Ok None) (Err b) e = let z : ◌≡◌ {A = ℕ} 0 1 = cc in absurd (omega arith)
first_alone (Ok None) (Ok None) e = refl
first_alone (Ok None) (Ok (Some k)) e = let z : ◌≡◌ {A = ℕ} 0 1 = cc in absurd (omega arith)
first_alone (Ok (Some k)) (Err b) e = let z : ◌≡◌ {A = ℕ} 0 1 = cc in absurd (omega arith)
first_alone (Ok (Some k)) (Ok None) e = let z : ◌≡◌ {A = ℕ} 0 1 = cc in absurd (omega arith)
first_alone (Ok (Some k)) (Ok (Some j)) e = let same : k ≡ j = cc in rw same refl

-- nor do two sheets
missed-again : RulesMissed → Missed
missed-again m = record { transactions = m.transactions; shortfall = m.shortfall; excess = m.excess; sum = m.sum }

sheet-again : RulesSheet → Sheet
sheet-again s = record {
  files = s.files;
  refused = s.refused;
  pr = missed-again s.pr;
  mr = missed-again s.mr;
  sr = missed-again s.sr;
  findings = s.findings;
  verdicts = s.verdicts;
}

taken-alone : (p q : Taken) → added_of p ≡ added_of q → p ≡ q
unfolding missed-again sheet-again
taken-alone p q e =
    let answer = answer-alone p.answer q.answer (ap (λ (a : Added). a.answer) e) in
    let sheet = ap (λ (a : Added). sheet-again a.sheet) e in
    λ i. record { answer = answer i; sheet = sheet i }

pub one-fits : OneFits
one-fits = record {
  check = λ tables t f v g r s v₁ g₁ v₂ g₂ p q.
      let e = p ∙ sym q in
      (answer-alone r s (ap (λ (o : Outcome). o.answer) e), ap (λ (o : Outcome). o.verdicts) e, ap (λ (o : Outcome). o.findings) e);
  first = λ tables t f r s p q. first_alone r s (p ∙ sym q);
  sheet = λ s tables f p q e k. taken-alone p q (e ∙ sym k);
  number = λ f out r s a b p q. (answer-alone r s (p.0 ∙ sym q.0), p.1 ∙ sym q.1);
  count = λ set r s p q. p ∙ sym q;
  lowest = λ set r s p q. p ∙ sym q;
  record_length = λ r m n p q. p ∙ sym q;
}
