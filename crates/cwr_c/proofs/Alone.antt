-- One outcome alone fits the promise of each call from C, and the number says what was answered. Assumes nothing.
use Prim.Native.Nat.{ℕ, ◌^◌, ◌≤◌, ◌<◌}
use native.Mathlib.Omega.{arith}
use mathlib.Core.Path.{◌≡◌, refl, sym, ap, ◌∙◌, subst}
use mathlib.Core.Logic.{◌≢◌}
use lib.ListN.{length}
use Rattle.format.specs.Bytes.{Bytes}
use Rattle.format.specs.Structure.{Answer, refused, passed, most_records}
use Rattle.format.specs.Claims.{Near}
use Rattle.rules.specs.Outcome.{check, short_tolerance}
use Rattle.rules.specs.Tables.{Tables}
use Rattle.rules.specs.First.{First, refused_with, nothing, at, first}
use Rattle.rules.proofs.Outcomes.{checks}
use Rattle.rules.proofs.First.{firsts}
use Rattle.answers.specs.Numbers.{told_of, exact}
use Rattle.answers.specs.Claims.{Named, Says}
use Rattle.answers.proofs.Alone.{exact-says, exact-alone}
use Rattle.numbering.specs.Outcome.{number_answer}
use Rattle.numbering.proofs.Claims.{near}
use Rattle.cwr.specs.First.{exact_first}
use Rattle.cwr.proofs.Firsts.{refused-near}
use Rattle.cwr_c.specs.Sheet.{sheet_answer}
use Rattle.cwr_c.specs.Territories.{claims_answer}
use Rattle.cwr_c.specs.Promises.{OneFits}
use Rattle.cwr_c.specs.Claims.{OfCheck, ReadOff}
use Rattle.cwr_c.proofs.Laws.{sheet-near}
use Rattle.cwr_c.proofs.ClaimsLaws.{claims-near}

pub one-fits : OneFits
one-fits = record {
  check = λ tables t f v g r s v₁ g₁ v₂ g₂ p q. (p.0 ∙ sym q.0, p.1 ∙ sym q.1, p.2 ∙ sym q.2);
  first = λ tables t f r s p q. p ∙ sym q;
  sheet = λ sheet x r s a b p q. (p.0 ∙ sym q.0, p.1 ∙ sym q.1);
  number = λ f out r s a b p q. (p.0 ∙ sym q.0, p.1 ∙ sym q.1);
  claims = λ tables table t f cs v g o r s cs₁ cs₂ v₁ g₁ o₁ v₂ g₂ o₂ p q. (
    p.answer ∙ sym q.answer,
    p.claims ∙ sym q.claims,
    p.verdicts ∙ sym q.verdicts,
    p.findings ∙ sym q.findings,
    p.over ∙ sym q.over,
  );
}

says : (r : ℕ) (a : Answer) → r ≡ exact a → Near a → Says r a
says r a e h = rw e (exact-says a h)

of-check-near : (a : Answer) → OfCheck a → Near a
of-check-near a (tables, t, f, v, g, e) = subst Near e (checks.near tables t f v g)

of-check-named : (a : Answer) → OfCheck a → Named a
of-check-named (refused n i) (tables, t, f, v, g, e) = (checks.numbers tables t f v g n i e).0
of-check-named (passed k m n) o = tt

never-1 : (a : Answer) → ((i : ℕ) → a ≢ refused 1 i) → (told_of a).refusal ≢ 1
never-1 (refused n i) h e = h i (ap (λ k. refused k i) e)
never-1 (passed k m n) h e = omega (arith, e)

-- ---- the first work to look at

-- what is known of an outcome, so that its number has one reading
abbrev Known : First → Type 0
Known (refused_with a) = (n : ℕ) × (i : ℕ) × (a ≡ refused n i) × (1 ≤ n) × Near (refused n i)
Known nothing = Unit {0}
Known (at k) = k < most_records

known : (tables : Tables) (t : ℕ) (f : Bytes) (x : First) → first tables t f ≡ x → Known x
known tables t f (refused_with a) e =
    let (n, i, is, low, high) = firsts.never_11 tables t f a e in
    (n, i, is, low, subst Near is (refused-near tables t f a e))
known tables t f nothing e = tt
known tables t f (at k) e = firsts.near tables t f k e

-- a refusal's number is 2^32 or more
high : {a : Answer} → Known (refused_with a) → 2 ^ 32 ≤ exact a
high (n, i, is, low, near) = rw is (omega (arith, low))

one_number : (x y : First) → Known x → Known y → exact_first x ≡ exact_first y → x ≡ y
one_number (refused_with a) (refused_with b) (n, i, p, low, near) (k, j, q, low', near') e =
    let (same-n, same-i) = exact-alone (refused n i) (refused k j) near near' low low' (sym (ap exact p) ∙ e ∙ ap exact q) in
    ap refused_with (p ∙ rw (same-n, same-i) refl ∙ sym q)
one_number (refused_with a) nothing p q e = absurd (omega (arith, e, high p))
one_number (refused_with a) (at k) p q e = absurd (omega (arith, e, high p, q))
one_number nothing (refused_with b) p q e = absurd (omega (arith, e, high q))
one_number nothing nothing p q e = refl
one_number nothing (at k) p q e = absurd (omega (arith, e, q))
one_number (at k) (refused_with b) p q e = absurd (omega (arith, e, high q, p))
one_number (at k) nothing p q e = absurd (omega (arith, e, p))
one_number (at k) (at j) p q e = ap at e

pub read_off : ReadOff
read_off = record {
  check = λ tables t f v g r v' g' p. says r (check tables t f v g).answer p.0 (checks.near tables t f v g);
  short_form = λ tables f v g r v' g' p e.
      let a = (check tables short_tolerance f v g).answer in
      never-1 a (checks.short_form tables f v g) (sym (says r a p.0 (checks.near tables short_tolerance f v g)).0 ∙ e);
  sheet = λ sheet x r sheet' p. says r (sheet_answer sheet x) p.0 (sheet-near sheet x);
  number = λ f out r out' p. says r (number_answer f (length out)) p.0 (near f (length out));
  claims = λ tables table t f cs v g o r cs' v' g' o' p.
      says r (claims_answer tables table t f cs v g o) p.answer (claims-near tables table t f cs v g o);
  first_alone = λ tables tables' t t' f f'. one_number _ _ (known tables t f _ refl) (known tables' t' f' _ refl);
  alike = λ a b p q. exact-alone a b (of-check-near a p) (of-check-near b q) (of-check-named a p) (of-check-named b q);
}
