-- What each ending of a search for the first work comes to, and its one number. Assumes nothing.
use Prim.Native.Nat.{ℕ}
use mathlib.Core.Path.{◌≡◌, refl, sym, ap, ◌∙◌, subst}
use mathlib.Core.Option.{Option}
use mathlib.Core.List.{[]}
use Rattle.format.specs.Bytes.{Bytes}
use Rattle.format.specs.Structure.{Answer, refused, passed}
use Rattle.format.specs.Claims.{Near}
use Rattle.rules.specs.Tables.{Tables}
use Rattle.rules.specs.Records.{any}
use Rattle.rules.specs.Outcome.{admission, content}
use Rattle.rules.specs.First.{is_grave, first_at, First, refused_with, nothing, at, seen, first}
use Rattle.rules.specs.Claims.{sets_by_transaction}
use Rattle.rules.proofs.Outcomes.{checks}
use Rattle.rules.proofs.First.{first-own, first-refused, first-let-in, firsts}
use Rattle.std.specs.Prelude.{Option as Optional, Some, None, Ok}
use Rattle.std.specs.Result.{IsErrAnd}
use Rattle.std.proofs.lemmas.Result.{err_from_is_err_and}
use Rattle.answers.specs.declared.Refusal.{Refusal}
use Rattle.answers.specs.Numbers.{refused_of}
use Rattle.answers.proofs.Exact.{exact-so}
use Rattle.search.specs.Levels.{in_file}
use Rattle.cwr.specs.First.{rules_first, exact_first}
use Rattle.cwr.specs.Packed.{packed_first}
use Rattle.cwr.specs.Promises.{First as CodeFirst}

-- a refusal that goes out
pub handed-first : (r : CodeFirst) (e : Refusal) → IsErrAnd r (λ (d : Refusal). d ≡ e) → rules_first r ≡ refused_with (refused_of e)
handed-first r e h = let p = err_from_is_err_and r h in rw (p.1, p.2) refl

-- what a search came to
pub first-ok : (o : Optional ℕ) → rules_first (Ok o) ≡ seen (in_file o)
first-ok None = refl
first-ok (Some k) = refl

module _ (tables : Tables) (t : ℕ) (f : Bytes) where
  pub refused-first : (n i : ℕ) → refused n i ≡ admission tables t f → refused_with (refused n i) ≡ first tables t f
  refused-first n i is = sym (first-refused tables t f n i (sym is))

  pub found_first : {k m n : ℕ} → passed k m n ≡ admission tables t f → (o : Option ℕ)
      → o ≡ first_at (any is_grave) (sets_by_transaction tables t (content f)) → seen o ≡ first tables t f
  found_first {k} {m} {n} is o found = ap seen (found ∙ sym (first-own tables t (content f))) ∙ sym (first-let-in tables t f k m n (sym is))

  -- a refusal is one of the check, whatever that is lent
  pub refused-near : (a : Answer) → first tables t f ≡ refused_with a → Near a
  refused-near a e = subst Near (firsts.refused_as tables t f [] [] a e) (checks.near tables t f [] [])

  pub first-exact : {r : ℕ} {x : First} → r ≡ packed_first x → x ≡ first tables t f → r ≡ exact_first (first tables t f)
  first-exact {r} {x} e is = e ∙ go x is ∙ ap exact_first is
    where
      go : (y : First) → y ≡ first tables t f → packed_first y ≡ exact_first y
      go (refused_with a) p = exact-so {a = a} refl refl (refused-near a (sym p))
      go nothing p = refl
      go (at k) p = refl
