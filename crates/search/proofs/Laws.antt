-- The first that passes among lists one after the other; and a transaction's sets, where one is grave or none. Assumes nothing.
use Prim.Native.Nat.{ℕ, suc, ◌+◌, ◌≤◌, ◌<◌}
use native.Mathlib.Omega.{arith}
use mathlib.Core.Path.{◌≡◌, refl, sym, ap, ◌∙◌}
use mathlib.Core.Bool.{Bool, true, false, false≢true, or-true}
use mathlib.Core.Option.{Option, none, some}
use mathlib.Core.List.{List, [], ◌∷◌, ◌++◌, map, map-append}
use lib.Dec.{eqb, leb, leb→le, le→leb}
use lib.ListN.{length, length-append, length-map}
use borrow.Author.Tests.{eqb-true, eqb-false}
use Rattle.format.specs.Bytes.{Bytes}
use Rattle.format.specs.Doc.{Transaction}
use Rattle.format.proofs.Logic.{is_true, is_T}
use Rattle.format.proofs.Tests.{by_cases}
use Rattle.rules.specs.Tables.{Tables}
use Rattle.rules.specs.Findings.{own_findings, worst}
use Rattle.rules.specs.Works.{header_findings, details_from, transaction_findings}
use Rattle.rules.specs.Records.{any}
use Rattle.rules.specs.Verdicts.{rejects, joined}
use Rattle.rules.specs.First.{is_grave, one_later, first_at}
use Rattle.rules.proofs.Lists.{any_last}
use Rattle.rules.proofs.Found.{any_append, none_first}
use Rattle.rules.proofs.Joined.{joined-one, joined-append}
use Rattle.headers.specs.declared.Head.{Head}
use Rattle.headers.specs.Headed.{Headed}
use Rattle.transactions.proofs.Laws.{own-worst, own-rejects}
use Rattle.search.specs.Levels.{first_grave, from}

is_some : Option ℕ → Bool
is_some none = false
is_some (some k) = true

from-none : (o : Option ℕ) → o ≡ from 0 o
from-none none = refl
from-none (some k) = ap some (omega arith)

from_one : (n : ℕ) (o : Option ℕ) → one_later (from n o) ≡ from (suc n) o
from_one n none = refl
from_one n (some k) = ap some (omega arith)

some-on : (o : Option ℕ) → is_some (one_later o) ≡ is_some o
unfolding is_some
some-on none = refl
some-on (some k) = refl

module _ {A : Type 0} (p : A → Bool) where
  -- something is found exactly if some passes
  found-any : (xs : List A) → is_some (first_at p xs) ≡ any p xs
  unfolding is_some
  found-any [] = refl
  found-any (x ∷ xs) = by_cases (p x) (λ e. rw e refl) (λ e. rw e (some-on (first_at p xs) ∙ found-any xs))

  pub none_passes : (xs : List A) → first_at p xs ≡ none → any p xs ≡ false
  unfolding is_some
  none_passes xs e = sym (found-any xs) ∙ ap is_some e

  -- none of the first ones
  pub later : (xs ys : List A) → any p xs ≡ false → first_at p (xs ++ ys) ≡ from (length xs) (first_at p ys)
  later [] ys e = from-none (first_at p ys)
  later (x ∷ xs) ys e =
      by_cases (p x)
      (λ q. absurd (false≢true (sym (rw q at e))))
      (λ q. rw q (ap one_later (later xs ys (rw q at e)) ∙ from_one (length xs) (first_at p ys)))

  -- one of the first ones
  pub sooner : (xs ys : List A) → any p xs ≡ true → first_at p (xs ++ ys) ≡ first_at p xs
  sooner [] ys e = absurd (false≢true e)
  sooner (x ∷ xs) ys e = by_cases (p x) (λ q. rw q refl) (λ q. rw q (ap one_later (sooner xs ys (rw q at e))))

-- ---- grave sets

pub grave : (set : List Bool) (n : ℕ) → n ≡ worst set → 3 ≤ n → is_grave set ≡ true
unfolding is_grave
grave set n e h = is_true (leb 3 (worst set)) (le→leb 3 (worst set) (omega (arith, h, e)))

pub not-grave : (set : List Bool) (n : ℕ) → n ≡ worst set → n < 3 → is_grave set ≡ false
unfolding is_grave
not-grave set n e h =
    by_cases (leb 3 (worst set))
    (λ q. absurd (impossible (leb→le 3 (worst set) (is_T (leb 3 (worst set)) q))))
    (λ q. q)
  where
    impossible : 3 ≤ worst set → ⊥
    impossible k = omega (arith, e, h, k)

-- on a detail TR is the largest level
own-grave : (tables : Tables) (b : List Bytes) (r : Bytes) → is_grave (own_findings tables b r) ≡ rejects (own_findings tables b r)
own-grave tables b r =
    let own = own_findings tables b r in
    by_cases (eqb (worst own) 3)
    (λ e. grave own (worst own) refl (omega (arith, eqb-true (worst own) 3 e)) ∙ sym (own-rejects tables b r ∙ e))
    (λ e. not-grave own (worst own) refl (below e) ∙ sym (own-rejects tables b r ∙ e))
  where
    below : eqb (worst (own_findings tables b r)) 3 ≡ false → worst (own_findings tables b r) < 3
    below e = omega (arith, eqb-false (worst (own_findings tables b r)) 3 e, own-worst tables b r)

details-grave : (tables : Tables) (b ds : List Bytes) → any is_grave (details_from tables b ds) ≡ any rejects (details_from tables b ds)
details-grave tables b [] = refl
details-grave tables b (d ∷ ds) = rw (own-grave tables b d, details-grave tables (b ++ d ∷ []) ds)

-- ---- the sets of a transaction

module _ (tables : Tables) (t : ℕ) (named : Bytes) (x : Transaction) where
  pub grave-inside : true ≡ any rejects (details_from tables [] x.details) → true ≡ any is_grave (transaction_findings tables t named x)
  unfolding transaction_findings
  grave-inside e = rw (details-grave tables [] x.details, ← e) (sym (or-true (is_grave (header_findings tables t named x))))

  module _ {h : Head} (headed : Headed tables t named x h) where
    pub grave-header : 3 ≤ h.level → true ≡ any is_grave (transaction_findings tables t named x)
    unfolding transaction_findings
    grave-header k = rw (grave (header_findings tables t named x) h.level headed.level k) refl

    pub none-grave : h.level < 3 → false ≡ any rejects (details_from tables [] x.details)
        → false ≡ any is_grave (transaction_findings tables t named x)
    unfolding transaction_findings
    none-grave k e =
        rw (not-grave (header_findings tables t named x) h.level headed.level k, details-grave tables [] x.details, ← e) refl

-- ---- the transactions of a group

module _ {A : Type 0} (sets : A → List (List Bool)) (number : ℕ) {k : ℕ} (xs : List A) (counted : k ≡ number + length xs)
    (none_yet : any (any is_grave) (map sets xs) ≡ false) where
  -- the one after them is grave
  pub grave-here : {all : List A} (x : A) (ys : List A) → all ≡ xs ++ x ∷ ys → true ≡ any is_grave (sets x) → some k ≡ from number (first_grave (map sets all))
  grave-here x ys e g =
      rw (e, map-append sets xs (x ∷ ys), later (any is_grave) (map sets xs) (map sets (x ∷ ys)) none_yet, ← g, length-map xs sets)
      (ap some (omega (arith, counted)))

  -- it is not
  pub one_on : (x : A) → false ≡ any is_grave (sets x) → (k + 1 ≡ number + length (xs ++ x ∷ []))
      × (any (any is_grave) (map sets (xs ++ x ∷ [])) ≡ false)
  one_on x g = (
    rw (length-append xs (x ∷ [])) (omega (arith, counted)),
    rw (map-append sets xs (x ∷ []), any_last (any is_grave) (map sets xs) (sets x), none_yet, ← g) refl,
  )

  -- they are all
  pub none_here : {all : List A} → all ≡ xs → (k ≡ number + length all) × (none ≡ from number (first_grave (map sets all)))
  none_here e = rw e (counted, rw (none_first (any is_grave) (map sets xs) none_yet) refl)

-- ---- the groups of a file

from_found : (n : ℕ) (o : Option ℕ) → none ≡ from n o → o ≡ none
unfolding is_some
from_found n none e = refl
from_found n (some k) e = absurd (false≢true (ap is_some e))

module _ {A : Type 0} (sets : A → List (List (List Bool))) {k : ℕ} (gs : List A) (counted : k ≡ length (joined sets gs))
    (none_yet : any (any is_grave) (joined sets gs) ≡ false) where
  -- one of the group after them is grave
  pub grave-in : {all : List A} {found : ℕ} (g : A) (more : List A) → all ≡ gs ++ g ∷ more → some found ≡ from k (first_grave (sets g))
      → some found ≡ first_grave (joined sets all)
  unfolding is_some
  grave-in {all} {found} g more e q =
      q
      ∙ rw counted (ap (from (length (joined sets gs))) (sym (sooner (any is_grave) (sets g) (joined sets more) passes)))
      ∙ sym (later (any is_grave) (joined sets gs) (sets g ++ joined sets more) none_yet)
      ∙ ap first_grave (sym (ap (joined sets) e ∙ joined-append sets gs (g ∷ more)))
    where
      is-some : (n : ℕ) (o : Option ℕ) → some found ≡ from n o → is_some o ≡ true
      is-some n none p = absurd (false≢true (sym (ap is_some p)))
      is-some n (some i) p = refl

      passes : any (any is_grave) (sets g) ≡ true
      passes = sym (found-any (any is_grave) (sets g)) ∙ is-some k (first_grave (sets g)) q

  -- none is
  pub group-on : {n : ℕ} (g : A) → n ≡ k + length (sets g) → none ≡ from k (first_grave (sets g)) → (n ≡ length (joined sets (gs ++ g ∷ [])))
      × (any (any is_grave) (joined sets (gs ++ g ∷ [])) ≡ false)
  group-on g e q =
      let last : joined sets (gs ++ g ∷ []) ≡ joined sets gs ++ sets g = joined-append sets gs (g ∷ []) ∙ ap (λ l. joined sets gs ++ l) (joined-one sets g) in (
        rw (last, length-append (joined sets gs) (sets g)) (omega (arith, e, counted)),
        rw (last, any_append (any is_grave) (joined sets gs) (sets g), none_yet)
            (none_passes (any is_grave) (sets g) (from_found k (first_grave (sets g)) q)),
      )

  -- they are all
  pub none_in : {all : List A} → all ≡ gs → none ≡ first_grave (joined sets all)
  none_in e = rw e (sym (none_first (any is_grave) (joined sets gs) none_yet))
