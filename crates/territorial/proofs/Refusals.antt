-- Refusal 14, as the code finds it, after all others. Assumes nothing.
use Prim.Native.Nat.{ℕ, suc, ◌≤◌}
use native.Mathlib.Omega.{arith}
use mathlib.Core.Path.{◌≡◌, refl, sym, ap, ◌∙◌, subst}
use mathlib.Core.Bool.{Bool}
use mathlib.Core.Option.{Option, none}
use mathlib.Core.List.{List, [], ◌∷◌}
use lib.ListN.{length}
use borrow.Author.Tests.{le-ltb}
use Rattle.format.specs.Bytes.{Bytes}
use Rattle.format.specs.Cwr22.{cwr22}
use Rattle.format.specs.Table.{unknown}
use Rattle.format.specs.Structure.{Answer, refused, passed, refusal, most_bytes, most_records}
use Rattle.format.specs.Tree.{span, is_head, is_detail}
use Rattle.format.specs.Lent.{in_room}
use Rattle.format.proofs.Tests.{by_cases}
use Rattle.rules.specs.Records.{only}
use Rattle.rules.specs.Tables.{Tables}
use Rattle.rules.specs.Collection.{is_claim}
use Rattle.rules.specs.WithTerritories.{crowded_from, in_list, admission_with, answer_with}
use Rattle.rules.proofs.Lists.{only-fewer}
use Rattle.admission.proofs.Fit.{passed-with}
use Rattle.structure.specs.Cursor.{Here}
use Rattle.transactions.specs.Walk.{rest_at}
use Rattle.transactions.proofs.Gone.{length-parted}
use Rattle.territorial.specs.Progress.{Counted}

-- a list with an entry for each record has room
none-crowded : (c i : ℕ) (rs : List Bytes) → length rs ≤ c → crowded_from c i rs ≡ none
none-crowded c i [] h = refl
none-crowded c i (r ∷ rs) h =
    let claims = length (only is_claim (span (is_detail cwr22) rs)) in
    let few : claims ≤ c = omega (arith, h, only-fewer is_claim (span (is_detail cwr22) rs), length-parted (is_detail cwr22) rs) in
    by_cases (is_head cwr22 r) (λ e. rw (e, le-ltb c claims few) (none-crowded c (suc i) rs (omega arith))) (λ e. rw e (none-crowded c (suc i) rs (omega arith)))

module _ (f : Bytes) (room : ℕ) (k m n : ℕ) where
  -- as many entries as records
  pub as-it-is : Counted f (passed k m n) → n ≤ room → passed k m n ≡ in_list room (rest_at f 0) (passed k m n)
  as-it-is c few = rw (none-crowded room 0 (rest_at f 0) (omega (arith, c.2, few))) refl

  -- else the claims are counted
  pub can-be-counted : Counted f (passed k m n)
      → (length f ≤ most_bytes) × Here f 0 unknown (rest_at f 0) × (length (rest_at f 0) ≤ most_records)
  can-be-counted c = (c.0, c.1, omega (arith, c.2, c.3))

  pub counted-so : (o : Option ℕ) → o ≡ crowded_from room 0 (rest_at f 0) → refusal 14 o (passed k m n) ≡ in_list room (rest_at f 0) (passed k m n)
  counted-so o q = rw q refl

-- what is let in by 1 to 11 and 13 can be walked over
module _ (tables : Tables) (table : Bytes) (t : ℕ) (f : Bytes) (room : ℕ → Bool) where
  pub in_order : (a : Answer) → a ≡ in_room room (admission_with tables table t f) → Counted f a
  in_order a e = subst (Counted f) (sym e) (go (admission_with tables table t f) refl)
    where
      go : (b : Answer) → admission_with tables table t f ≡ b → Counted f (in_room room b)
      go (refused n i) q = tt
      go (passed k m n) q =
          let l = passed-with tables table t f k m n q in
          by_cases (room n)
          (λ r. rw r (l.fit.short, l.fit.here, l.counted, omega (arith, l.counted, l.fit.few)))
          (λ r. rw r tt)

  pub answered : (c : ℕ) (a b d : Answer) → a ≡ admission_with tables table t f → b ≡ in_room room a → d ≡ in_list c (rest_at f 0) b
      → d ≡ answer_with tables table t f room c
  unfolding answer_with
  answered c a b d e q r = r ∙ ap (in_list c (rest_at f 0)) (q ∙ ap (in_room room) e)
