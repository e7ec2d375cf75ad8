-- The spots of a type: a type that no stage names has none, and one with several is bracketed in each of them, never twice in a stage.
-- Assumes nothing.
use Prim.Native.Nat.{ℕ, suc}
use mathlib.Core.Path.{◌≡◌, refl, sym, ap, ◌∙◌}
use mathlib.Core.Bool.{Bool, true, false, not, ◌&&◌, ◌||◌, and-false, false≢true}
use mathlib.Core.List.{List, [], ◌∷◌}
use lib.Dec.{leb, eqb}
use lib.ListN.{length}
use Rattle.format.specs.Bytes.{Bytes, every, same_bytes, among}
use Rattle.format.specs.Stages.{Stage, stages, Spot, in_brackets, spots_in, spots_from, spots, among_any, begins_any, begins}
use Rattle.format.proofs.Tests.{by_cases, both, same→eq}

-- ---- a type that fails a test has no spot in stages all of whose types pass it

unfoldable pub types_pass : (Bytes → Bool) → Stage → Bool
types_pass p s = p s.leader && every (every p) s.brackets

module _ (p : Bytes → Bool) (type : Bytes) (fails : p type ≡ false) where
  differs : (u : Bytes) → p u ≡ true → same_bytes u type ≡ false
  differs u k = by_cases (same_bytes u type) (λ e. absurd (false≢true (sym fails ∙ sym (ap p (same→eq u type e)) ∙ k))) (λ e. e)

  pub not-among : (us : List Bytes) → every p us ≡ true → among type us ≡ false
  not-among [] q = refl
  not-among (u ∷ us) q =
      let b = both (p u) (every p us) q in
      rw (differs u b.0, not-among us b.1)

  not-any : (bs : List (List Bytes)) → every (every p) bs ≡ true → among_any type bs ≡ false
  not-any [] q = refl
  not-any (b ∷ bs) q =
      let c = both (every p b) (every (every p) bs) q in
      rw (not-among b c.0, not-any bs c.1)

  no-bracket : (n rank : ℕ) (bs : List (List Bytes)) → every (every p) bs ≡ true → in_brackets n rank type bs ≡ []
  no-bracket n rank [] q = refl
  no-bracket n rank (b ∷ bs) q =
      let c = both (every p b) (every (every p) bs) q in
      rw (not-among b c.0, no-bracket n (suc rank) bs c.1)

  no-spot : (n : ℕ) (s : Stage) → types_pass p s ≡ true → spots_in n type s ≡ []
  unfolding types_pass
  no-spot n s q =
      let b = both (p s.leader) (every (every p) s.brackets) q in
      rw (differs s.leader b.0, no-bracket n 1 s.brackets b.1)

  pub no-spots : (n : ℕ) (ss : List Stage) → every (types_pass p) ss ≡ true → spots_from n type ss ≡ []
  no-spots n [] q = refl
  no-spots n (s ∷ ss) q =
      let b = both (types_pass p s) (every (types_pass p) ss) q in
      rw (no-spot n s b.0, no-spots (suc n) ss b.1)

  pub begins-none : (ss : List Stage) → every (types_pass p) ss ≡ true → begins_any type ss ≡ false
  unfolding types_pass
  begins-none [] q = refl
  begins-none (s ∷ ss) q =
      let b = both (p s.leader && every (every p) s.brackets) (every (types_pass p) ss) q in
      let c = both (p s.leader) (every (every p) s.brackets) b.0 in
      rw (not-any s.brackets c.1, and-false s.alone, begins-none ss b.1)

-- ---- a type with several spots begins no stage, is bracketed in each, and has no two in one stage

unfoldable pub is_bracketed : Spot → Bool
is_bracketed s = not (eqb s.rank 0)

unfoldable pub is_elsewhere : ℕ → Spot → Bool
is_elsewhere n s = not (eqb n s.stage)

unfoldable pub apart : List Spot → Bool
apart [] = true
apart (s ∷ ss) = every (is_elsewhere s.stage) ss && apart ss

unfoldable pub may_have_several : Bytes → Bool
may_have_several type = not (begins type) && (every is_bracketed (spots type) && apart (spots type))

one_or_several : Bytes → Bool
one_or_several type = leb (length (spots type)) 1 || may_have_several type

all_types : every (types_pass one_or_several) stages ≡ true
unfolding types_pass one_or_several may_have_several is_bracketed is_elsewhere apart spots begins stages
all_types = refl

-- a type that failed would have no spot, and so pass
pub one-or-several : (type : Bytes) → (leb (length (spots type)) 1 || may_have_several type) ≡ true
unfolding one_or_several spots
one-or-several type = by_cases (one_or_several type) (λ e. e) (λ e. rw (no-spots one_or_several type e 1 stages all_types))
