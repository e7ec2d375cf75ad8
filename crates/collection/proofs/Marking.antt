-- The bytes of a transaction's sets, marked for findings 47 and 48: those of its sets with them. Assumes nothing.
use Prim.Native.Nat.{ℕ, suc, ◌*◌}
use native.Mathlib.Omega.{arith}
use mathlib.Core.Path.{◌≡◌, refl, sym, ap, ◌∙◌}
use mathlib.Core.Bool.{Bool, false, cond}
use mathlib.Core.List.{List, [], ◌∷◌, ◌++◌, append_assoc}
use lib.ListN.{length, length-append}
use Rattle.format.specs.Bytes.{Bytes, bytes_of}
use Rattle.format.specs.Doc.{Transaction}
use Rattle.format.proofs.Decimal.{length-bytes}
use Rattle.rules.specs.Tables.{Tables}
use Rattle.rules.specs.Territories.{Territory}
use Rattle.rules.specs.Collection.{is47, is48}
use Rattle.rules.specs.Findings.{own_findings, set_of}
use Rattle.rules.specs.Works.{header_findings, details_from, transaction_findings}
use Rattle.rules.specs.Verdicts.{finding_bytes}
use Rattle.rules.specs.WithTerritories.{added, claimed_findings}
use Rattle.rules.proofs.Each.{own-long, header-long}
use Rattle.collection.specs.Marked.{with48, marked48, marked_t}
use Rattle.collection.proofs.SetBits.{marked-47, marked-48}

-- one set more before a place
pub one_more : (a : Bytes) (i : ℕ) (s : List Bool) → length a ≡ 8 * i → length (a ++ bytes_of 8 (set_of s)) ≡ 8 * suc i
one_more a i s e = omega (arith, length-append a (bytes_of 8 (set_of s)), length-bytes 8 (set_of s))

regroup : (a b c z : Bytes) → a ++ ((b ++ c) ++ z) ≡ (a ++ b) ++ (c ++ z)
regroup a b c z = simp append_assoc

-- a detail's set, and then those after it
step-48 : (a : Bytes) (i : ℕ) → length a ≡ 8 * i → (s : List Bool) → length s ≡ 47 → (rest z : Bytes) (b : Bool)
    → cond b (with48 i (a ++ ((bytes_of 8 (set_of s) ++ rest) ++ z))) (a ++ ((bytes_of 8 (set_of s) ++ rest) ++ z))
    ≡ (a ++ bytes_of 8 (set_of (s ++ false ∷ b ∷ []))) ++ (rest ++ z)
step-48 a i e s long rest z b =
    rw (append_assoc (bytes_of 8 (set_of s)) rest z)
    (marked-48 a i e s long (rest ++ z) b ∙ sym (append_assoc a (bytes_of 8 (set_of (s ++ false ∷ b ∷ []))) (rest ++ z)))

module _ (tables : Tables) (T : List Territory) where
  abbrev more : Bytes → List Bool
  more r = false ∷ is48 T r ∷ []

  details-marked : (before ds : List Bytes) (i : ℕ) (a z : Bytes) → length a ≡ 8 * i
      → marked48 T i ds (a ++ (finding_bytes (details_from tables before ds) ++ z))
      ≡ a ++ (finding_bytes (added more ds (details_from tables before ds)) ++ z)
  unfolding finding_bytes
  details-marked before [] i a z e = refl
  details-marked before (r ∷ rs) i a z e =
      let s = own_findings tables before r in
      let rest = details_from tables (before ++ r ∷ []) rs in
      let new = bytes_of 8 (set_of (s ++ more r)) in
      ap (marked48 T (suc i) rs) (step-48 a i e s (own-long tables 0 before r) (finding_bytes rest) z (is48 T r))
      ∙ details-marked (before ++ r ∷ []) rs (suc i) (a ++ new) z (one_more a i (s ++ more r) e)
      ∙ sym (regroup a new (finding_bytes (added more rs rest)) z)

  pub marked_turn : (t : ℕ) (named : Bytes) (x : Transaction) (i : ℕ) (a z : Bytes) → length a ≡ 8 * i
      → marked_t T t i x.details (a ++ (finding_bytes (transaction_findings tables t named x) ++ z))
      ≡ a ++ (finding_bytes (claimed_findings tables T t named x) ++ z)
  unfolding finding_bytes transaction_findings claimed_findings
  marked_turn t named x i a z e =
      let h = header_findings tables t named x in
      let old = bytes_of 8 (set_of h) in
      let ss = details_from tables [] x.details in
      let new = finding_bytes (added more x.details ss) in
      let b = is47 T t x.details in
      let inner : marked48 T (suc i) x.details (a ++ ((old ++ finding_bytes ss) ++ z)) ≡ a ++ (old ++ (new ++ z)) =
      ap (marked48 T (suc i) x.details) (regroup a old (finding_bytes ss) z)
      ∙ details-marked [] x.details (suc i) (a ++ old) z (one_more a i h e)
      ∙ append_assoc a old (new ++ z) in
      rw (inner, append_assoc (bytes_of 8 (set_of (h ++ b ∷ []))) new z) (marked-47 a i e h (header-long tables t named x) (new ++ z) b)
