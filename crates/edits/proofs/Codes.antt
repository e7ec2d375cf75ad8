-- A publisher's type and a writer's designation with their defaults in force. Assumes nothing.
use mathlib.Core.Path.{◌≡◌, refl, sym, ap, ◌∙◌}
use mathlib.Core.Bool.{true, false, not, ◌&&◌, ◌||◌, or-false, or-true}
use mathlib.Core.List.{List, [], ◌∷◌}
use borrow.Author.Tests.{not-true}
use Rattle.format.specs.Ascii.{ascii}
use Rattle.format.specs.Bytes.{Bytes, same_bytes, among, every}
use Rattle.rules.specs.Tables.{publisher_types, designations}
use Rattle.rules.specs.Values.{entered}
use Rattle.rules.specs.Records.{is_type}
use Rattle.rules.specs.Publisher.{publisher_type, is35, type_in_force, is_e, is_aq}
use Rattle.rules.specs.Writer.{designation, is40, default40, designation_in_force}
use Rattle.format.proofs.Tests.{by_cases, both, same→eq}
use Rattle.edits.proofs.Types.{clash}

-- what is in no entry of a table is in none of some of them
not-among : (x : Bytes) (table names : List Bytes) → every (λ n. among n table) names ≡ true → among x table ≡ false → among x names ≡ false
not-among x table [] h e = refl
not-among x table (n ∷ ns) h e =
    let (here, rest) = both (among n table) (every (λ m. among m table) ns) h in
    by_cases (same_bytes n x)
    (λ y. absurd (clash (sym here ∙ ap (λ (z : Bytes). among z table) (same→eq n x y) ∙ e)))
    (λ z. rw z (not-among x table ns rest e))

module _ (r : Bytes) where
  no-type : is35 r ≡ true → among (publisher_type r) publisher_types ≡ false
  unfolding is35
  no-type h = not-true (among (publisher_type r) publisher_types) (both (is_type "OPU" r) (not (among (publisher_type r) publisher_types)) h).1

  no-designation : is40 r ≡ true → among (designation r) designations ≡ false
  unfolding is40
  no-designation h =
      not-true (among (designation r) designations)
      (both (is_type "OWR" r && entered (designation r)) (not (among (designation r) designations)) h).1

-- ---- types

module _ (r : Bytes) where
  -- an OPU whose type is not in the table is an E
  pub e-in-force : (same_bytes (ascii "E ") (publisher_type r) || (is_type "OPU" r && not (among (publisher_type r) publisher_types))) ≡ is_e r
  unfolding type_in_force is35
  e-in-force =
      by_cases (is_type "OPU" r && not (among (publisher_type r) publisher_types))
      (λ y. rw y (or-true (same_bytes (ascii "E ") (publisher_type r))))
      (λ z. rw z (or-false (same_bytes (ascii "E ") (publisher_type r))))

  pub aq-in-force : same_bytes (ascii "AQ") (publisher_type r) ≡ is_aq r
  unfolding type_in_force
  aq-in-force =
      by_cases (is35 r)
      (λ y. rw y (unlisted y))
      (λ z. rw z)
    where
      unlisted : is35 r ≡ true → same_bytes (ascii "AQ") (publisher_type r) ≡ false
      unlisted y =
          sym (or-false (same_bytes (ascii "AQ") (publisher_type r)))
          ∙ not-among (publisher_type r) publisher_types (ascii "AQ" ∷ []) refl (no-type r y)

  -- ---- designations

  -- the default of 40 is spaces, and neither they nor what they stand for are among any of the designations
  pub designation-in-force : (names : List Bytes) → every (λ n. among n designations) names ≡ true → among default40 names ≡ false
      → among (designation r) names ≡ among (designation_in_force r) names
  unfolding designation_in_force
  designation-in-force names some none =
      by_cases (is40 r)
      (λ y. rw y (not-among (designation r) designations names some (no-designation r y) ∙ sym none))
      (λ z. rw z)
