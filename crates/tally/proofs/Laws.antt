-- A tally with one detail more. Assumes nothing.
use Prim.Native.Nat.{ℕ, ◌+◌, ◌*◌, ◌^◌, ◌≤◌}
use native.Mathlib.Omega.{arith}
use mathlib.Core.Path.{◌≡◌, refl, ◌∙◌, subst}
use mathlib.Core.Bool.{true, false, ◌||◌}
use mathlib.Core.List.{List, [], ◌∷◌, ◌++◌}
use lib.ListN.{length, length-append}
use Rattle.format.specs.Ascii.{ascii}
use Rattle.format.specs.Bytes.{Bytes, same_bytes}
use Rattle.format.specs.Structure.{most_records}
use Rattle.rules.specs.Records.{is_type, is_publisher}
use Rattle.rules.proofs.Types.{of_two}
use Rattle.totals.specs.Sums.{Below}
use Rattle.totals.specs.declared.Totals.{Totals}
use Rattle.tally.specs.Marked.{is_instrument}
use Rattle.edits.specs.Sequences.{sequence_of, last_sequence}
use Rattle.edits.proofs.Sequences.{last_more}

-- ---- what a record is not

pub publisher-unmarked : (r : Bytes) → is_publisher r ≡ true → (is_instrument r ≡ false) × (is_type "EWT" r ≡ false) × (is_type "VER" r ≡ false)
publisher-unmarked r e =
    of_two "SPU" "OPU" r
    (λ type. ((same_bytes (ascii "INS") type || same_bytes (ascii "IND") type) ≡ false)
    × (same_bytes (ascii "EWT") type ≡ false) × (same_bytes (ascii "VER") type ≡ false))
    (refl, refl, refl) (refl, refl, refl) e

-- ---- the last sequence number

pub last_on : (ds : List Bytes) (r : Bytes) → is_publisher r ≡ true → last_sequence (ds ++ r ∷ []) ≡ sequence_of r
last_on ds r e = last_more ds r ∙ rw e

pub last-kept : (ds : List Bytes) (r : Bytes) → is_publisher r ≡ false → last_sequence (ds ++ r ∷ []) ≡ last_sequence ds
last-kept ds r e = last_more ds r ∙ rw e

-- ---- bounds

one_more : (ds : List Bytes) (r : Bytes) → length (ds ++ r ∷ []) ≡ length ds + 1
one_more ds r = length-append ds (r ∷ [])

pub below_on : (t : Totals) (ds : List Bytes) (r : Bytes) → Below (99999 * length ds + 99999) t → Below (99999 * length (ds ++ r ∷ [])) t
below_on t ds r b = subst (λ (k : ℕ). Below k t) (omega (arith, one_more ds r)) b

pub below-kept : (t : Totals) (ds : List Bytes) (r : Bytes) → Below (99999 * length ds) t → Below (99999 * length (ds ++ r ∷ [])) t
below-kept t ds r b =
    let m : 99999 * length ds ≤ 99999 * length (ds ++ r ∷ []) = omega (arith, one_more ds r) in
    ((omega (arith, b.0.0), omega (arith, b.0.1), omega (arith, b.0.2)), (omega (arith, b.1.0), omega (arith, b.1.1), omega (arith, b.1.2)))

-- within the size limits no total comes near 2 to the 60
pub below-limits : (t : Totals) (ds : List Bytes) → length ds ≤ most_records → Below (99999 * length ds) t → Below (2 ^ 60) t
below-limits t ds few b = (
  (omega (arith, b.0.0), omega (arith, b.0.1), omega (arith, b.0.2)),
  (omega (arith, b.1.0), omega (arith, b.1.1), omega (arith, b.1.2)),
)
