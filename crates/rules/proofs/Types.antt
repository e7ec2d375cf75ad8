-- A record of one type is of no other. Assumes nothing.
use Prim.Native.String.{String}
use mathlib.Core.Path.{◌≡◌, refl, sym}
use mathlib.Core.Bool.{Bool, true, false, ◌||◌}
use lib.ListN.{take}
use Rattle.format.specs.Ascii.{ascii}
use Rattle.format.specs.Bytes.{Bytes, same_bytes}
use Rattle.format.proofs.Logic.{is_T, same_bytes→eq}
use Rattle.rules.specs.Records.{is_type, is_publisher, is_writer}

pub type-is : (type : String) (r : Bytes) → is_type type r ≡ true → take 3 r ≡ ascii type
type-is type r e = sym (same_bytes→eq (ascii type) (take 3 r) (is_T (is_type type r) e))

-- what holds of a record of either type
either : (a b : Bool) {P : Type 0} → (a || b) ≡ true → (a ≡ true → P) → (b ≡ true → P) → P
either true b e f g = f refl
either false b e f g = g e

module _ (a b : String) (r : Bytes) (P : Bytes → Type 0) (of-a : P (ascii a)) (of-b : P (ascii b)) where
  pub of_two : (is_type a r || is_type b r) ≡ true → P (take 3 r)
  of_two e = either (is_type a r) (is_type b r) e (λ q. rw (type-is a r q) of-a) (λ q. rw (type-is b r q) of-b)

pub publisher-no-writer : (r : Bytes) → is_publisher r ≡ true → is_writer r ≡ false
publisher-no-writer r e = of_two "SPU" "OPU" r (λ t. (same_bytes (ascii "SWR") t || same_bytes (ascii "OWR") t) ≡ false) refl refl e

pub writer-no-publisher : (r : Bytes) → is_writer r ≡ true → is_publisher r ≡ false
writer-no-publisher r e = of_two "SWR" "OWR" r (λ t. (same_bytes (ascii "SPU") t || same_bytes (ascii "OPU") t) ≡ false) refl refl e
