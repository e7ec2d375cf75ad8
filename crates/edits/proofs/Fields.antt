-- Fields looked up or compared. Assumes nothing.
use mathlib.Core.Path.{◌≡◌, refl, sym}
use mathlib.Core.Bool.{Bool, true, false, cond, ◌&&◌, ◌||◌, and-true, or-false}
use mathlib.Core.List.{[], ◌∷◌}
use Prim.Native.Nat.{ℕ}
use lib.Dec.{eqb}
use lib.ListN.{take}
use Rattle.format.specs.Ascii.{ascii}
use Rattle.format.specs.Bytes.{Bytes, same_bytes}
use Rattle.format.specs.Fields.{field_of, is_blank}
use Rattle.rules.specs.Values.{are_zeros, zeros}
use Rattle.rules.specs.Records.{is_type}
use Rattle.rules.specs.Other.{is43, release_date, release_duration, is44, is45, is46, date_in_force, duration_in_force}
use Rattle.format.proofs.Tests.{both}
use Rattle.edits.proofs.Types.{clash, not-other, not_third}

-- ---- bytes compared

pub one_blank : (b : ℕ) → is_blank (b ∷ []) ≡ eqb b 32
unfolding is_blank
one_blank b = and-true (eqb b 32)

pub one_same : (a b : ℕ) → same_bytes (a ∷ []) (b ∷ []) ≡ eqb a b
one_same a b = and-true (eqb a b)

-- ---- finding 43, by the type

pub version-43 : (r : Bytes) → (is_type "EWT" r || is_type "VER" r) ≡ true → is_blank (field_of 20 60 r) ≡ is43 r
unfolding is43
version-43 r h = sym (rw (h, not_third (ascii "EWT") (ascii "VER") (take 3 r) h (ascii "PER") refl refl) (or-false (is_blank (field_of 20 60 r))))

pub performer-43 : (r : Bytes) → is_type "PER" r ≡ true → is_blank (field_of 20 45 r) ≡ is43 r
unfolding is43
performer-43 r h =
    let n = not-other (ascii "PER") in
    sym (rw (n (ascii "EWT") (take 3 r) h refl, n (ascii "VER") (take 3 r) h refl, h))

-- ---- REC with its defaults

default-zeros : (b : Bool) (n : ℕ) (f : Bytes) → are_zeros (zeros n) ≡ true → (b || are_zeros f) ≡ are_zeros (cond b (zeros n) f)
default-zeros true n f h = sym h
default-zeros false n f h = refl

one-no : (a d u b : Bool) → (d && u) ≡ false → false ≡ (a && d && u && b)
one-no false d u b h = refl
one-no true false u b h = refl
one-no true true false b h = refl
one-no true true true b h = absurd (clash h)

all_yes : (a d u b : Bool) → a ≡ true → (d && u) ≡ true → b ≡ (a && d && u && b)
all_yes a d u b y h = let k = both d u h in rw (y, k.0, k.1)

module _ (r : Bytes) where
  date-zeros : (is45 r || are_zeros (release_date r)) ≡ are_zeros (date_in_force r)
  unfolding date_in_force are_zeros
  date-zeros = default-zeros (is45 r) 8 (release_date r) refl

  duration-zeros : (is46 r || are_zeros (release_duration r)) ≡ are_zeros (duration_in_force r)
  unfolding duration_in_force are_zeros
  duration-zeros = default-zeros (is46 r) 6 (release_duration r) refl

  -- what is asked of both, as the code asks it
  pub zeros-in-force : (b45 b46 date duration : Bool) → b45 ≡ is45 r → b46 ≡ is46 r
      → date ≡ are_zeros (release_date r) → duration ≡ are_zeros (release_duration r)
      → ((b45 || date) && (b46 || duration)) ≡ (are_zeros (date_in_force r) && are_zeros (duration_in_force r))
  zeros-in-force b45 b46 date duration e f d u = rw (e, f, d, u, date-zeros, duration-zeros)

  pub not-44 : (are_zeros (date_in_force r) && are_zeros (duration_in_force r)) ≡ false → false ≡ is44 r
  unfolding is44
  not-44 h = one-no (is_type "REC" r) (are_zeros (date_in_force r)) (are_zeros (duration_in_force r)) (is_blank (field_of 99 442 r)) h

  pub is-44 : is_type "REC" r ≡ true → (are_zeros (date_in_force r) && are_zeros (duration_in_force r)) ≡ true → is_blank (field_of 99 442 r) ≡ is44 r
  unfolding is44
  is-44 t h = all_yes (is_type "REC" r) (are_zeros (date_in_force r)) (are_zeros (duration_in_force r)) (is_blank (field_of 99 442 r)) t h
