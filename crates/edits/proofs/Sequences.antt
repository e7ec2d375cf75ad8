-- Finding 25 by the sequence numbers that were read, and how the last of them goes on. Assumes nothing.
use mathlib.Core.Path.{◌≡◌, refl, sym, ap, ◌∙◌}
use mathlib.Core.Bool.{Bool, true, false, cond, ◌||◌}
use mathlib.Core.Option.{Option, none, some}
use mathlib.Core.List.{List, [], ◌∷◌, ◌++◌, append-nil}
use Prim.Native.Nat.{ℕ, ◌+◌, ◌-◌, ◌≤◌}
use native.Mathlib.Numerals.{add-one}
use native.Mathlib.Omega.{arith}
use borrow.Author.Tests.{eqb-true, eq-eqb, leb-true}
use lib.Dec.{eqb, leb}
use lib.ListN.{length, get_or, length-take, length-drop}
use Rattle.format.specs.Ascii.{ascii}
use Rattle.format.specs.Bytes.{Bytes, same_bytes}
use Rattle.format.specs.Fields.{field_of, is_digit, are_digits, digit, number_of}
use Rattle.rules.specs.Records.{is_publisher, only, latest}
use Rattle.rules.specs.Publisher.{sequence_number, follows}
use Rattle.format.proofs.Tests.{by_cases, both, same→eq}
use Rattle.values.proofs.Laws.{spelled, digits_two, number_two}
use Rattle.edits.specs.Kinds.{PublisherRecord}
use Rattle.edits.specs.Sequences.{sequence_of, sequence_in, last_sequence}
use Rattle.edits.specs.declared.publisher.Sequence.{Sequence}
use Rattle.edits.proofs.Types.{clash, same_truth}

abbrev pub is_number : Sequence → Bool
is_number Sequence.NoRecord = false
is_number Sequence.NotDigits = false
is_number (Sequence.Number k) = true

abbrev number_in : Sequence → ℕ
number_in Sequence.NoRecord = 0
number_in Sequence.NotDigits = 0
number_in (Sequence.Number k) = k

-- ---- the number as it is read

two-long : (r : Bytes) → length r ≡ 183 → length (sequence_number r) ≡ 2
unfolding field_of
two-long r h = rw (length-take, length-drop) (omega (arith, h))

module _ (r : Bytes) where
  pub number_read : are_digits (sequence_number r) ≡ true → sequence_of r ≡ Sequence.Number (number_of (sequence_number r))
  unfolding sequence_of
  number_read h = rw h

  pub none_read : are_digits (sequence_number r) ≡ false → sequence_of r ≡ Sequence.NotDigits
  unfolding sequence_of
  none_read h = rw h

  -- and back
  pub number-here : (k : ℕ) → sequence_of r ≡ Sequence.Number k → (are_digits (sequence_number r) ≡ true) × (number_of (sequence_number r) ≡ k)
  number-here k e =
      by_cases (are_digits (sequence_number r))
      (λ y. (y, ap number_in (sym (number_read y) ∙ e)))
      (λ z. absurd (clash (sym (ap is_number (sym (none_read z) ∙ e)))))

  pub none_here : is_number (sequence_of r) ≡ false → are_digits (sequence_number r) ≡ false
  none_here h = by_cases (are_digits (sequence_number r)) (λ y. absurd (clash (sym (ap is_number (number_read y)) ∙ h))) (λ z. z)

-- ---- 01 is the one way to write 1

digit-is : (b : ℕ) → is_digit b ≡ true → (48 ≤ b) × (digit b ≡ b - 48)
digit-is b h = (leb-true 48 b (both (leb 48 b) (leb b 57) h).0, rw h)

writes_one : (a b : ℕ) → are_digits (a ∷ b ∷ []) ≡ true → number_of (a ∷ b ∷ []) ≡ 1 → (48 ≡ a) × (49 ≡ b)
writes_one a b d n =
    let (da, db) = both (is_digit a) (is_digit b) (digits_two a b ∙ d) in
    let (la, ea) = digit-is a da in
    let (lb, eb) = digit-is b db in
    (omega (arith, number_two a b), omega (arith, number_two a b))

module _ (f : Bytes) (two : length f ≡ 2) where
  one-is : are_digits f ≡ true → number_of f ≡ 1 → same_bytes (ascii "01") f ≡ true
  one-is d n =
      let l = spelled 2 f two in
      let (a, b) = writes_one (get_or f 0 0) (get_or f 1 0) (ap are_digits l ∙ d) (ap number_of l ∙ n) in
      ap (same_bytes (ascii "01")) (sym l) ∙ rw (eq-eqb 48 (get_or f 0 0) a, eq-eqb 49 (get_or f 1 0) b)

is_one : (f : Bytes) → same_bytes (ascii "01") f ≡ true → (are_digits f ≡ true) × (number_of f ≡ 1)
unfolding are_digits number_of
is_one f h = rw (← same→eq (ascii "01") f h) (refl, refl)

-- ---- finding 25

-- as the code asks it
abbrev pub goes_on : (last here : Sequence) → Bool
goes_on last Sequence.NoRecord = false
goes_on last Sequence.NotDigits = false
goes_on Sequence.NoRecord (Sequence.Number n) = eqb n 1
goes_on Sequence.NotDigits (Sequence.Number n) = false
goes_on (Sequence.Number before) (Sequence.Number n) = eqb n before || eqb n (before + 1)

module _ (r : Bytes) where
  at_first : length (sequence_number r) ≡ 2 → goes_on Sequence.NoRecord (sequence_of r) ≡ follows none r
  at_first two =
      by_cases (are_digits (sequence_number r))
      (λ y. rw (number_read r y)
      (same_truth _ _
      (λ e. one-is (sequence_number r) two y (eqb-true (number_of (sequence_number r)) 1 e))
      (λ e. eq-eqb (number_of (sequence_number r)) 1 (is_one (sequence_number r) e).1)))
      (λ z. rw (none_read r z) (same_truth _ _ (λ e. absurd (clash (sym e))) (λ e. absurd (clash (sym (is_one (sequence_number r) e).0 ∙ z)))))

  after : (p : Bytes) → goes_on (sequence_of p) (sequence_of r) ≡ follows (some p) r
  after p =
      by_cases (are_digits (sequence_number r))
      (λ y. by_cases (are_digits (sequence_number p))
      (λ z. rw (number_read r y, number_read p z, y, z, add-one))
      (λ z. rw (number_read r y, none_read p z, z)))
      (λ y. rw (none_read r y, y) (by_cases (are_digits (sequence_number p)) (λ z. rw z) (λ z. rw z)))

  pub follows_is : PublisherRecord r → (before : List Bytes) → goes_on (last_sequence before) (sequence_of r) ≡ follows (latest (only is_publisher before)) r
  unfolding last_sequence
  follows_is long before = either (latest (only is_publisher before))
    where
      either : (o : Option Bytes) → goes_on (sequence_in o) (sequence_of r) ≡ follows o r
      either none = at_first (two-long r long.0)
      either (some p) = after p

-- ---- with a record more

last-append : (xs : List Bytes) (r : Bytes) → latest (xs ++ r ∷ []) ≡ some r
last-append [] r = refl
last-append (x ∷ []) r = refl
last-append (x ∷ y ∷ xs) r = last-append (y ∷ xs) r

only-append : (xs : List Bytes) (r : Bytes) → only is_publisher (xs ++ r ∷ []) ≡ only is_publisher xs ++ cond (is_publisher r) (r ∷ []) []
only-append [] r = refl
only-append (x ∷ xs) r =
    by_cases (is_publisher x)
    (λ y. rw (y, only-append xs r))
    (λ z. rw (z, only-append xs r))

pub last_more : (before : List Bytes) (r : Bytes) → last_sequence (before ++ r ∷ []) ≡ cond (is_publisher r) (sequence_of r) (last_sequence before)
unfolding last_sequence
last_more before r =
    ap (λ (xs : List Bytes). sequence_in (latest xs)) (only-append before r)
    ∙ by_cases (is_publisher r)
    (λ y. rw y (ap sequence_in (last-append (only is_publisher before) r)))
    (λ z. rw z (ap (λ (xs : List Bytes). sequence_in (latest xs)) (append-nil (only is_publisher before))))
