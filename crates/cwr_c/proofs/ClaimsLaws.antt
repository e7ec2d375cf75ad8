-- When `cwr_check_claims` keeps its promise. Assumes nothing.
--     short      the last buffer is too short: the call is refused, and all is as it was
--     checked    the check was made, and its answer told
use Prim.Native.Nat.{ℕ, suc, ◌+◌, ◌*◌, ◌/◌, ◌%◌, ◌^◌, ◌<◌, ◌≤◌}
use native.Mathlib.Omega.{arith}
use native.Mathlib.Nat.{div-div-eq-div-mul}
use mathlib.Core.Path.{◌≡◌, refl, sym, ap, ◌∙◌}
use mathlib.Core.Bool.{Bool, true, false, ◌&&◌}
use mathlib.Core.List.{List, ◌∷◌, ◌++◌, append-nil}
use lib.Dec.{leb}
use lib.ListN.{length, drop}
use borrow.Author.Tests.{le-leb, lt-leb}
use borrow.Rule.Slice.PartMut.{put_mid}
use Rattle.format.specs.Bytes.{Bytes, bytes_of}
use Rattle.format.specs.Structure.{Answer, refused, passed}
use Rattle.format.specs.Lines.{lines}
use Rattle.format.specs.Numbering.{records_in}
use Rattle.format.specs.Lent.{in_room, splice, left_in}
use Rattle.format.specs.Claims.{Near}
use Rattle.rules.specs.Tables.{Tables}
use Rattle.rules.specs.Outcome.{enough}
use Rattle.rules.specs.WithTerritories.{Over, nowhere, over, Claimed as RulesClaimed, admission_with, in_list, answer_with, claimed_by, check_claims}
use Rattle.cwr_c.proofs.WithNear.{with-near}
use Rattle.std.specs.Prelude.{Result}
use Rattle.answers.specs.declared.Refusal.{Refusal}
use Rattle.answers.specs.Packed.{packed_of}
use Rattle.answers.proofs.Exact.{exact-so}
use Rattle.buffers.proofs.Splice.{part-splice}
use Rattle.claims.specs.declared.Claim.{Claim}
use Rattle.claims.specs.Zeros.{no_claim}
use Rattle.territorial.specs.declared.Claimed.{Claimed}
use Rattle.territorial.specs.Promises.{answer_told, over_told, Checked, outcome}
use Rattle.cwr_c.specs.Territories.{over_bytes, claims_answer, claims_outcome, ClaimsCheckedC}
use Rattle.cwr_c.specs.Told.{without_room, refused_of, packed_claimed, over_left}

-- ---- a room that there is not, or that there is

and-false : (b : Bool) → (b && false) ≡ false
and-false true = refl
and-false false = refl

and-true : (b : Bool) → (b && true) ≡ b
and-true true = refl
and-true false = refl

-- no room: always refused, and 14 is never come to
no_room : (c : ℕ) (rs : List Bytes) (a : Answer) → (n : ℕ) × (i : ℕ) × (without_room a ≡ refused n i) × (in_list c rs (without_room a) ≡ refused n i)
no_room c rs (refused n i) = (n, i, refl, refl)
no_room c rs (passed g m r) = (11, 0, refl, refl)

-- ---- the eight bytes

-- the bytes of a number, and above them those of another
module _ (k n : ℕ) where
  one_byte : (m : ℕ) → bytes_of (suc k) (m % 2 ^ 8 + n * 2 ^ 8) ≡ bytes_of 1 m ++ bytes_of k n
  unfolding bytes_of
  one_byte m =
      let low : (m % 2 ^ 8 + n * 2 ^ 8) % 256 ≡ m % 256 = omega arith in
      let high : (m % 2 ^ 8 + n * 2 ^ 8) / 256 ≡ n = omega arith in
      λ j. low j ∷ bytes_of k (high j)

  two_bytes : (m : ℕ) → bytes_of (suc (suc k)) (m % 2 ^ 16 + n * 2 ^ 16) ≡ bytes_of 2 m ++ bytes_of k n
  unfolding bytes_of
  two_bytes m =
      let low : (m % 2 ^ 16 + n * 2 ^ 16) % 256 ≡ m % 256 = omega arith in
      let twice : m / 256 / 2 ^ 8 ≡ m / 2 ^ 16 = div-div-eq-div-mul m 256 (2 ^ 8) in
      let high : (m % 2 ^ 16 + n * 2 ^ 16) / 256 ≡ m / 256 % 2 ^ 8 + n * 2 ^ 8 = omega (arith, twice) in
      (λ j. low j ∷ bytes_of (suc k) (high j)) ∙ ap (λ (l : Bytes). m % 256 ∷ l) (one_byte (m / 256))

  three-bytes : (m : ℕ) → bytes_of (suc (suc (suc k))) (m % 2 ^ 24 + n * 2 ^ 24) ≡ bytes_of 3 m ++ bytes_of k n
  unfolding bytes_of
  three-bytes m =
      let low : (m % 2 ^ 24 + n * 2 ^ 24) % 256 ≡ m % 256 = omega arith in
      let twice : m / 256 / 2 ^ 16 ≡ m / 2 ^ 24 = div-div-eq-div-mul m 256 (2 ^ 16) in
      let high : (m % 2 ^ 24 + n * 2 ^ 24) / 256 ≡ m / 256 % 2 ^ 16 + n * 2 ^ 16 = omega (arith, twice) in
      (λ j. low j ∷ bytes_of (suc (suc k)) (high j)) ∙ ap (λ (l : Bytes). m % 256 ∷ l) (two_bytes (m / 256))

  four_bytes : (m : ℕ) → bytes_of (suc (suc (suc (suc k)))) (m % 2 ^ 32 + n * 2 ^ 32) ≡ bytes_of 4 m ++ bytes_of k n
  unfolding bytes_of
  four_bytes m =
      let low : (m % 2 ^ 32 + n * 2 ^ 32) % 256 ≡ m % 256 = omega arith in
      let twice : m / 256 / 2 ^ 24 ≡ m / 2 ^ 32 = div-div-eq-div-mul m 256 (2 ^ 24) in
      let high : (m % 2 ^ 32 + n * 2 ^ 32) / 256 ≡ m / 256 % 2 ^ 24 + n * 2 ^ 24 = omega (arith, twice) in
      (λ j. low j ∷ bytes_of (suc (suc (suc k))) (high j)) ∙ ap (λ (l : Bytes). m % 256 ∷ l) (three-bytes (m / 256))

lowest-four : (m : ℕ) → bytes_of 4 (m % 2 ^ 32) ≡ bytes_of 4 m
unfolding bytes_of
lowest-four m =
    let same : m % 2 ^ 32 ≡ m % 2 ^ 32 + 0 * 2 ^ 32 = omega arith in
    ap (bytes_of 4) same ∙ four_bytes 0 0 m ∙ append-nil (bytes_of 4 m)

-- two numbers of four bytes in one of eight
two-in-one : (m i : ℕ) → bytes_of 8 (m % 2 ^ 32 + i % 2 ^ 32 * 2 ^ 32) ≡ bytes_of 4 m ++ bytes_of 4 i
two-in-one m i = four_bytes 4 (i % 2 ^ 32) m ∙ ap (λ (l : Bytes). bytes_of 4 m ++ l) (lowest-four i)

length_over : (o : Over) → length (over_bytes o) ≡ 8
unfolding over_bytes bytes_of
length_over nowhere = refl
length_over (over m i) = refl

-- as the code has them in one word
pub nowhere-word : bytes_of 8 18446744073709551615 ≡ over_bytes nowhere
unfolding over_bytes bytes_of
nowhere-word = refl

pub over_word : (m i : ℕ) → bytes_of 8 (m % 2 ^ 32 + i % 2 ^ 32 * 2 ^ 32) ≡ over_bytes (over m i)
unfolding over_bytes
over_word m i = two-in-one m i

-- they are put at the front of the buffer
pub over-put : (o : Over) (old part : Bytes) → part ≡ over_bytes o → put_mid 0 8 old part ≡ splice 0 (over_bytes o) old
over-put o old part is = ap (put_mid 0 8 old) is ∙ part-splice 0 8 (over_bytes o) old (length_over o)

pub over-left : (o : Over) (old : Bytes) → splice 0 (over_bytes o) old ≡ over_bytes o ++ drop (length (over_bytes o)) old
unfolding splice
over-left o old =
    let front : 0 + length (over_bytes o) ≡ length (over_bytes o) = omega arith in
    ap (λ k. over_bytes o ++ drop k old) front

-- ---- the call

module _ (tables : Tables) (table : Bytes) (t : ℕ) (f : Bytes) (cs : List Claim) (v g o : Bytes) where
  abbrev let-in : Answer
  let-in = admission_with tables table t f

  short-answer : length o < 8 → claims_answer tables table t f cs v g o ≡ in_list (length cs) (records_in (lines f)) (without_room let-in)
  unfolding claims_answer answer_with
  short-answer l =
      let e : (r : ℕ) → (enough (length v) (length g) r && leb 8 (length o)) ≡ false =
      λ r. ap (λ b. enough (length v) (length g) r && b) (lt-leb 8 (length o) l) ∙ and-false (enough (length v) (length g) r) in
      λ j. in_list (length cs) (records_in (lines f)) (in_room (λ r. e r j) let-in)

  roomy-answer : 8 ≤ length o → answer_with tables table t f (enough (length v) (length g)) (length cs) ≡ claims_answer tables table t f cs v g o
  unfolding claims_answer
  roomy-answer l =
      let e : (r : ℕ) → enough (length v) (length g) r ≡ (enough (length v) (length g) r && leb 8 (length o)) =
      λ r. sym (and-true (enough (length v) (length g) r)) ∙ ap (λ b. enough (length v) (length g) r && b) (sym (le-leb 8 (length o) l)) in
      λ j. answer_with tables table t f (λ r. e r j) (length cs)

  pub claims-near : Near (claims_answer tables table t f cs v g o)
  unfolding claims_answer
  claims-near = with-near tables table t f (λ r. enough (length v) (length g) r && leb 8 (length o)) (length cs)

  same_outcome : 8 ≤ length o → check_claims no_claim tables table t f cs v g ≡ claims_outcome tables table t f cs v g o
  unfolding check_claims
  same_outcome l = ap (λ a. claimed_by a no_claim tables table t f cs v g) (roomy-answer l)

  module _ (x : ℕ) where
    refused-so : (n i : ℕ) → claims_answer tables table t f cs v g o ≡ refused n i → x ≡ packed_of (refused n i)
        → ClaimsCheckedC tables table t f cs v g o x cs v g o
    unfolding claimed_by
    refused-so n i is e = record {
      answer = exact-so e (sym is) claims-near;
      claims = rw is refl;
      verdicts = rw is refl;
      findings = rw is refl;
      over = rw is refl;
    }

    told-so : (r : Result Claimed Refusal) (cs' : List Claim) (v' g' o' : Bytes) → outcome r cs' v' g' ≡ claims_outcome tables table t f cs v g o
        → x ≡ packed_of (answer_told r) → o' ≡ left_in (answer_told r) (over_bytes (over_told r)) o
        → ClaimsCheckedC tables table t f cs v g o x cs' v' g' o'
    unfolding claimed_by
    told-so r cs' v' g' o' is e d = record {
      answer = exact-so e (ap (λ (u : RulesClaimed Claim). u.answer) is) claims-near;
      claims = ap (λ (u : RulesClaimed Claim). u.claims) is;
      verdicts = ap (λ (u : RulesClaimed Claim). u.verdicts) is;
      findings = ap (λ (u : RulesClaimed Claim). u.findings) is;
      over = d ∙ ap (λ (u : RulesClaimed Claim). left_in u.answer (over_bytes u.over) o) is;
    }

module _ {tables : Tables} {table : Bytes} {t : ℕ} {f : Bytes} {cs : List Claim} {v g o : Bytes} {x : ℕ} where
  pub short : length o < 8 → x ≡ refused_of tables table t f → ClaimsCheckedC tables table t f cs v g o x cs v g o
  unfolding refused_of
  short l e =
      let (n, i, is, listed) = no_room (length cs) (records_in (lines f)) (admission_with tables table t f) in
      refused-so tables table t f cs v g o x n i (short-answer tables table t f cs v g o l ∙ listed) (e ∙ ap packed_of is)

  pub checked : {r : Result Claimed Refusal} {cs' : List Claim} {v' g' o' : Bytes} → 8 ≤ length o → Checked tables table t f cs v g r cs' v' g'
      → x ≡ packed_claimed r → o' ≡ over_left r o → ClaimsCheckedC tables table t f cs v g o x cs' v' g' o'
  unfolding packed_claimed over_left
  checked {r} {cs'} {v'} {g'} {o'} l c e d =
      told-so tables table t f cs v g o x r cs' v' g' o' (c.is ∙ same_outcome tables table t f cs v g o l) e d
