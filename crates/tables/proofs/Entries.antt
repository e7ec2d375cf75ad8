-- The entries of a table, one after the other as a loop meets them, and the keys of codes.
use Prim.Native.Nat.{ℕ, zero, suc, ◌+◌, ◌-◌, ◌*◌, ◌/◌, ◌%◌, ◌<◌, ◌≤◌}
use mathlib.Core.Path.{◌≡◌, sym, ap, ◌∙◌}
use mathlib.Core.Bool.{true, or-true, and-eq-true_iff}
use mathlib.Core.List.{List, [], ◌∷◌}
use native.Mathlib.Nat.{mul-suc, mul-zero, sub-zero, mul-le-mul_left, mul-div-le}
use native.Mathlib.Numerals.{add-one}
use native.Mathlib.Omega.{arith}
use borrow.Author.Tests.{leb-true}
use lib.Dec.{eqb}
use lib.ListN.{length, take, drop, get_or}
use lib.Seq.{drop-drop, ext_get_or}
use Rattle.format.specs.Bytes.{Bytes, same_bytes}
use Rattle.format.proofs.Logic.{is_true, same_bytes-refl}
use Rattle.rules.specs.Tables.{most_entries, right_table, first_entries, entries}
use Rattle.tables.specs.Index.{key_of, Code, KeyOfAny}

-- ---- the entries from the k-th on

abbrev pub entries_from : ℕ → ℕ → Bytes → List Bytes
entries_from size k table = first_entries (length table / size - k) size (drop (size * k) table)

abbrev pub entry_at : ℕ → ℕ → Bytes → Bytes
entry_at size k table = take size (drop (size * k) table)

module _ (size : ℕ) (table : Bytes) where
  pub from_start : entries_from size 0 table ≡ entries size table
  unfolding entries
  from_start = rw (sub-zero, mul-zero)

  pub from_on : (k : ℕ) → k < length table / size → entries_from size k table ≡ entry_at size k table ∷ entries_from size (k + 1) table
  from_on k h =
      let more : length table / size - k ≡ suc (length table / size - (k + 1)) = omega arith in
      let next : size * (k + 1) ≡ size * k + size = rw (add-one, mul-suc) in
      rw (more, next, ← drop-drop size (size * k) table)

  pub from_end : (k : ℕ) → length table / size ≤ k → entries_from size k table ≡ []
  from_end k h = let none : length table / size - k ≡ 0 = omega arith in rw none

  -- an entry lies within the table
  pub within : (k : ℕ) → k < length table / size → size * k + size ≤ length table
  within k h = omega (arith, mul-le-mul_left size h, mul-suc size k, mul-div-le (length table) size)

  pub most : right_table size table ≡ true → length table / size ≤ most_entries
  unfolding right_table
  most e = leb-true (length table / size) most_entries ((and-eq-true_iff (eqb (length table % size) 0) _).0 e).1

-- ---- keys

pub key-not-0 : (code : Bytes) → 0 < key_of code
unfolding key_of
key-not-0 code = omega arith

three-bytes : (a b c x y z : ℕ) → a < 256 → b < 256 → c < 256 → x < 256 → y < 256 → z < 256
    → (a * 256 + b) * 256 + c + 1 ≡ (x * 256 + y) * 256 + z + 1 → (a ≡ x) × (b ≡ y) × (c ≡ z)
three-bytes a b c x y z h₁ h₂ h₃ h₄ h₅ h₆ e = (omega arith, omega arith, omega arith)

-- two codes of one size that have one key
same_key : (size : ℕ) (a b : Bytes) → 2 ≤ size → size ≤ 3 → Code size a → Code size b → key_of a ≡ key_of b → a ≡ b
unfolding key_of
same_key size a b l m p q e = ext_get_or 0 a b (p.long ∙ sym q.long) at
  where
    alike : (get_or a 0 0 ≡ get_or b 0 0) × (get_or a 1 0 ≡ get_or b 1 0) × (get_or a (length a - 1) 0 ≡ get_or b (length b - 1) 0)
    alike = three-bytes _ _ _ _ _ _ (p.bytes 0) (p.bytes 1) (p.bytes (length a - 1)) (q.bytes 0) (q.bytes 1) (q.bytes (length b - 1)) e

    at : (i : ℕ) → i < length a → get_or a i 0 ≡ get_or b i 0
    at zero h = alike.0
    at (suc zero) h = alike.1
    at (suc (suc i)) h =
        let last : suc (suc i) ≡ length a - 1 = omega (arith, p.long) in
        let same : suc (suc i) ≡ length b - 1 = omega (arith, p.long, q.long) in
        ap (λ j. get_or a j 0) last ∙ alike.2 ∙ sym (ap (λ j. get_or b j 0) same)

-- 0 is no code's key
pub zero-key : (size : ℕ) (es : List Bytes) → KeyOfAny size es 0
unfolding KeyOfAny
zero-key size es code c e = absurd (omega (arith, key-not-0 code))

pub first_key : (size : ℕ) (es : List Bytes) (code : Bytes) → 2 ≤ size → size ≤ 3 → Code size code → KeyOfAny size (code ∷ es) (key_of code)
unfolding KeyOfAny
first_key size es code l m c other d e =
    let same = same_key size code other l m c d e in
    let itself : same_bytes other other ≡ true = is_true _ (same_bytes-refl other) in
    rw (same, itself)

pub later-key : (size : ℕ) (es : List Bytes) (code : Bytes) (key : ℕ) → KeyOfAny size es key → KeyOfAny size (code ∷ es) key
unfolding KeyOfAny
later-key size es code key any other d e = rw (any other d e) (or-true (same_bytes code other))
