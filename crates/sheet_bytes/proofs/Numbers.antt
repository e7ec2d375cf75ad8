-- Numbers of eight bytes, read and put one after the other. Assumes nothing.
use Prim.Native.Nat.{ℕ, zero, suc, ◌+◌, ◌-◌, ◌*◌, ◌<◌, ◌≤◌}
use native.Mathlib.Omega.{arith}
use native.Mathlib.Numerals.{add-one}
use mathlib.Core.Path.{◌≡◌, refl, sym, ap, ◌∙◌}
use mathlib.Core.List.{List, [], ◌∷◌, ◌++◌}
use lib.ListN.{length, take, drop, set, get_or, length-append}
use lib.Seq.{take-suc, take-suc-set, length-take-le, take_all}
use borrow.Rule.Slice.PartMut.{put_mid}
use Rattle.format.specs.Bytes.{Bytes, bytes_of}
use Rattle.format.specs.Lent.{splice}
use Rattle.format.proofs.Decimal.{length-bytes}
use Rattle.rules.specs.Sheet.{each, Sheet}
use Rattle.rules.proofs.Joined.{joined-one, joined-append, length-joined}
use Rattle.text.specs.Words.{word_of}
use Rattle.buffers.proofs.Splice.{splice-nil, part-splice, length-splice, splice-on}
use Rattle.sheet_bytes.specs.Layout.{number_at, numbers_at, missed_numbers, front_numbers, sheet_numbers, number_bytes, bytes_of_sheet, sheet_size}
use Rattle.sheet_bytes.specs.Put.{numbers_put}

-- ---- read

-- eight bytes that were lent
pub number_read : (bytes : Bytes) (k n : ℕ) → n ≡ word_of (take (8 * k + 8 - 8 * k) (drop (8 * k) bytes)) → n ≡ number_at bytes k
unfolding number_at
number_read bytes k n e = e ∙ (let w : 8 * k + 8 - 8 * k ≡ 8 = omega arith in rw w)

-- one more
pub each-suc : (n : ℕ) (f : ℕ → ℕ) → each (suc n) f ≡ each n f ++ f n ∷ []
each-suc zero f = refl
each-suc (suc n) f = ap (λ (l : List ℕ). f 0 ∷ l) (each-suc n (λ k. f (suc k)))

module _ (bytes : Bytes) (k i : ℕ) (numbers : List ℕ) (so_far : take i numbers ≡ numbers_at bytes k i) where
  pub load-on : i < length numbers → (n : ℕ) → n ≡ number_at bytes (k + i) → take (i + 1) (set numbers i n) ≡ numbers_at bytes k (i + 1)
  load-on h n e = rw (add-one i, take-suc-set numbers i n h, so_far, e, each-suc i (λ j. number_at bytes (k + j)))

-- ---- put

pub length-numbers : (ns : List ℕ) → length (number_bytes ns) ≡ 8 * length ns
unfolding number_bytes
length-numbers ns = length-joined (bytes_of 8) 8 (length-bytes 8) ns

pub numbers-append : (ms ns : List ℕ) → number_bytes (ms ++ ns) ≡ number_bytes ms ++ number_bytes ns
unfolding number_bytes
numbers-append ms ns = joined-append (bytes_of 8) ms ns

-- eight bytes that were lent and come back
pub number_put : (bytes : Bytes) (k n : ℕ) (part : Bytes) → part ≡ bytes_of 8 n
    → put_mid (8 * k) (8 * k + 8 - 8 * k) bytes part ≡ numbers_put k (n ∷ []) bytes
unfolding number_bytes
number_put bytes k n part e =
    let w : 8 * k + 8 - 8 * k ≡ 8 = omega arith in
    let one : part ≡ number_bytes (n ∷ []) = e ∙ sym (joined-one (bytes_of 8) n) in
    rw (w, one, part-splice (8 * k) 8 (number_bytes (n ∷ [])) bytes (length-numbers (n ∷ [])))

-- more after them
module _ (k : ℕ) (ms : List ℕ) (b b₁ : Bytes) (first : b₁ ≡ numbers_put k ms b) (room : 8 * (k + length ms) ≤ length b) where
  fits : 8 * k + length (number_bytes ms) ≤ length b
  fits = omega (arith, length-numbers ms)

  pub put-length : length b₁ ≡ length b
  put-length = ap length first ∙ length-splice (8 * k) (number_bytes ms) b fits

  pub put_on : (j : ℕ) (ns : List ℕ) (b₂ : Bytes) → j ≡ k + length ms → b₂ ≡ numbers_put j ns b₁ → b₂ ≡ numbers_put k (ms ++ ns) b
  put_on j ns b₂ is then =
      let at : 8 * j ≡ 8 * k + length (number_bytes ms) = omega (arith, length-numbers ms) in
      then ∙ rw (at, first, splice-on (8 * k) (number_bytes ms) b fits (number_bytes ns), numbers-append ms ns)

-- at the front
front-splice : (xs b : Bytes) → splice 0 xs b ≡ xs ++ drop (length xs) b
unfolding splice
front-splice xs b = let q : 0 + length xs ≡ length xs = omega arith in rw q

-- one after the other
pub store-none : (k : ℕ) (b : Bytes) → b ≡ numbers_put k (take 0 []) b
unfolding number_bytes
store-none k b = sym (splice-nil (8 * k) b)

module _ (k : ℕ) (ns : List ℕ) (b now : Bytes) (i : ℕ) (so_far : now ≡ numbers_put k (take i ns) b) where
  pub store-on : 8 * (k + length ns) ≤ length b → i < length ns → (more : Bytes) → more ≡ numbers_put (k + i) (get_or ns i 0 ∷ []) now
      → more ≡ numbers_put k (take (i + 1) ns) b
  store-on room h more e =
      let l : length (take i ns) ≡ i = length-take-le i ns (omega arith) in
      rw (add-one i, take-suc ns i 0 h)
      (put_on k (take i ns) b now so_far (omega arith) (k + i) (get_or ns i 0 ∷ []) more (omega arith) e)

  pub store-end : length ns ≤ i → now ≡ numbers_put k ns b
  store-end h = so_far ∙ ap (λ (l : List ℕ). numbers_put k l b) (take_all i ns h)

-- a whole sheet
module _ (s : Sheet) (findings : length s.findings ≡ 64) (verdicts : length s.verdicts ≡ 5) where
  pub sheet-long : length (sheet_numbers s) ≡ 83
  unfolding sheet_numbers
  sheet-long = omega (arith, length-append s.findings s.verdicts)

  -- after each of the parts
  pub sheet-put : (b b₁ b₂ b₃ b₄ b₅ b₆ : Bytes) → sheet_size ≤ length b → b₁ ≡ numbers_put 0 (s.files ∷ s.refused ∷ []) b
      → b₂ ≡ numbers_put 2 (missed_numbers s.pr) b₁ → b₃ ≡ numbers_put 6 (missed_numbers s.mr) b₂
      → b₄ ≡ numbers_put 10 (missed_numbers s.sr) b₃ → b₅ ≡ numbers_put 14 s.findings b₄ → b₆ ≡ numbers_put 78 s.verdicts b₅
      → b₆ ≡ bytes_of_sheet s ++ drop sheet_size b
  unfolding bytes_of_sheet sheet_numbers
  sheet-put b b₁ b₂ b₃ b₄ b₅ b₆ room e₁ e₂ e₃ e₄ e₅ e₆ =
      let ns₁ : List ℕ = s.files ∷ s.refused ∷ [] in
      let ns₂ : List ℕ = ns₁ ++ missed_numbers s.pr in
      let ns₃ : List ℕ = ns₂ ++ missed_numbers s.mr in
      let two = put_on 0 ns₁ b b₁ e₁ (omega arith) 2 (missed_numbers s.pr) b₂ refl e₂ in
      let three = put_on 0 ns₂ b b₂ two (omega arith) 6 (missed_numbers s.mr) b₃ refl e₃ in
      let four = put_on 0 ns₃ b b₃ three (omega arith) 10 (missed_numbers s.sr) b₄ refl e₄ in
      let five = put_on 0 (front_numbers s) b b₄ four (omega arith) 14 s.findings b₅ refl e₅ in
      let all = put_on 0 (front_numbers s ++ s.findings) b b₅ five (omega arith) 78 s.verdicts b₆ (omega arith) e₆ in
      all ∙ front-splice (bytes_of_sheet s) b
      ∙ ap (λ (n : ℕ). bytes_of_sheet s ++ drop n b) (length-numbers (sheet_numbers s) ∙ ap (λ (n : ℕ). 8 * n) sheet-long)
