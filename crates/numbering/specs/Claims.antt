-- What is claimed of a call of numbering, beyond what `Numbers` (format) claims of the bytes. proofs/Claims.antt has the proofs.
use Rattle.std.specs.Prelude.{ℕ, ◌≡◌, Bool, [], ◌∷◌, map, T, length, take, drop}
use Rattle.format.specs.Bytes.{Bytes, is_one_of}
use Rattle.format.specs.Cwr22.{cwr22}
use Rattle.format.specs.Lines.{lines}
use Rattle.format.specs.Structure.{refused, passed, structure}
use Rattle.format.specs.Numbering.{records_in, held}
use Rattle.format.specs.Claims.{Near}
use Rattle.numbering.specs.Outcome.{number_answer, number_buffer}

-- the numbers that a call can be refused by
abbrev pub is_numberings : ℕ → Bool
is_numberings n = is_one_of n (3 ∷ 4 ∷ 5 ∷ 6 ∷ 7 ∷ 10 ∷ 11 ∷ [])

-- f is the file, out the buffer before the call
pub record NumberCalls : Type 0 where
  -- a refused call leaves the buffer as it was
  pub untouched : (f out : Bytes) (n i : ℕ) → number_answer f (length out) ≡ refused n i → number_buffer f out ≡ out
  -- a call that passes writes exactly as many bytes as the file has: they pass the structural check, with the same numbers,
  pub passes : (f out : Bytes) (g m n : ℕ) → number_answer f (length out) ≡ passed g m n
      → structure cwr22 (take (length f) (number_buffer f out)) ≡ passed g m n
  -- and their records are those of the file, with the number positions cut out
  pub outside : (f out : Bytes) (g m n : ℕ) → number_answer f (length out) ≡ passed g m n
      → map (held cwr22) (records_in (lines (take (length f) (number_buffer f out)))) ≡ map (held cwr22) (records_in (lines f))
  -- the bytes beyond stay, and no buffer grows
  pub beyond : (f out : Bytes) (g m n : ℕ) → number_answer f (length out) ≡ passed g m n → drop (length f) (number_buffer f out) ≡ drop (length f) out
  pub as_long : (f out : Bytes) → length (number_buffer f out) ≡ length out
  -- a file that passes the structural check comes out as it is, where there is room for it
  pub same : (f out : Bytes) (g m n : ℕ) → structure cwr22 f ≡ passed g m n → number_answer f (length out) ≡ passed g m n
      → take (length f) (number_buffer f out) ≡ f
  -- a refusal has one of its numbers
  pub numbers : (f : Bytes) (room n i : ℕ) → number_answer f room ≡ refused n i → T (is_numberings n)
  -- a refusal's place and the number of records have much room in 32 bits
  pub near : (f : Bytes) (room : ℕ) → Near (number_answer f room)
