-- What `list` promises of its answer and of what it leaves, and that one outcome alone fits it: proofs/Alone.antt has the proof.
use Rattle.std.specs.Prelude.{ℕ, ◌≡◌, ◌++◌, length, drop}
use Rattle.format.specs.Bytes.{Bytes}
use Rattle.rules.specs.Listing.{listing}

-- with the buffer before it and after it: the listing of the input at its front, r bytes, and those beyond as they were
abbrev pub Listed : Bytes → Bytes → ℕ → Bytes → Type 0
Listed input out r out' = (r ≡ length (listing input)) × (out' ≡ listing input ++ drop r out)

pub record OneFits : Type 0 where
  pub list : (input out : Bytes) (r s : ℕ) (a b : Bytes) → Listed input out r a → Listed input out s b → (r ≡ s) × (a ≡ b)
