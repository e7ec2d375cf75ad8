-- Internal: numbers put into a buffer.
use Rattle.std.specs.Prelude.{ℕ, ◌+◌, ◌*◌, ◌≤◌, List, length}
use Rattle.format.specs.Bytes.{Bytes}
use Rattle.format.specs.Lent.{splice}
use Rattle.sheet_bytes.specs.Layout.{number_bytes}

-- from number k on they have room in these bytes
abbrev pub Roomy : ℕ → ℕ → Bytes → Type 0
Roomy k n bytes = 8 * (k + n) ≤ length bytes

abbrev pub numbers_put : ℕ → List ℕ → Bytes → Bytes
numbers_put k ns bytes = splice (8 * k) (number_bytes ns) bytes
