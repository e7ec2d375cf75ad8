-- Bytes in one number, a word: the first byte counts once, each further one 256 times the one before it.
use Rattle.std.specs.Prelude.{ℕ, ◌+◌, ◌*◌, [], ◌∷◌}
use Rattle.format.specs.Bytes.{Bytes}

unfoldable pub word_of : Bytes → ℕ
word_of [] = 0
word_of (b ∷ bs) = b + 256 * word_of bs
