-- Internal: how many findings there are.
use Rattle.std.specs.Prelude.{ℕ}

abbrev pub many : ℕ
many = 47
