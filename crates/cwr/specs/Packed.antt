-- Internal: the one number as the code makes it of any answer about the first work. Within the size limits it is the exact one
-- (proofs/Firsts.antt).
use Rattle.std.specs.Prelude.{ℕ, ◌-◌, ◌^◌}
use Rattle.rules.specs.First.{First, refused_with, nothing, at}
use Rattle.answers.specs.Packed.{packed_of}

abbrev pub packed_first : First → ℕ
packed_first (refused_with a) = packed_of a
packed_first nothing = 2 ^ 32 - 1
packed_first (at k) = k
