-- Internal: the one number as the code makes it of any answer. Within the size limits it is the exact one (proofs/Exact.antt).
use Rattle.std.specs.Prelude.{ℕ, ◌%◌, ◌^◌}
use Rattle.format.specs.Structure.{Answer, refused, passed}
use Rattle.answers.specs.Numbers.{exact}

-- of the place the last 32 bits
abbrev pub packed_of : Answer → ℕ
packed_of (refused n i) = exact (refused n (i % 2 ^ 32))
packed_of (passed g m r) = exact (passed g m r)
