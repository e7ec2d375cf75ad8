-- The loop that fills the list: of all claims es, the first n are stored over ys, and the others are read from a place on, after so many
-- parties. Assumes nothing.
use Rattle.std.proofs.Common.{◌≡◌, ◌≤◌, ◌++◌, ℕ, List, length, take, drop}
use Rattle.format.specs.Bytes.{Bytes}
use Rattle.claims.specs.declared.Claim.{Claim}
use Rattle.parties.specs.Ahead.{Within, entries_at}

pub record Standing (f table : Bytes) (es ys zs : List Claim) (n place party : ℕ) : Type 0 where
  pub upto : n ≤ length es
  pub stored : zs ≡ take n es ++ drop n ys
  pub left : drop n es ≡ entries_at f table place party
  pub within : Within f table place party
