-- Internal: what a `Tally` says of the details so far.
use Rattle.std.specs.Prelude.{◌≡◌, List, ◌*◌, length}
use Rattle.format.specs.Bytes.{Bytes}
use Rattle.totals.specs.Sums.{Sums, Below}
use Rattle.order.specs.Walk.{reached, standing}
use Rattle.tally.specs.Marked.{Marked}
use Rattle.edits.specs.Sequences.{last_sequence}
use Rattle.tally.specs.declared.Tally.{Tally}

pub record Known (y : Tally) (ds : List Bytes) : Type 0 where
  pub totals : Sums y.totals ds
  -- so no total comes near what its type holds
  pub below : Below (99999 * length ds) y.totals
  pub order : standing y.order ≡ reached ds
  pub marks : Marked y.marks ds
  pub last : y.last ≡ last_sequence ds
