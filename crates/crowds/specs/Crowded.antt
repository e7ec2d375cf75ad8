-- Internal: the walk that looks for a transaction with too many claims, and what it answers.
use Rattle.std.specs.Prelude.{ℕ, ◌+◌, cond, Option, None, Some}
use Rattle.std.proofs.Math.Option.{Option as Place, none, some}
use Rattle.format.specs.Table.{detail}
use Rattle.format.specs.Checks.{is}
use Rattle.kinds.specs.Rows.{class_in, of_claim}
use Rattle.kinds.specs.declared.Row.{Row}
use Rattle.crowds.specs.declared.Walk.{Walk}

abbrev pub crowd_of : Option ℕ → Place ℕ
crowd_of None = none
crowd_of (Some i) = some i

-- the walk past one record more, of that row: a detail, which may be a claim, or one that begins a count
unfoldable pub passed : Row → Walk → Walk
passed row w = record {
  at = w.at + row.length + 2;
  index = w.index + 1;
  header = cond (is detail (class_in row.class)) w.header w.index;
  claims = cond (is detail (class_in row.class)) (cond (of_claim row.sort) (w.claims + 1) w.claims) 0;
}
