-- `tables::Tables::index` meets its contract: what is written into a part leaves those before it.
use Prim.Native.Nat.{◌+◌}
use native.Mathlib.Omega.{arith}
use borrow.Author.Rules.{rules}
use Rattle.tables.specs.Index.{part_size}
use Rattle.tables.proofs.Slots.{free-start}
use Rattle.tables.proofs.Parts.{part_stays}
use Rattle.tables.proofs.Tables.index.Goals as goal

pub index_table-requires : goal.index_table-requires
index_table-requires c =
    record { part_size_bound = (search rules, free-start c.args.slots.now c.requires.3); le_size = search rules }

pub returns : goal.returns
returns c =
    let third = c.index_table-3.ensures in
    let second = c.index_table-2.ensures in
    let first = c.index_table.ensures in
    record {
      of_languages =
          part_stays _ _ 0 (part_size + part_size) _ _ _ (omega arith) third.kept
          (part_stays _ _ 0 part_size _ _ _ (omega arith) second.kept first.part);
      of_societies = part_stays _ _ part_size (part_size + part_size) _ _ _ (omega arith) third.kept second.part;
      of_categories = third.part;
    }
