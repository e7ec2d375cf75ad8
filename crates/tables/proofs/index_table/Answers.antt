-- `tables::index_table` meets its contract: the entries from the k-th on are in the index.
use Prim.Native.Nat.{◌+◌, ◌-◌, ◌/◌, ◌≤◌}
use mathlib.Core.Path.{◌≡◌, ◌∙◌}
use native.Mathlib.Omega.{arith}
use lib.ListN.{length, length-set}
use Rattle.rules.specs.Tables.{most_entries}
use Rattle.tables.specs.Index.{part_size}
use Rattle.tables.proofs.Entries.{entries_from, from_start, from_on, from_end, within, most}
use Rattle.tables.proofs.Slots.{free_on}
use Rattle.tables.proofs.Parts.{enter-start, enter-on, enter-end}
use Rattle.tables.proofs.index_table.Goals as goal

pub overflow_sub-free : goal.overflow_sub-free
overflow_sub-free c = omega (arith, most c.args.size c.args.table.now c.requires.le_size.2)

pub loop-k-init : goal.loop-k-init
loop-k-init c =
    let g = c.args in
    let count = length g.table.now / g.size in
    let few : count ≤ most_entries = most g.size g.table.now c.requires.le_size.2 in
    let at-end : g.first + part_size - count + count ≡ g.first + part_size = omega arith in (
      omega arith,
      few,
      rw (from_end g.size g.table.now count (omega arith), at-end)
          (enter-start g.size g.first g.slots.now c.requires.part_size_bound.0 c.requires.part_size_bound.1),
    )

pub entry-requires : goal.entry-requires
entry-requires c =
    let g = c.args in
    let l = c.loop-k in
    within g.size g.table.now (l.k - 1) (omega (arith, l.invariant.0))

pub insert-requires : goal.insert-requires
insert-requires c =
    let l = c.loop-k in
    (omega (arith, l.invariant.0, l.invariant.1), c.requires.part_size_bound.0, simp length-set (l.invariant.2.kept.long ∙ c.requires.part_size_bound.1.0))

pub loop-k-preserved : goal.loop-k-preserved
loop-k-preserved c =
    let l = c.loop-k in
    let g = c.args in
    let k = l.k - 1 in
    let free = g.first + part_size - length g.table.now / g.size in
    let up : k + 1 ≡ l.k = omega arith in
    let over : free + k + 1 ≡ free + l.k = omega arith in
    let code = c.entry.ensures in (
      omega (arith, l.invariant.0),
      l.invariant.1,
      rw (from_on g.size g.table.now k (omega (arith, l.invariant.0)), ← code.result_value)
          (enter-on g.size g.first g.slots.now (entries_from g.size (k + 1) g.table.now) (free + k) l.slots
          (rw (up, over) l.invariant.2) c.requires.le_size.0 c.requires.le_size.1
          (omega (arith, l.invariant.1)) (omega (arith, l.invariant.0, l.invariant.1)) (omega (arith, c.requires.part_size_bound.0, c.requires.part_size_bound.1.0))
          _ (record { long = code.result_len; bytes = c.key-new.ensures.are_bytes }) _ _ c.key-new.ensures.value c.hint.ensures.value _ c.insert.ensures),
    )

pub returns : goal.returns
returns c =
    let l = c.loop-k in
    let g = c.args in
    let e : l.k ≡ 0 = omega arith in
    let all = from_start g.size g.table.now in
    let kept = l.invariant.2.kept in record { part = enter-end g.size g.first g.slots.now _ _ l.slots (omega (arith, l.invariant.1)) (rw (e, all) at l.invariant.2); kept = kept; free = free_on g.first _ _ _ (omega arith) c.requires.part_size_bound.1 kept }
