use mathlib.Core.Path.{◌≡◌}
use lib.ListN.{length, take}
use Rattle.sheet_bytes.specs.Put.{numbers_put}
use Rattle.sheet_bytes.proofs.store.Given as goal

abbrev pub invariant-loop-i : goal.invariant-loop-i
invariant-loop-i l = (length l.bytes ≡ length l.initial.bytes) × (l.bytes ≡ numbers_put l.k (take l.i l.numbers) l.initial.bytes)
