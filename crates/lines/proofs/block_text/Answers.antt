-- `lines::block_text` meets its contract: the block has 32 bytes.
use Prim.Native.Nat.{◌+◌, ◌-◌}
use native.Mathlib.Omega.{arith}
use mathlib.Core.Path.{◌≡◌}
use Rattle.lines.proofs.block_text.Goals as goal

pub returns : goal.returns
returns c = let at = c.args.at in let size : at + 32 - at ≡ 32 = omega arith in rw size at c.short_text.ensures
