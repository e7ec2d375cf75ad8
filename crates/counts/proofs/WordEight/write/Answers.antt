-- a word's write meets its contract: from a to e there are eight bytes.
use mathlib.Core.Path.{ap, ◌∙◌}
use Prim.Native.Nat.{◌+◌, ◌-◌}
use borrow.Rule.Slice.PartMut.{put_mid}
use Rattle.format.specs.Bytes.{Bytes, bytes_of}
use Rattle.format.proofs.Decimal.{length-bytes}
use Rattle.counts.proofs.Laws.{over-part}
use borrow.Author.Rules.{rules}
use Rattle.counts.proofs.WordEight.write.Goals as goal

pub returns : goal.returns
returns c =
    let g = c.args in
    let a = g.start - 1 in
    ap (λ (x : Bytes). put_mid a (a + 8 - a) g.out.now x) c.store_eight.ensures
    ∙ over-part g.start 8 g.out.now (bytes_of 8 g.self.0) (search rules) (length-bytes 8 g.self.0)
