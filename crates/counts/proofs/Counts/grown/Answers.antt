-- `counts::Counts::grown` meets its contract: the word that is picked is that of the count that is picked.
-- Assumes nothing.
use Prim.Native.Nat.{ℕ, ◌+◌}
use mathlib.Core.Path.{ap, ◌∙◌}
use Rattle.format.specs.Bytes.{decimal}
use Rattle.text.specs.Words.{word_of}
use Rattle.counts.proofs.Words.{picked}
use Rattle.counts.proofs.Counts.grown.Goals as goal

pub next_eight-requires : goal.next_eight-requires
next_eight-requires c =
    let n = c.args.self in
    rw (c.pick-word.ensures, c.pick-count.ensures)
    (picked c.args.head n.header_word n.record_word n.in_group n.in_transaction c.requires.0 c.requires.2)

pub returns : goal.returns
returns c = c.next_eight.ensures ∙ ap (λ (k : ℕ). word_of (decimal 8 (k + 1))) c.pick-count.ensures
