-- `counts::Counts::zero` meets its contract: its words are those of 0, and of 1 for GRT.
-- Assumes nothing.
use mathlib.Core.Path.{refl}
use Rattle.counts.proofs.Words.{zero_word, one_word}
use native.Mathlib.Omega.{arith}
use Rattle.counts.proofs.Counts.zero.Goals as goal

pub returns : goal.returns
returns c = record { result_value = refl; can_grow = (((omega arith, (zero_word, zero_word, zero_word, one_word)), omega arith), refl) }
