-- `counts::Counts::numbers_for` meets its contract: each arm knows its class, and has the numbers that the format expects there.
-- Assumes nothing.
use mathlib.Core.Path.{refl, ap}
use native.Mathlib.Numerals.{add-one}
use Rattle.format.specs.Bytes.{decimal}
use Rattle.counts.specs.Counting.{counts_in}
use Rattle.counts.specs.Carried.{Carried}
use Rattle.counts.specs.declared.Numbers.TheVariants.{Nothing}
use Rattle.counts.proofs.Classes.{totals}
use Rattle.counts.proofs.Words.{zero_word, words-digits, closing}
use Rattle.counts.proofs.Counts.numbers_for.Goals as goal

pub returns-in-Grh : goal.returns-in-Grh
returns-in-Grh c = rw c.in-Grh.is (record { right = ap (decimal 5) (add-one _); start = refl; wide = refl })

pub returns-in-Head : goal.returns-in-Head
returns-in-Head c =
    let words = c.requires.0.1 in
    rw c.in-Head.is (record { right = words-digits _ _ _ 0 words.0 zero_word; start = refl; wide = refl })

pub returns-in-Detail : goal.returns-in-Detail
returns-in-Detail c =
    let words = c.requires.0.1 in
    rw c.in-Detail.is (record { right = words-digits _ _ _ _ words.1 words.2; start = refl; wide = refl })

pub returns-in-Grt : goal.returns-in-Grt
returns-in-Grt c =
    let words = c.requires.0.1 in
    rw c.in-Grt.is (record { right = closing _ _ _ _ _ words.0 words.3; start = refl; wide = refl })

pub returns-in-Trl : goal.returns-in-Trl
returns-in-Trl c = rw c.in-Trl.is (record { right = totals _ _ _; start = refl; wide = refl })
