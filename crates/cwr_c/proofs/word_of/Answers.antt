-- `cwr_c::word_of` meets its contract. Assumes nothing.
use Rattle.cwr_c.proofs.ClaimsLaws.{nowhere-word, over_word}
use Rattle.cwr_c.proofs.word_of.Goals as goal

pub returns-in-None : goal.returns-in-None
returns-in-None c = rw c.in-None.is nowhere-word

pub returns-in-Some : goal.returns-in-Some
returns-in-Some c = rw c.in-Some.is (over_word c.in-Some.first.transaction c.in-Some.first.territory)
