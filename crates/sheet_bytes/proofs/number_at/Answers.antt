-- `sheet_bytes::number_at` meets its contract. Assumes nothing.
use Rattle.sheet_bytes.proofs.Numbers.{number_read}
use Rattle.sheet_bytes.proofs.number_at.Goals as goal

pub returns : goal.returns
returns c = let g = c.args in number_read g.bytes.now g.k _ c.load_eight.ensures.value
