-- `sheet_bytes::put_number` meets its contract. Assumes nothing.
use Rattle.sheet_bytes.proofs.Numbers.{number_put}
use Rattle.sheet_bytes.proofs.put_number.Goals as goal

pub returns : goal.returns
returns c =
    let g = c.args in
    number_put g.bytes.now g.k g.n _ c.store_eight.ensures
