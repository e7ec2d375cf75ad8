-- `lister::Page::figure` meets its contract: ten digits, and the zeros before them left out. Assumes nothing.
use native.Mathlib.Omega.{arith}
use mathlib.Core.Path.{◌≡◌}
use lib.ListN.{length}
use Rattle.std.proofs.Common.{rules}
use Rattle.lister.proofs.Words.{digits-put, digits-most, figure-put}
use Rattle.lister.proofs.Page.figure.Goals as goal

pub returns : goal.returns
returns c =
    let d = c.decimal.new.out in
    let k = c.zeros-from.result in
    let ten : length d ≡ 10 = search rules in (
      figure-put c.args.n c.args.end d c.decimal.ensures (digits-put d 10 k c.args.end ten c.zeros-from.ensures.digits_value c.word.ensures.0),
      omega (arith, ten, digits-most d 10 k ten, c.word.ensures.1),
      c.word.ensures.2,
    )
