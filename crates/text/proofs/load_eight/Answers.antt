-- `text::load_eight` meets its contract: each byte counts what it counts in a word.
use native.Mathlib.Omega.{arith}
use Rattle.text.proofs.Words.{eight-loaded}
use Rattle.text.proofs.load_eight.Goals as goal

pub returns : goal.returns
returns c =
    let told = eight-loaded c.args.part.now c.requires (λ i. omega (arith, c.type_inv.part i)) _ (rw c.in-Ok.ensures.1.same at c.from_le_bytes.ensures) in
    record { value = told.0; result_value = told.1 }
