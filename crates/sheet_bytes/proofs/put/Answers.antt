-- `sheet_bytes::put` meets its contract: the parts go one after the other. Assumes nothing.
use Prim.Native.Nat.{ℕ}
use mathlib.Core.Path.{◌≡◌, ap, ◌∙◌}
use mathlib.Core.List.{List}
use borrow.Author.Rules.{rules}
use lib.ListN.{length}
use Rattle.format.specs.Bytes.{Bytes}
use Rattle.sheet.specs.Told.{told_of}
use Rattle.sheet_bytes.specs.Put.{numbers_put}
use Rattle.sheet_bytes.proofs.Numbers.{sheet-put}
use Rattle.sheet_bytes.proofs.put.Goals as goal

-- the same numbers
same : (k : ℕ) (b : Bytes) {ms ns : List ℕ} → ms ≡ ns → numbers_put k ms b ≡ numbers_put k ns b
same k b e = ap (λ (l : List ℕ). numbers_put k l b) e

pub returns : goal.returns
returns c =
    let s = c.args.s in
    let findings : length s.findings ≡ 64 = search rules in
    let verdicts : length s.verdicts ≡ 5 = search rules in
    sheet-put (told_of s) findings verdicts c.args.bytes.now _ _ _ _ _ _ c.requires c.store.ensures
    (c.store-2.ensures ∙ same 2 c.store.new.bytes c.missed_numbers.ensures)
    (c.store-3.ensures ∙ same 6 c.store-2.new.bytes c.missed_numbers-2.ensures)
    (c.store-4.ensures ∙ same 10 c.store-3.new.bytes c.missed_numbers-3.ensures)
    c.store-5.ensures c.store-6.ensures
