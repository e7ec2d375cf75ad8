-- `parties::larger_of` meets its contract. Assumes nothing.
use Prim.Native.Nat.{ℕ}
use mathlib.Core.Path.{◌≡◌, sym, ap, ◌∙◌}
use Rattle.std.specs.Prelude.{max}
use Rattle.rules.specs.Findings.{larger}
use Rattle.rules.proofs.Counts.{larger-max}
use Rattle.parties.proofs.larger_of.Goals as goal

-- the library's maximum of a number that was widened
as-larger : (a b n m : ℕ) → n ≡ a → m ≡ max n b → m ≡ larger a b
as-larger a b n m e f = f ∙ ap (λ (x : ℕ). max x b) e ∙ sym (larger-max a b)

pub returns : goal.returns
returns c =
    let claim = c.args.claim in
    let shares = c.args.shares in
    let pr = as-larger claim.pr shares.pr _ _ c.from.ensures c.max.ensures in
    let mr = as-larger claim.mr shares.mr _ _ c.from-2.ensures c.max-2.ensures in
    let sr = as-larger claim.sr shares.sr _ _ c.from-3.ensures c.max-3.ensures in
    rw (pr, mr, sr)
