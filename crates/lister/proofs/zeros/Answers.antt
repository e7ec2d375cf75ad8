-- `lister::zeros` meets its contract: `position` finds the first digit before the last that is no zero. Assumes nothing.
use Prim.Native.Nat.{◌-◌}
use mathlib.Core.Path.{◌≡◌, refl, sym, ap, ◌∙◌}
use native.Mathlib.Omega.{arith}
use lib.ListN.{length, take, drop}
use lib.Seq.{length-take-le}
use borrow.Author.Tests.{tests}
use Rattle.std.proofs.Common.{rules}
use Rattle.std.specs.Option.{unwrap_or}
use Rattle.std.proofs.lemmas.Iterator.{index_from_first, IsFirst-from_position, YieldsList-from_slice}
use Rattle.lister.proofs.Words.{lead, lead-stops, lead-goes, left-out, left-most}
use Rattle.lister.proofs.zeros.Goals as goal

pub returns : goal.returns
returns c =
    let d = c.args.digits.now in
    let last = c.saturating_sub-last.result in
    let is = c.saturating_sub-last.ensures in
    let rest = take (last - 0) (drop 0 d) in
    let z : last - 0 ≡ last = omega arith in
    let all : rest ≡ take last d = rw z refl in
    let long : length rest ≡ last = rw z (length-take-le last d (omega (arith, is))) in
    let end : lead rest ≡ unwrap_or c.position.result (length rest) =
    index_from_first lead (λ x. x ≡ 48 → ⊥) (λ x. x ≡ 48) refl lead-stops lead-goes rest c.position.result
    (IsFirst-from_position _ _ _ (λ x. x ≡ 48 → ⊥) (λ x. x ≡ 48) c.position.ensures.ran
    (YieldsList-from_slice rest (cc)) (λ x q k. search (rules, tests)) (λ x q k. search (rules, tests))) in
    let same : c.unwrap_or.result ≡ lead (take last d) =
    c.unwrap_or.ensures ∙ ap (unwrap_or c.position.result) (sym long) ∙ sym end ∙ ap lead all in
    record { digits_value = left-out d last _ is same; upper_bound = left-most d last _ is same }
