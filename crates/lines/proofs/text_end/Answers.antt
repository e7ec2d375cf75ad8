-- `lines::text_end` meets its contract: the text from a place on ends where `position` finds the first byte that is none.
use Prim.Native.Nat.{◌+◌, ◌-◌}
use mathlib.Core.Path.{◌≡◌, refl, sym, ap, ◌∙◌}
use mathlib.Core.Bool.{true, false}
use native.Mathlib.Omega.{arith}
use lib.ListN.{length, take, drop, length-drop}
use lib.Seq.{take_all}
use borrow.Author.Tests.{tests}
use Rattle.std.proofs.Common.{rules}
use Rattle.std.specs.Option.{unwrap_or}
use Rattle.std.proofs.lemmas.Iterator.{index_from_first, IsFirst-from_position, YieldsList-from_slice}
use Rattle.format.specs.Bytes.{is_text}
use Rattle.lines.specs.Scan.{text_length}
use Rattle.lines.proofs.Laws.{length-stops, length-goes, length-most}
use Rattle.lines.proofs.text_end.Goals as goal

pub returns : goal.returns
returns c =
    let file = c.args.file.now in
    let at = c.args.at in
    let rest = take (length file - at) (drop at file) in
    let all : rest ≡ drop at file = take_all (length file - at) (drop at file) (omega (arith, length-drop at file)) in
    let end : text_length rest ≡ unwrap_or c.position.result (length rest) =
    index_from_first text_length (λ x. is_text x ≡ false) (λ x. is_text x ≡ true) refl length-stops length-goes rest c.position.result
    (IsFirst-from_position _ _ _ (λ x. is_text x ≡ false) (λ x. is_text x ≡ true) c.position.ensures.ran
    (YieldsList-from_slice rest (cc)) (λ x q k. search (rules, tests)) (λ x q k. search (rules, tests))) in
    let same : c.unwrap_or.result ≡ text_length (drop at file) = rw (← all) (c.unwrap_or.ensures ∙ sym end) in
    record { value = ap (λ k. at + k) same; upper_bound = omega (arith, same, length-most (drop at file), length-drop at file) }
