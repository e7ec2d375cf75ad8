-- `structure::answer` meets its contract: 3, and then what the walk leaves for the scans to decide.
use mathlib.Core.Path.{◌≡◌, ap, ◌∙◌}
use mathlib.Core.Bool.{Bool}
use Prim.Native.Nat.{ℕ, ◌-◌}
use native.Mathlib.Omega.{arith}
use lib.ListN.{take}
use Rattle.lines.specs.Scan.{text_length}
use Rattle.format.specs.Table.{unknown}
use Rattle.format.specs.Cwr22.{cwr22, version22}
use Rattle.format.specs.Checks.{none_counted}
use Rattle.structure.specs.Rest.{rest_from}
use Rattle.structure.proofs.Whole.{whole_long, whole-fits}
use Rattle.structure.proofs.answer.Goals as goal

pub returns-then-file-gt-MOST_BYTES : goal.returns-then-file-gt-MOST_BYTES
returns-then-file-gt-MOST_BYTES c = whole_long c.args.file.now c.args.asked c.if-file-gt-MOST_BYTES.true

pub returns : goal.returns
returns c =
    let g = c.args in
    let n : c.text_end-end.result - 0 ≡ text_length g.file.now = omega (arith, c.text_end-end.ensures.value) in
    c.scan.ensures
    ∙ c.walk-s.ensures.rest c.version-good.result
    ∙ ap (λ (v : Bool). rest_from cwr22 g.asked v unknown none_counted g.file.now)
    (c.version-good.ensures ∙ ap (λ (k : ℕ). version22 (take k g.file.now)) n)
    ∙ whole-fits g.file.now g.asked c.if-file-gt-MOST_BYTES.false
