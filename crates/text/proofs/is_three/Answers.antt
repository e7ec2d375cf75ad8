-- `text::is_three` meets its contract: slices are compared as the format compares bytes.
use mathlib.Core.Path.{ap, ◌∙◌}
use mathlib.Core.List.{List}
use Prim.Native.Nat.{ℕ}
use Rattle.format.specs.Bytes.{same_bytes}
use Rattle.text.proofs.Laws.{sliced}
use Rattle.text.proofs.is_three.Goals as goal

pub returns : goal.returns
returns c =
    let field = c.args.field.now in
    c.eq.ensures ∙ sliced field c.as_slice.result.now ∙ ap (λ (l : List ℕ). same_bytes field l) c.as_slice.ensures
