-- The header before which a walk stands: where its details begin. Assumes nothing.
use Prim.Native.Nat.{ℕ, ◌+◌, ◌≤◌}
use mathlib.Core.Path.{◌≡◌, sym, ap, ◌∙◌}
use mathlib.Core.Bool.{true}
use mathlib.Core.List.{List, ◌∷◌}
use lib.ListN.{length}
use Rattle.format.specs.Bytes.{Bytes}
use Rattle.format.specs.Table.{head}
use Rattle.format.specs.Cwr22.{cwr22}
use Rattle.format.specs.Checks.{cls}
use Rattle.format.specs.Structure.{first_record}
use Rattle.format.specs.Tree.{is_head}
use Rattle.structure.specs.Cursor.{Here}
use Rattle.transactions.specs.Walk.{rest_at}
use Rattle.transactions.proofs.Levels.{first-left}
use Rattle.transactions.proofs.Sizes.{transaction-header, ends, position-after, left_after}
use Rattle.collection.specs.declared.Walk.{Walk}
use Rattle.collection.specs.Walk.{Standing}

pub record Headed (f : Bytes) (m : ℕ) (w : Walk) (first : ℕ) : Type 0 where
  pub left : rest_at f w.at ≡ first_record (rest_at f w.at) ∷ rest_at f first
  pub its : is_head cwr22 (first_record (rest_at f w.at)) ≡ true
  pub here : Here f first head (rest_at f first)
  pub counted : w.index + 1 + length (rest_at f first) ≡ m
  pub ends : w.at + 260 + 2 ≤ length f

pub headed : {f : Bytes} {m : ℕ} {w : Walk} → Standing f m w → cls cwr22 (first_record (rest_at f w.at)) ≡ head → (first : ℕ) → first ≡ w.at + 260 + 2
    → Headed f m w first
headed {f} {m} {w} standing is first e =
    let p = standing.position in
    let next = position-after transaction-header p standing.more is first e in
    record {
      left = first-left p.here standing.more ∙ ap (λ (rs : List Bytes). first_record (rest_at f w.at) ∷ rs) (sym (left_after transaction-header p standing.more is first e));
      its = rw is;
      here = next.here;
      counted = next.left;
      ends = ends transaction-header p.here standing.more is;
    }
