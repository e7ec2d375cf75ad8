-- A whole file: HDR, its groups, TRL. Assumes nothing.
use Prim.Native.Nat.{ℕ, ◌+◌}
use native.Mathlib.Omega.{arith}
use mathlib.Core.Path.{◌≡◌, refl, sym, ap, ◌∙◌}
use mathlib.Core.List.{[], ◌∷◌}
use lib.ListN.{length}
use Rattle.format.specs.Bytes.{Bytes}
use Rattle.format.specs.Table.{hdr, unknown}
use Rattle.format.specs.Cwr22.{cwr22}
use Rattle.format.specs.Checks.{is, cls}
use Rattle.format.specs.Structure.{first_record}
use Rattle.format.specs.Tree.{groups_in, tree}
use Rattle.format.proofs.Logic.{is_T}
use Rattle.format.proofs.Tree.{is→eq}
use Rattle.format.proofs.Walks.{groups-skip}
use Rattle.rules.specs.Tables.{Tables}
use Rattle.rules.specs.Verdicts.{file_findings_by, file_verdicts_by}
use Rattle.rules.specs.Outcome.{content}
use Rattle.structure.specs.Cursor.{Here}
use Rattle.transactions.specs.Walk.{rest_at, tail_of, Position, Filled}
use Rattle.transactions.proofs.Levels.{first-left}
use Rattle.transactions.proofs.Entries.{filled-then}
use Rattle.transactions.proofs.Sizes.{file-header, left_after, position-after}
use Rattle.files.specs.Levels.{FilledGroups, WrittenFile}
use Rattle.files.proofs.Controls.{follows}

module _ {f : Bytes} (h : Here f 0 unknown (rest_at f 0)) where
  pub outset : Position f (length (rest_at f 0)) 0 0 unknown (rest_at f 0)
  outset = record { here = h; left = omega arith }

  is-hdr : cls cwr22 (first_record (rest_at f 0)) ≡ hdr
  is-hdr = sym (is→eq hdr _ (is_T (is hdr (cls cwr22 (first_record (rest_at f 0)))) (follows unknown refl (rest_at f 0) h.placed)))

  pub groups-here : Position f (length (rest_at f 0)) 169 1 hdr (rest_at f 169)
  groups-here = position-after file-header outset refl is-hdr 169 refl

  pub all-groups : (content f).groups ≡ groups_in cwr22 (rest_at f 169)
  unfolding tree
  all-groups =
      ap (groups_in cwr22) (first-left h refl)
      ∙ groups-skip cwr22 (first_record (rest_at f 0)) (tail_of (rest_at f 0)) (rw is-hdr refl)
      ∙ ap (groups_in cwr22) (sym (left_after file-header outset refl is-hdr 169 refl))

  pub written-file : (tables : Tables) (t n : ℕ) {v₀ g₀ v₁ g₁ v₂ g₂ v₃ g₃ : Bytes} → Filled 0 1 (0 ∷ []) ([] ∷ []) v₀ g₀ v₁ g₁
      → FilledGroups tables t 1 n (groups_in cwr22 (rest_at f 169)) v₁ g₁ v₂ g₂ → Filled n (n + 1) (0 ∷ []) ([] ∷ []) v₂ g₂ v₃ g₃
      → WrittenFile tables t f v₀ g₀ v₃ g₃
  unfolding file_verdicts_by file_findings_by
  written-file tables t n opened groups closed = rw all-groups (filled-then (filled-then opened groups) closed).written
