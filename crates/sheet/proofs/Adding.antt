-- What each ending of taking a file comes to. Assumes nothing.
use mathlib.Core.Path.{◌≡◌, refl, ap, ◌∙◌}
use mathlib.Core.Bool.{true, false}
use mathlib.Core.List.{[], ◌∷◌}
use lib.Dec.{leb}
use Rattle.format.specs.Structure.{Answer, refused}
use Rattle.rules.specs.Sheet.{Taken, answer_to, Sheet, sheet_of, with_sheet, most_files, add}

module _ (s : Sheet) (x : Taken) where
  pub full-so : leb most_files s.files ≡ true → record { answer = refused 12 0; sheet = s } ≡ add s x
  unfolding add
  full-so e = rw e refl

  pub taken-so : leb most_files s.files ≡ false → (a : Answer) → a ≡ answer_to x → (u : Sheet) → u ≡ sheet_of (x ∷ [])
      → (t : Sheet) → t ≡ with_sheet s u → record { answer = a; sheet = t } ≡ add s x
  unfolding add
  taken-so e a is u one t more = rw e (λ i. record { answer = is i; sheet = (more ∙ ap (with_sheet s) one) i })
