-- Refusal 11, after those of admission. Assumes nothing.
use Prim.Native.Nat.{ℕ}
use mathlib.Core.Path.{◌≡◌, ap, ◌∙◌}
use Rattle.format.specs.Bytes.{Bytes}
use Rattle.format.specs.Structure.{Answer}
use Rattle.format.specs.Lent.{in_room}
use Rattle.rules.specs.Tables.{Tables}
use Rattle.rules.specs.Outcome.{enough, admission, answer}

-- after all others
pub answered : (tables : Tables) (t : ℕ) (f : Bytes) (v g : ℕ) (a b : Answer) → a ≡ admission tables t f → b ≡ in_room (enough v g) a
    → b ≡ answer tables t f v g
unfolding answer
answered tables t f v g a b let-in room = room ∙ ap (in_room (enough v g)) let-in
