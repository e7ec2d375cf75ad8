-- Internal: what is written into the two lent buffers, and what is left.
use Rattle.std.specs.Prelude.{◌≡◌, Bool, List, ℕ, ◌+◌, ◌*◌, ◌≤◌, length}
use Rattle.format.specs.Bytes.{Bytes}
use Rattle.format.specs.Lent.{splice}
use Rattle.rules.specs.Verdicts.{finding_bytes}

-- from record i on, one entry a record: the verdicts vs went into v and the sets fs into f, which are now v' and f'. No other byte changed
pub record Written (i : ℕ) (vs : List ℕ) (fs : List (List Bool)) (v f v' f' : Bytes) : Type 0 where
  pub verdicts : v' ≡ splice i vs v
  pub findings : f' ≡ splice (8 * i) (finding_bytes fs) f
  pub even : length vs ≡ length fs
  pub in_v : i + length fs ≤ length v
  pub in_f : 8 * (i + length fs) ≤ length f
