-- Internal: the code's totals as those of a list of details.
use Rattle.std.specs.Prelude.{◌≡◌, List, ℕ, ◌+◌, ◌≤◌}
use Rattle.format.specs.Bytes.{Bytes}
use Rattle.rules.specs.Totals.{Right, PR, MR, SR, publishers_total, writers_total}
use Rattle.totals.specs.declared.Rights.{Rights}
use Rattle.totals.specs.declared.Totals.{Totals}

-- what a right has, of each right
abbrev pub rights : (Right → ℕ) → Rights
rights f = record { pr = f PR; mr = f MR; sr = f SR }

abbrev pub plus : Rights → Rights → Rights
plus a b = record { pr = a.pr + b.pr; mr = a.mr + b.mr; sr = a.sr + b.sr }

pub record Sums (totals : Totals) (ds : List Bytes) : Type 0 where
  pub publishers : totals.publishers ≡ rights (λ right. publishers_total right ds)
  pub writers : totals.writers ≡ rights (λ right. writers_total right ds)

-- none is over k
abbrev pub AtMost : ℕ → Rights → Type 0
AtMost k r = (r.pr ≤ k) × (r.mr ≤ k) × (r.sr ≤ k)

abbrev pub Below : ℕ → Totals → Type 0
Below k totals = AtMost k totals.publishers × AtMost k totals.writers
