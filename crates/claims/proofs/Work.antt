-- Numbers and rights that a condition picks, and an entry whose fields are 0. Assumes nothing.
use Prim.Native.Nat.{ℕ, ◌+◌, ◌≤◌}
use mathlib.Core.Path.{◌≡◌, refl}
use mathlib.Core.Bool.{Bool, true, false, cond}
use Rattle.rules.specs.Totals.{Right, PR, MR, SR}
use Rattle.totals.specs.declared.Rights.{Rights}
use Rattle.totals.specs.Sums.{rights, plus}
use Rattle.claims.specs.declared.Claim.{Claim}
use Rattle.claims.specs.Zeros.{no_claim}
use Rattle.claims.specs.Work.{of_right}

pub cond-most : (b : Bool) (m n k : ℕ) → m ≤ k → n ≤ k → cond b m n ≤ k
cond-most true m n k g h = g
cond-most false m n k g h = h

-- ---- by right

pub of-cond : (b : Bool) (x y : Rights) (r : Right) → of_right (cond b x y) r ≡ cond b (of_right x r) (of_right y r)
of-cond true x y r = refl
of-cond false x y r = refl

pub of-plus : (x y : Rights) (r : Right) → of_right (plus x y) r ≡ of_right x r + of_right y r
of-plus x y PR = refl
of-plus x y MR = refl
of-plus x y SR = refl

pub of-rights : (f : Right → ℕ) (r : Right) → of_right (rights f) r ≡ f r
of-rights f PR = refl
of-rights f MR = refl
of-rights f SR = refl

-- ---- an entry whose fields are 0

pub all-zeros : (e : Claim) → (e.party ≡ 0) × ((e.code ≡ 0) × ((e.mark ≡ 0) × ((e.pr ≡ 0) × ((e.mr ≡ 0) × (e.sr ≡ 0))))) → e ≡ no_claim
all-zeros e h =
    let fields : record { party = e.party; code = e.code; mark = e.mark; pr = e.pr; mr = e.mr; sr = e.sr } ≡ no_claim =
    rw (h.0, h.1.0, h.1.1.0, h.1.1.1.0, h.1.1.1.1.0, h.1.1.1.1.1) in
    fields
