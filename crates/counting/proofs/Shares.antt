-- What transactions miss of the full share, one after the other. Assumes nothing.
use Prim.Native.Nat.{ℕ, suc, ◌+◌, ◌≤◌}
use native.Mathlib.Omega.{arith}
use mathlib.Core.Path.{◌≡◌, sym, ap, ◌∙◌, subst}
use mathlib.Core.List.{List, [], ◌∷◌, ◌++◌, append_assoc, append-nil}
use lib.ListN.{length}
use Rattle.format.specs.Doc.{Transaction}
use Rattle.totals.specs.declared.Rights.{Rights}
use Rattle.figures.specs.declared.Misses.{Misses}
use Rattle.figures.specs.declared.Missing.{Missing}
use Rattle.figures.specs.Counted.{missing_of, whole_of, UpTo, Within, WithinAll}
use Rattle.counting.specs.Levels.{MissingOn}

-- ---- more records have no less

within-one : {a b : ℕ} {m : Misses} → a ≤ b → Within a m → Within b m
within-one h w = record {
  transactions = omega (arith, h, w.transactions);
  short = omega (arith, h, w.short);
  over = omega (arith, h, w.over);
}

pub within_more : {a b : ℕ} {m : Missing} → a ≤ b → WithinAll a m → WithinAll b m
within_more h (pr, mr, sr) = (within-one h pr, within-one h mr, within-one h sr)

pub up_more : (a b : ℕ) {total : Rights} → a ≤ b → UpTo a total → UpTo b total
up_more a b h (pr, mr, sr) = (omega (arith, h, pr), omega (arith, h, mr), omega (arith, h, sr))

-- ---- none, one more, and others

pub missing-none : (i : ℕ) (m : Missing) → MissingOn i i [] m m
missing-none i m = record { missing = λ before e. e ∙ ap missing_of (sym (append-nil before)); few = λ w. w }

module _ {i n : ℕ} {xs : List Transaction} {m₀ m : Missing} (on : MissingOn i n xs m₀ m) where
  pub missing-then : {k : ℕ} {ys : List Transaction} {m' : Missing} → MissingOn n k ys m m' → MissingOn i k (xs ++ ys) m₀ m'
  missing-then {ys = ys} next = record {
    missing = λ before e. next.missing (before ++ xs) (on.missing before e) ∙ ap missing_of (append_assoc before xs ys);
    few = λ w. next.few (on.few w);
  }

  pub missing-wider : {j k : ℕ} → j ≤ i → n ≤ k → MissingOn j k xs m₀ m
  missing-wider a b = record { missing = on.missing; few = λ w. within_more b (on.few (within_more a w)) }

-- a transaction, with as many records as it has details and its header
pub missing-one : {n k : ℕ} {m m' : Missing} {total : Rights} (x : Transaction) → k ≡ n + suc (length x.details) → total ≡ whole_of x
    → UpTo (length x.details) total
    → ((ys : List Transaction) (y : Transaction) → m ≡ missing_of ys → total ≡ whole_of y → m' ≡ missing_of (ys ++ y ∷ []))
    → ((a b : ℕ) → WithinAll a m → UpTo b total → 1 ≤ b → WithinAll (a + b) m') → MissingOn n k (x ∷ []) m m'
missing-one {n} {k} {m' = m'} x end whole up more few = record {
  missing = λ before e. more before x e whole;
  few = λ w. subst (λ (j : ℕ). WithinAll j m') (sym end)
      (few n (suc (length x.details)) w (up_more (length x.details) (suc (length x.details)) (omega arith) up) (omega arith));
}
