-- Internal: what the tallies of the code are of a transaction's details.
use Rattle.std.specs.Prelude.{ℕ, ◌≤◌, ◌<◌, ◌^◌, ◌≡◌, false, cond, List, [], ◌∷◌, length, get_or}
use Rattle.format.specs.Bytes.{Bytes}
use Rattle.rules.specs.Records.{is_type, only, any}
use Rattle.rules.specs.Publisher.{chain, is_e, e_spu}
use Rattle.rules.specs.Totals.{sum_of}
use Rattle.rules.specs.Chains.{all_shares, counts_spu, paid_e, is11, is13, is14}
use Rattle.chains.specs.declared.Chains.{Chains}

-- what a chain's first record is: 1 for SPU, 2 for OPU, 0 while it has none
abbrev pub begun_by : List Bytes → ℕ
begun_by [] = 0
begun_by (r ∷ rs) = cond (is_type "SPU" r) 1 2

-- the shares of its SPU records of type E and AQ
abbrev pub own_shares : List Bytes → ℕ
own_shares rs = sum_of all_shares (only counts_spu rs)

-- an array has an entry for each of 00 to 99, and entry k is f of chain k; `beyond` stands for an entry after its end, where nothing is read
pub record TallyOf {A : Type 0} (l : List A) (beyond : A) (f : List Bytes → A) (ds : List Bytes) : Type 0 where
  pub long : length l ≡ 100
  pub at : (k : ℕ) → k < 100 → get_or l k beyond ≡ f (chain k ds)

-- the tallies and flags are those of the details ds
pub record Tallied (c : Chains) (ds : List Bytes) : Type 0 where
  pub begun : TallyOf c.begun 0 begun_by ds
  pub es : TallyOf c.es 0 (λ rs. length (only is_e rs)) ds
  pub own : TallyOf c.own false (any e_spu) ds
  pub paid : TallyOf c.paid false (any paid_e) ds
  pub sums : TallyOf c.sums 0 own_shares ds
  pub many : c.many ≡ is11 ds
  pub joined : c.joined ≡ is13 ds
  pub kept : c.kept ≡ is14 ds

-- the counts and the sums have room for one record more
pub record Small (c : Chains) : Type 0 where
  pub es≤ : (k : ℕ) → k < 100 → get_or c.es k 0 ≤ 2 ^ 31
  pub sums≤ : (k : ℕ) → k < 100 → get_or c.sums k 0 ≤ 2 ^ 60
