-- Internal: what a walk over details is for, and for each purpose what is lent to it and what it has done. The buffers v and g are those of a
-- check, fs and ls the counts by finding and by level; with a ₀ they are as they were.
use Rattle.std.specs.Prelude.{◌≡◌, Bool, true, false, List, [], ◌∷◌, ◌++◌, map, ℕ, ◌+◌, ◌*◌, ◌<◌, ◌≤◌, length}
use Rattle.format.specs.Bytes.{Bytes}
use Rattle.rules.specs.Tables.{Tables}
use Rattle.rules.specs.Records.{any}
use Rattle.rules.specs.Findings.{set_of, worst}
use Rattle.rules.specs.Works.{details_from}
use Rattle.rules.specs.Verdicts.{rejects}
use Rattle.findings.specs.Many.{many}
use Rattle.edits.specs.declared.Found.{Found}
use Rattle.buffers.specs.Written.{Written}
use Rattle.figures.specs.Counted.{Counts, Few}
use Rattle.transactions.specs.Walk.{Room, Filled}
use Rattle.transactions.specs.declared.Purpose.{Purpose}
use Rattle.transactions.specs.declared.Purpose.TheVariants.{Write, Count, Search}

abbrev pub is_write : Purpose → Bool
is_write Write = true
is_write Count = false
is_write Search = false

abbrev pub is_count : Purpose → Bool
is_count Write = false
is_count Count = true
is_count Search = false

abbrev pub is_search : Purpose → Bool
is_search Write = false
is_search Count = false
is_search Search = true

-- ---- one detail

-- record i: its entry is written or not
abbrev pub Writes : Bool → (i : ℕ) (v g : Bytes) → Type 0
Writes true i v g = (i < length v) × (8 * (i + 1) ≤ length g)
Writes false i v g = Unit {0}

abbrev pub Wrote : Bool → (i : ℕ) (found : Found) (v₀ g₀ v g : Bytes) → Type 0
Wrote true i found v₀ g₀ v g = (set : List Bool) → found.set ≡ set_of set → Written i (found.level ∷ []) (set ∷ []) v₀ g₀ v g
Wrote false i found v₀ g₀ v g = (v ≡ v₀) × (g ≡ g₀)

-- it is counted or not
abbrev pub Tells : Bool → (level : ℕ) (fs ls : List ℕ) → Type 0
Tells true level fs ls = Few fs ls × (level ≤ 4)
Tells false level fs ls = Unit {0}

abbrev pub Told : Bool → (found : Found) (fs₀ ls₀ fs ls : List ℕ) → Type 0
Told true found fs₀ ls₀ fs ls =
    (sets : List (List Bool)) (verdicts : List ℕ) (set : List Bool) → found.set ≡ set_of set → found.level ≡ worst set → length set ≤ many
    → Counts sets verdicts fs₀ ls₀ → Counts (sets ++ set ∷ []) (verdicts ++ found.level ∷ []) fs ls
Told false found fs₀ ls₀ fs ls = (fs ≡ fs₀) × (ls ≡ ls₀)

-- ---- all details of a transaction

-- the counts are those of no more than n records
pub record Begun (n : ℕ) (fs ls : List ℕ) : Type 0 where
  pub sets : List (List Bool)
  pub verdicts : List ℕ
  pub counts : Counts sets verdicts fs ls
  pub few_sets : length sets ≤ n
  pub few_verdicts : length verdicts ≤ n

-- before record n of m
abbrev pub LentFor : Purpose → (n m : ℕ) (v g : Bytes) (fs ls : List ℕ) → Type 0
LentFor Write n m v g fs ls = Room m (length v) (length g)
LentFor Count n m v g fs ls = Begun n fs ls
LentFor Search n m v g fs ls = Unit {0}

-- whatever was counted before, these records are counted too, each with its own verdict
abbrev pub CountedOn : List (List Bool) → (fs₀ ls₀ fs ls : List ℕ) → Type 0
CountedOn more fs₀ ls₀ fs ls =
    (sets : List (List Bool)) (verdicts : List ℕ) → Counts sets verdicts fs₀ ls₀ → Counts (sets ++ more) (verdicts ++ map worst more) fs ls

-- the records i to n have these sets
abbrev pub Done : Purpose → (i n : ℕ) (sets : List (List Bool)) (v₀ g₀ : Bytes) (fs₀ ls₀ : List ℕ) (v g : Bytes) (fs ls : List ℕ) → Type 0
Done Write i n sets v₀ g₀ fs₀ ls₀ v g fs ls = Filled i n (map worst sets) sets v₀ g₀ v g × (fs ≡ fs₀) × (ls ≡ ls₀)
Done Count i n sets v₀ g₀ fs₀ ls₀ v g fs ls = CountedOn sets fs₀ ls₀ fs ls × (n ≡ i + length sets) × (v ≡ v₀) × (g ≡ g₀)
Done Search i n sets v₀ g₀ fs₀ ls₀ v g fs ls = (v ≡ v₀) × (g ≡ g₀) × (fs ≡ fs₀) × (ls ≡ ls₀)

-- the details ds are records i to n, and whether one of them rejects the transaction
pub record DoneDetails (purpose : Purpose) (tables : Tables) (i n : ℕ) (ds : List Bytes) (rejected : Bool) (v₀ g₀ : Bytes) (fs₀ ls₀ : List ℕ)
    (v g : Bytes) (fs ls : List ℕ) : Type 0 where
  pub done : Done purpose i n (details_from tables [] ds) v₀ g₀ fs₀ ls₀ v g fs ls
  pub rejects : rejected ≡ any rejects (details_from tables [] ds)
