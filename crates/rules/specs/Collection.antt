-- Collection shares by territory (M-105): the claims SPT, OPT, SWT and OWT of a transaction, by party; findings 47 (T14, T44, as far as they
-- speak of the total) and 48 on them.
use Rattle.std.specs.Prelude.{ℕ, suc, Bool, true, false, cond, not, ◌&&◌, ◌||◌, List, [], ◌∷◌}
use Rattle.std.proofs.Math.Option.{Option, none, some}
use Rattle.format.specs.Ascii.{ascii}
use Rattle.format.specs.Bytes.{Bytes, same_bytes, among}
use Rattle.format.specs.Fields.{field_of, are_digits, number_of}
use Rattle.format.specs.Tree.{span}
use Rattle.rules.specs.Values.{full_share}
use Rattle.rules.specs.Records.{is_type, is_publisher, is_writer, only, latest}
use Rattle.rules.specs.Totals.{Right, PR, MR, SR, sum_of, exceeds}
use Rattle.rules.specs.Territories.{Territory, codes_of, names, has_members}

-- ---- a claim: who may have one, and its fields, start and size

abbrev pub is_party : Bytes → Bool
is_party r = is_publisher r || is_writer r

abbrev pub is_publishers_claim : Bytes → Bool
is_publishers_claim r = is_type "SPT" r || is_type "OPT" r

abbrev pub is_writers_claim : Bytes → Bool
is_writers_claim r = is_type "SWT" r || is_type "OWT" r

abbrev pub is_claim : Bytes → Bool
is_claim r = is_publishers_claim r || is_writers_claim r

-- a writer's claim lacks the six constant bytes that stand before the shares in a publisher's
abbrev pub claim_field : ℕ → ℕ → ℕ → Bytes → Bytes
claim_field publishers writers size r = cond (is_publishers_claim r) (field_of publishers size r) (field_of writers size r)

abbrev pub collected : Right → Bytes → Bytes
collected PR r = claim_field 35 29 5 r
collected MR r = claim_field 40 34 5 r
collected SR r = claim_field 45 39 5 r

abbrev pub mark : Bytes → Bytes
mark r = claim_field 50 44 1 r

abbrev pub claimed : Bytes → Bytes
claimed r = claim_field 51 45 4 r

abbrev pub includes : Bytes → Bool
includes r = same_bytes (ascii "I") (mark r)

abbrev pub excludes : Bytes → Bool
excludes r = same_bytes (ascii "E") (mark r)

-- ---- parties

-- a party is one SPU, OPU, SWR or OWR with the claims up to the next such record: of each, its claims in order. Claims before any are in none
abbrev pub parties : List Bytes → List (List Bytes)
parties [] = []
parties (r ∷ rs) = cond (is_party r) (only is_claim (span (λ (s : Bytes). not (is_party s)) rs) ∷ parties rs) (parties rs)

-- what a claim gives: an exclude 0, and none 0
abbrev pub given : Right → Option Bytes → ℕ
given right none = 0
given right (some r) = cond (excludes r) 0 (number_of (collected right r))

module _ (territories : List Territory) where
  -- TR, on the claim: a code missing from the table, a mark other than I or E, or a share that isn't five digits
  unfoldable pub is48 : Bytes → Bool
  is48 r =
      is_claim r
      && not
      (among (claimed r) (codes_of territories)
      && (includes r || excludes r)
      && are_digits (collected PR r)
      && are_digits (collected MR r)
      && are_digits (collected SR r))

  -- a party's share in a territory with these names: that of its last claim on one of them; one with 48 is ignored
  abbrev pub speaks_of : List Bytes → Bytes → Bool
  speaks_of ns r = not (is48 r) && among (claimed r) ns

  unfoldable pub share_in : Right → List Bytes → List Bytes → ℕ
  share_in right ns claims = given right (latest (only (speaks_of ns) claims))

  -- over all parties of a transaction
  unfoldable pub total_in : Right → List Bytes → List Bytes → ℕ
  total_in right ns ds = sum_of (share_in right ns) (parties ds)

  module _ (t : ℕ) where
    -- some right's total is over 10000
    unfoldable pub is_over : List Bytes → List Bytes → Bool
    is_over ns ds =
        exceeds t full_share (total_in PR ns ds) || exceeds t full_share (total_in MR ns ds) || exceeds t full_share (total_in SR ns ds)

    -- the first territory without members, from position i on, in which that is so
    abbrev pub over_from : ℕ → List (List Bytes) → List Bytes → Option ℕ
    over_from i [] ds = none
    over_from i (ns ∷ rest) ds = cond (not (has_members territories i) && is_over ns ds) (some i) (over_from (suc i) rest ds)

    unfoldable pub first_over : List Bytes → Option ℕ
    first_over ds = over_from 0 (names territories) ds

    abbrev pub is_some : Option ℕ → Bool
    is_some none = false
    is_some (some i) = true

    -- T14 and T44, TR, on the header: there is such a territory
    unfoldable pub is47 : List Bytes → Bool
    is47 ds = is_some (first_over ds)
