-- Internal: the claims of a transaction as entries of the lent list, and what entries come to in a territory.
use Rattle.std.specs.Prelude.{ℕ, zero, suc, ◌+◌, Bool, cond, not, ◌&&◌, ◌||◌, List, [], ◌∷◌, eqb, length, get_or}
use Rattle.format.specs.Bytes.{Bytes, among}
use Rattle.format.specs.Fields.{number_of}
use Rattle.rules.specs.Values.{full_share}
use Rattle.rules.specs.Totals.{Right, PR, MR, SR, exceeds}
use Rattle.rules.specs.Territories.{Territory, territories_in, codes_of, names, has_members}
use Rattle.rules.specs.Collection.{is_party, is_claim, collected, mark, claimed, is48}
use Rattle.territories.specs.Positions.{place_of}
use Rattle.claims.specs.declared.Claim.{Claim}
use Rattle.claims.specs.Zeros.{no_claim}

-- ---- from details to entries

module _ (territories : List Territory) where
  -- of a claim of the party with that number; the code is held as its position, and one with 48 is no party's
  abbrev pub entry_of : ℕ → Bytes → Claim
  entry_of party r =
      cond (is48 territories r) no_claim
      (record {
        party = party;
        code = place_of (claimed r) (codes_of territories);
        mark = get_or (mark r) 0 0;
        pr = number_of (collected PR r);
        mr = number_of (collected MR r);
        sr = number_of (collected SR r);
      })

  -- one entry a claim; parties count from 1, and before any the number is 0
  abbrev pub entries_from : ℕ → List Bytes → List Claim
  entries_from party [] = []
  entries_from party (r ∷ rs) =
      cond (is_party r) (entries_from (suc party) rs) (cond (is_claim r) (entry_of party r ∷ entries_from party rs) (entries_from party rs))

-- ---- what entries come to

-- a share of an entry, and what it gives: an exclude 0
abbrev pub share_of : Right → Claim → ℕ
share_of PR e = e.pr
share_of MR e = e.mr
share_of SR e = e.sr

abbrev pub gives : Right → Claim → ℕ
gives right e = cond (eqb e.mark 69) 0 (share_of right e)

-- no party's entry
abbrev pub is_ignored : Claim → Bool
is_ignored e = eqb e.party 0

-- after party p: the entry begins another party, and whose it is then
abbrev pub begins : ℕ → Claim → Bool
begins p e = not (is_ignored e) && not (eqb e.party p)

abbrev pub party_with : ℕ → Claim → ℕ
party_with p e = cond (is_ignored e) p e.party

module _ (territories : List Territory) where
  -- an entry speaks of the territory at position j
  abbrev pub speaks : ℕ → Claim → Bool
  speaks j e = among (get_or (codes_of territories) e.code []) (get_or (names territories) j [])

  -- what its party gives there, which gave n before
  abbrev pub gives_with : Right → ℕ → ℕ → ℕ → Claim → ℕ
  gives_with right j p n e = cond (is_ignored e) n (cond (speaks j e) (gives right e) (cond (begins p e) 0 n))

  -- what entries come to there, after party p, which gives n so far
  abbrev pub comes_to : Right → ℕ → ℕ → ℕ → List Claim → ℕ
  comes_to right j p n [] = n
  comes_to right j p n (e ∷ es) = cond (begins p e) n 0 + comes_to right j (party_with p e) (gives_with right j p n e) es

  module _ (t : ℕ) (es : List Claim) where
    abbrev pub is_over_in : ℕ → Bool
    is_over_in j =
        exceeds t full_share (comes_to PR j 0 0 es) || exceeds t full_share (comes_to MR j 0 0 es) || exceeds t full_share (comes_to SR j 0 0 es)

    -- the territory has no members, and some right comes to more than 10000 there
    abbrev pub is_over_at : ℕ → Bool
    is_over_at j = not (has_members territories j) && is_over_in j

-- the first of k numbers from j on that passes; where none does, the number after them
abbrev pub first_from : (ℕ → Bool) → ℕ → ℕ → ℕ
first_from p j zero = j
first_from p j (suc k) = cond (p j) j (first_from p (suc j) k)

unfoldable pub over_in : Bytes → ℕ → List Claim → ℕ
over_in table t es = first_from (is_over_at (territories_in table) t es) 0 (length (territories_in table))
