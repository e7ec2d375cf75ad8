-- Internal: each party's largest share of a right, added up over the parties. What the parties come to in a territory is no more than that.
use Rattle.std.specs.Prelude.{ℕ, ◌+◌, ◌*◌, ◌^◌, ◌<◌, ◌≤◌, ◌≡◌, cond, List, [], ◌∷◌, ◌++◌, length}
use Rattle.format.specs.Structure.{most_records}
use Rattle.rules.specs.Findings.{larger}
use Rattle.rules.specs.Totals.{Right}
use Rattle.claims.specs.declared.Claim.{Claim}
use Rattle.claims.specs.Entries.{share_of, is_ignored, begins, party_with}
use Rattle.claims.specs.Work.{of_right}
use Rattle.parties.specs.declared.Largest.{Largest}

-- a party's largest share with one entry more, after party p, whose largest was m
abbrev pub most_with : Right → ℕ → ℕ → Claim → ℕ
most_with right p m e = cond (is_ignored e) m (larger (share_of right e) (cond (begins p e) 0 m))

-- over all parties, after party p, whose largest is m so far
abbrev pub most_from : Right → ℕ → ℕ → List Claim → ℕ
most_from right p m [] = m
most_from right p m (e ∷ es) = cond (begins p e) m 0 + most_from right (party_with p e) (most_with right p m e) es

-- whatever entries follow, their parties add up to what all do; nothing wraps
pub record Most (es : List Claim) (l : Largest) : Type 0 where
  pub rest : (right : Right) (more : List Claim)
      → of_right l.before right + most_from right l.party (of_right l.current right) more ≡ most_from right 0 0 (es ++ more)
  pub small : (right : Right) → of_right l.current right ≤ 2 ^ 32
  pub roomy : (right : Right) → of_right l.before right ≤ 2 ^ 32 * length es

-- of fewer entries than a file has records, and of no more
abbrev pub Begun : Largest → Type 0
Begun l = (es : List Claim) × Most es l × (length es < most_records)

abbrev pub Added : Largest → Type 0
Added l = (es : List Claim) × Most es l × (length es ≤ most_records)
