-- What `cwr_check_claims` promises of the number that it answers and of what it leaves: the outcome of a check with a territory table, and in
-- a buffer of eight bytes the first territory that is over. Fewer bytes are too few, as in the buffers for verdicts and findings: refusal 11.
use Rattle.std.specs.Prelude.{ℕ, ◌≡◌, ◌&&◌, List, ◌++◌, leb, length, replicate}
use Rattle.format.specs.Bytes.{Bytes, bytes_of}
use Rattle.format.specs.Structure.{Answer}
use Rattle.format.specs.Lent.{left_in}
use Rattle.rules.specs.Tables.{Tables}
use Rattle.rules.specs.Outcome.{enough}
use Rattle.rules.specs.WithTerritories.{Over, nowhere, over, Claimed, answer_with, claimed_by}
use Rattle.answers.specs.Numbers.{exact}
use Rattle.claims.specs.declared.Claim.{Claim}
use Rattle.claims.specs.Zeros.{no_claim}

-- the transaction's number and the territory's position, four bytes each and least significant byte first; all bits set where none is over
unfoldable pub over_bytes : Over → Bytes
over_bytes nowhere = replicate 8 255
over_bytes (over m i) = bytes_of 4 m ++ bytes_of 4 i

module _ (tables : Tables) (table : Bytes) (t : ℕ) (f : Bytes) (cs : List Claim) (v g o : Bytes) where
  -- with the list cs and the buffers v, g and o
  unfoldable pub claims_answer : Answer
  claims_answer = answer_with tables table t f (λ r. enough (length v) (length g) r && leb 8 (length o)) (length cs)

  -- and what is left
  abbrev pub claims_outcome : Claimed Claim
  claims_outcome = claimed_by claims_answer no_claim tables table t f cs v g

-- `cwr_check_claims`, with the list cs and the buffers v, g and o before it, and those with a ' after it
pub record ClaimsCheckedC (tables : Tables) (table : Bytes) (t : ℕ) (f : Bytes) (cs : List Claim) (v g o : Bytes) (x : ℕ) (cs' : List Claim)
    (v' g' o' : Bytes) : Type 0 where
  pub answer : x ≡ exact (claims_answer tables table t f cs v g o)
  pub claims : cs' ≡ (claims_outcome tables table t f cs v g o).claims
  pub verdicts : v' ≡ (claims_outcome tables table t f cs v g o).verdicts
  pub findings : g' ≡ (claims_outcome tables table t f cs v g o).findings
  pub over : o' ≡ left_in (claims_answer tables table t f cs v g o) (over_bytes (claims_outcome tables table t f cs v g o).over) o
