-- Internal: what the parts of `cwr_check_claims` answer and leave. proofs/ClaimsLaws.antt has it that this keeps the promise.
use Rattle.std.specs.Prelude.{ℕ, false, Result}
use Rattle.format.specs.Bytes.{Bytes}
use Rattle.format.specs.Structure.{Answer}
use Rattle.format.specs.Lent.{in_room, left_in}
use Rattle.rules.specs.Tables.{Tables}
use Rattle.rules.specs.WithTerritories.{admission_with}
use Rattle.answers.specs.declared.Refusal.{Refusal}
use Rattle.answers.specs.Packed.{packed_of}
use Rattle.territorial.specs.declared.Claimed.{Claimed}
use Rattle.territorial.specs.Promises.{answer_told, over_told}
use Rattle.cwr_c.specs.Territories.{over_bytes}

-- refused already, or else by 11
abbrev pub without_room : Answer → Answer
without_room = in_room (λ r. false)

-- where the last buffer is too short
unfoldable pub refused_of : Tables → Bytes → ℕ → Bytes → ℕ
refused_of tables table t f = packed_of (without_room (admission_with tables table t f))

-- of what the check has come to: the number, and the last buffer, which was o
unfoldable pub packed_claimed : Result Claimed Refusal → ℕ
packed_claimed r = packed_of (answer_told r)

unfoldable pub over_left : Result Claimed Refusal → Bytes → Bytes
over_left r o = left_in (answer_told r) (over_bytes (over_told r)) o
