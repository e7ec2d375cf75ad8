-- Internal: a claim record, and a share field of it as it is read.
use Rattle.std.specs.Prelude.{◌≤◌, ◌≡◌, Bool, true, cond, not, length}
use Rattle.format.specs.Bytes.{Bytes}
use Rattle.format.specs.Fields.{are_digits, number_of}
use Rattle.rules.specs.Collection.{is_publishers_claim, is_claim}
use Rattle.values.specs.declared.Share.{Share}

-- a publisher's claim or a writer's, with the length that the structural check has seen to
abbrev pub ClaimRecord : Bool → Bytes → Type 0
ClaimRecord publishers r = (is_publishers_claim r ≡ publishers) × (is_claim r ≡ true) × (length r ≡ cond publishers 58 52)

-- five bytes, whether digits or not
pub record Reads (field : Bytes) (share : Share) : Type 0 where
  pub right : not share.bad ≡ are_digits field
  pub counts : are_digits field ≡ true → share.counts ≡ number_of field
  pub few : share.counts ≤ 99999
