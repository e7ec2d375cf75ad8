-- What a check with a territory table answers and leaves, and that one outcome alone fits it: proofs/Alone.antt has the proof.
use Rattle.std.specs.Prelude.{ℕ, ◌≡◌, List, Option, Some, None, Result, Ok, Err}
use Rattle.format.specs.Bytes.{Bytes}
use Rattle.format.specs.Structure.{Answer}
use Rattle.rules.specs.Tables.{Tables}
use Rattle.rules.specs.WithTerritories.{Over as RulesOver, nowhere, over, Claimed as RulesClaimed, check_claims}
use Rattle.answers.specs.declared.Refusal.{Refusal}
use Rattle.answers.specs.Numbers.{answer_of, refused_of}
use Rattle.claims.specs.declared.Claim.{Claim}
use Rattle.claims.specs.Zeros.{no_claim}
use Rattle.collection.specs.declared.Over.{Over}
use Rattle.territorial.specs.declared.Claimed.{Claimed}

abbrev pub over_of : Option Over → RulesOver
over_of None = nowhere
over_of (Some o) = over o.transaction o.territory

-- the answer that is told, and the first territory that is over
abbrev pub answer_told : Result Claimed Refusal → Answer
answer_told (Ok c) = answer_of (Ok c.passed)
answer_told (Err r) = refused_of r

abbrev pub over_told : Result Claimed Refusal → RulesOver
over_told (Ok c) = over_of c.over
over_told (Err r) = nowhere

-- what the call has done, as the definition says it: its answer, and the list and the buffers after it
abbrev pub outcome : Result Claimed Refusal → List Claim → Bytes → Bytes → RulesClaimed Claim
outcome r cs v g = record { answer = answer_told r; over = over_told r; verdicts = v; findings = g; claims = cs }

-- `check`, with the list cs and the buffers v and g before it, and those with a ' after it
pub record Checked (tables : Tables) (table : Bytes) (t : ℕ) (f : Bytes) (cs : List Claim) (v g : Bytes) (r : Result Claimed Refusal)
    (cs' : List Claim) (v' g' : Bytes) : Type 0 where
  pub is : outcome r cs' v' g' ≡ check_claims no_claim tables table t f cs v g

pub record OneFits : Type 0 where
  pub check : (tables : Tables) (table : Bytes) (t : ℕ) (f : Bytes) (cs : List Claim) (v g : Bytes) (r s : Result Claimed Refusal)
      (cs₁ cs₂ : List Claim) (v₁ g₁ v₂ g₂ : Bytes) → Checked tables table t f cs v g r cs₁ v₁ g₁ → Checked tables table t f cs v g s cs₂ v₂ g₂
      → (r ≡ s) × (cs₁ ≡ cs₂) × (v₁ ≡ v₂) × (g₁ ≡ g₂)
