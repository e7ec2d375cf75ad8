-- `collection::judge_detail` meets its contract.
use native.Mathlib.Omega.{arith}
use Rattle.rules.specs.Territories.{territories_in}
use Rattle.rules.specs.Collection.{is_party}
use Rattle.rules.proofs.Lists.{only-fewer}
use mathlib.Core.Path.{sym, subst, ◌∙◌}
use Rattle.kinds.specs.declared.Sort.TheVariants.{PublishersClaim}
use Rattle.kinds.proofs.Laws.{same-is}
use Rattle.parties.specs.Records.{ClaimRecord}
use Rattle.collection.proofs.Known.{not-wrong, known-party, known-other}
use Rattle.collection.proofs.Sorts.{claim-here, claim-no-party, party-here, neither-here}
use Rattle.collection.proofs.judge_detail.Goals as goal

pub judge_claim-requires : goal.judge_claim-requires
judge_claim-requires c =
    let a = c.args in
    let ((detail, long), room) = c.requires.stands in
    let sort = (sym c.is_claim.ensures ∙ c.if-is_claim.true) in
    record { claim_record = (claim-no-party a.row a.«record».now detail.0 sort, room); known = c.requires.known }

pub invariant_of-claim : goal.invariant_of-claim
invariant_of-claim c =
    let a = c.args in
    let ((detail, long), room) = c.requires.stands in
    let publishers = sym (c.eq.ensures ∙ same-is a.row.sort PublishersClaim) in
    record { right = subst (λ b. ClaimRecord b a.«record».now) publishers (claim-here a.row a.«record».now detail.0 long (sym c.is_claim.ensures ∙ c.if-is_claim.true)) }

pub overflow_add-result : goal.overflow_add-result
overflow_add-result c =
    let (ds, known, few) = c.requires.known in
    omega (arith, few, known.party, only-fewer is_party ds)

pub returns-then-is_party : goal.returns-then-is_party
returns-then-is_party c =
    let a = c.args in
    let T = territories_in a.places.table.now in
    let r = a.«record».now in
    let kind = party-here a.row r c.requires.stands.0.0.0 (sym c.is_party.ensures ∙ c.if-is_party.true) in
    record { known_2 = λ ds known. known-party T ds a.tally known r kind.0 kind.1; findings_after = rw (not-wrong T r kind.1) }

pub returns : goal.returns
returns c =
    let a = c.args in
    let T = territories_in a.places.table.now in
    let r = a.«record».now in
    let kind = neither-here a.row r c.requires.stands.0.0.0 (sym c.is_claim.ensures ∙ c.if-is_claim.false) (sym c.is_party.ensures ∙ c.if-is_party.false) in
    record { known_2 = λ ds known. known-other T ds a.tally known r kind.0 kind.1; findings_after = rw (not-wrong T r kind.1) }
