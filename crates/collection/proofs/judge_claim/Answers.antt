-- `collection::judge_claim` meets its contract.
use mathlib.Core.Path.{ap, ◌∙◌}
use mathlib.Core.Bool.{cond}
use native.Mathlib.Omega.{arith}
use lib.Dec.{eqb}
use Rattle.rules.specs.Territories.{territories_in}
use Rattle.claims.specs.Entries.{entries_from}
use Rattle.collection.specs.Marked.{with48}
use Rattle.collection.proofs.Known.{entries-fewer, wrong-marked, known-claim}
use Rattle.collection.proofs.judge_claim.Goals as goal

pub with-requires : goal.with-requires
with-requires c =
    let T = territories_in c.args.places.table.now in
    let (ds, known, few) = c.requires.known in
    (entries_from T 0 ds, known.most, omega (arith, few, entries-fewer T 0 ds))

pub returns : goal.returns
returns c =
    let entry = c.read-claim.ensures in
    let set = c.set_48.ensures in
    let a = c.args in
    let T = territories_in a.places.table.now in
    let (no-party, room) = c.requires.claim_record in
    let kind = a.«record».right in record {
      known_2 = λ ds known. known-claim T ds a.tally known a.«record».bytes.now no-party kind.1 _ entry _ c.with.ensures;
      findings_after = set ∙ ap (λ b. cond b (with48 a.index a.findings.now) a.findings.now)
          (ap (λ e. eqb e.mark 0) entry ∙ wrong-marked T a.tally.party a.«record».bytes.now kind.1);
    }
