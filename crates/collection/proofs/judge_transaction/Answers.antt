-- `collection::judge_transaction` meets its contract: its details are judged, and its verdicts raised.
use Prim.Native.Nat.{◌+◌, ◌-◌}
use native.Mathlib.Omega.{arith}
use mathlib.Core.Path.{refl, ap, ◌∙◌}
use mathlib.Core.Bool.{Bool}
use lib.ListN.{length}
use Rattle.format.specs.Cwr22.{cwr22}
use Rattle.format.specs.Tree.{span, is_detail}
use Rattle.rules.specs.Territories.{territories_in}
use Rattle.claims.specs.Entries.{entries_from}
use Rattle.transactions.specs.Walk.{rest_at}
use Rattle.transactions.proofs.Gone.{length-parted}
use Rattle.parties.proofs.Shares.{fits-none}
use Rattle.collection.specs.Marked.{raised_if}
use Rattle.collection.proofs.Known.{entries-fewer}
use Rattle.collection.proofs.Owed.{judged}
use Rattle.collection.proofs.Heads.{headed}
use Rattle.collection.proofs.judge_transaction.Goals as goal

pub judge_details-d-requires : goal.judge_details-d-requires
judge_details-d-requires c =
    let (m, lent, standing, is) = c.requires in
    let h = headed standing is _ refl in
    (lent.short, h.here, omega (arith, h.counted, lent.few), omega (arith, h.counted, lent.in_g))

pub raise-requires : goal.raise-requires
raise-requires c =
    let (m, lent, standing, is) = c.requires in
    let h = headed standing is _ refl in
    let past = c.judge_details-d.ensures.past_details.position.left in
    let parted = length-parted (is_detail cwr22) (rest_at c.args.file.now (c.args.w.at + 260 + 2)) in
    (omega (arith, past, parted), omega (arith, past, h.counted, lent.in_v))

pub fits-fits-requires : goal.fits-fits-requires
fits-fits-requires c =
    let (m, lent, standing, is) = c.requires in
    let h = headed standing is _ refl in
    let rest = rest_at c.args.file.now (c.args.w.at + 260 + 2) in
    let T = territories_in c.args.places.table.now in
    let ds = span (is_detail cwr22) rest in
    let known = c.judge_details-d.ensures.past_details.known in
    (entries_from T 0 ds, known.most, omega (arith, entries-fewer T 0 ds, length-parted (is_detail cwr22) rest, h.counted, lent.few))

pub invariant_of-tolerance : goal.invariant_of-tolerance
invariant_of-tolerance c =
    let (m, lent, standing, is) = c.requires in
    lent.small

pub overflow_add-w-2 : goal.overflow_add-w-2
overflow_add-w-2 c =
    let (m, lent, standing, is) = c.requires in
    omega (arith, lent.few, standing.numbers, standing.position.left)

pub returns : goal.returns
returns c =
    let a = c.args in
    let T = territories_in a.places.table.now in
    let first = a.w.at + 260 + 2 in
    let rest = rest_at a.file.now first in
    let ds = span (is_detail cwr22) rest in
    let past = c.judge_details-d.ensures.past_details in
    let (m₀, lent, standing, is) = c.requires in
    let here = headed standing is first refl in record {
      by_index = λ m v g o owes.
          let h = headed owes.standing is first refl in
          let wrong = c.raise.ensures ∙ ap (λ (b : Bool). raised_if b a.w.index (c.judge_details-d.result.index - a.w.index) a.verdicts.now) past.known.wrong in
          rw c.then_some.ensures
          (judged owes _ first h.left h.its h.here _ _ (rw h.counted at past.position) _ _ wrong c.judge_details-d.ensures.findings_after
          c.fits-fits.result _ c.pick.ensures
          (λ e. fits-none T a.t ds (entries_from T 0 ds) refl (c.fits-fits.ensures (entries_from T 0 ds) past.known.most e)));
      at_in_bounds = omega (arith, ap length here.left, past.position.left, length-parted (is_detail cwr22) rest, ap length past.position.here.left);
    }
