-- `parties::next_claim` meets its contract: each turn passes over one record that is no claim. Assumes nothing.
use borrow.Author.Rules.{rules}
use Prim.Native.Nat.{◌+◌, ◌≤◌}
use native.Mathlib.Omega.{arith}
use mathlib.Core.Path.{◌≡◌, refl, sym, ◌∙◌}
use Rattle.format.specs.Structure.{most_bytes}
use Rattle.kinds.proofs.Laws.{hinted}
use Rattle.structure.proofs.Rows.{in_table}
use Rattle.transactions.proofs.Standing.{ends}
use Rattle.parties.proofs.Steps.{three, fewer, within-next, entries-passed, found-from, ended}
use Rattle.parties.proofs.next_claim.Goals as goal

pub loop-parties-init : goal.loop-parties-init
loop-parties-init c = (c.requires, refl)

pub hint_at-k-requires : goal.hint_at-k-requires
hint_at-k-requires c = three c.loop-parties.invariant.0

pub row_at-row-requires : goal.row_at-row-requires
row_at-row-requires c =
    let hint = c.hint_at-k in
    let table = c.table-rows in
    let listed = in_table table.result table.ensures hint.result hint.ensures in
    (three c.loop-parties.invariant.0, λ type e. hinted table.result table.ensures type hint.result listed _ e)

pub returns-in_default : goal.returns-in_default
returns-in_default c =
    let (within, same) = c.loop-parties.invariant in
    same ∙ ended within c.row_at-row.ensures (search rules)

-- ---- a claim
pub claim_at-requires : goal.claim_at-requires
claim_at-requires c =
    (c.loop-parties.invariant.0, (c.row_at-row.ensures, c.in-Detail.is, (sym c.is_claim.ensures ∙ c.if-is_claim.true)))

pub returns-then-is_claim : goal.returns-then-is_claim
returns-then-is_claim c = found-from c.loop-parties.invariant.1 c.claim_at.ensures

pub overflow_add-parties : goal.overflow_add-parties
overflow_add-parties c =
    let within = c.loop-parties.invariant.0 in
    omega (arith, within.few, c.parties_in-parties.ensures.upper_bound)

pub overflow_add-here : goal.overflow_add-here
overflow_add-here c =
    let next : c.loop-parties.here + (c.size.result + 2) ≡ c.loop-parties.here + c.row_at-row.result.length + 2 =
    omega (arith, c.size.ensures) in
    let inside : c.loop-parties.here + (c.size.result + 2) ≤ most_bytes =
    let within = c.loop-parties.invariant.0 in
    omega (arith, next, ends within.here c.row_at-row.ensures, within.short) in
    omega (arith, inside)

pub overflow_add-here-in-loop-parties : goal.overflow_add-here-in-loop-parties
overflow_add-here-in-loop-parties c =
    let next : c.loop-parties.here + (c.size.result + 2) ≡ c.loop-parties.here + c.row_at-row.result.length + 2 =
    omega (arith, c.size.ensures) in
    let inside : c.loop-parties.here + (c.size.result + 2) ≤ most_bytes =
    let within = c.loop-parties.invariant.0 in
    omega (arith, next, ends within.here c.row_at-row.ensures, within.short) in
    omega (arith, inside)

pub loop-parties-smaller : goal.loop-parties-smaller
loop-parties-smaller c =
    let next : c.loop-parties.here + (c.size.result + 2) ≡ c.loop-parties.here + c.row_at-row.result.length + 2 =
    omega (arith, c.size.ensures) in
    fewer c.loop-parties.invariant.0 c.row_at-row.ensures c.in-Detail.is _ next

pub loop-parties-preserved : goal.loop-parties-preserved
loop-parties-preserved c =
    let next : c.loop-parties.here + (c.size.result + 2) ≡ c.loop-parties.here + c.row_at-row.result.length + 2 =
    omega (arith, c.size.ensures) in
    let (within, same) = c.loop-parties.invariant in
    let parties = c.parties_in-parties.ensures in
    let detail = c.in-Detail.is in (
      within-next within c.row_at-row.ensures detail _ next _ (omega (arith, parties.upper_bound)),
      same ∙ entries-passed within c.row_at-row.ensures detail _ next _ (rw parties.value) (sym c.is_claim.ensures ∙ c.if-is_claim.false),
    )
