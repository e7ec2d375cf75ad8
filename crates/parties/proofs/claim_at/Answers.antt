-- `parties::claim_at` meets its contract: the bytes that are lent are the claim's. Assumes nothing.
use Prim.Native.Nat.{◌+◌, ◌-◌}
use native.Mathlib.Omega.{arith}
use mathlib.Core.Path.{◌≡◌, sym, ap, subst, ◌∙◌}
use lib.ListN.{take, drop}
use Rattle.format.specs.Bytes.{Bytes}
use Rattle.format.specs.Structure.{first_record}
use Rattle.rules.specs.Territories.{territories_in, codes_of}
use Rattle.rules.specs.Collection.{claimed}
use Rattle.territories.specs.Positions.{place_of}
use Rattle.rules.proofs.Names.{right-table}
use Rattle.territories.proofs.Laws.{place-within, length-codes}
use Rattle.transactions.specs.Walk.{rest_at}
use Rattle.transactions.proofs.Standing.{ends, lent}
use Rattle.kinds.specs.declared.Sort.TheVariants.{PublishersClaim}
use Rattle.kinds.proofs.Laws.{same-is}
use Rattle.parties.specs.Records.{ClaimRecord}
use Rattle.parties.proofs.Steps.{claim-record, found-claim}
use Rattle.parties.proofs.claim_at.Goals as goal

pub slice_bounds-record-end : goal.slice_bounds-record-end
slice_bounds-record-end c =
    let end : c.args.at + c.size.result ≡ c.args.at + c.args.row.length =
    ap (λ n. c.args.at + n) c.size.ensures in
    omega (arith, end, ends c.requires.0.here c.requires.1.0)

pub invariant_of-record : goal.invariant_of-record
invariant_of-record c =
    let end : c.args.at + c.size.result ≡ c.args.at + c.args.row.length =
    ap (λ n. c.args.at + n) c.size.ensures in
    let record-lent : take (c.args.at + c.size.result - c.args.at) (drop c.args.at c.args.file.now) ≡ first_record (rest_at c.args.file.now c.args.at) =
    lent c.requires.0.here c.requires.1.0 _ end in
    let pre = c.requires in
    let publishers = sym (c.eq.ensures ∙ same-is c.args.row.sort PublishersClaim) in
    record { right = rw record-lent (subst (λ b. ClaimRecord b (first_record (rest_at c.args.file.now c.args.at))) publishers (claim-record pre.0 pre.1.0 pre.1.2)) }

pub entry-claim-requires : goal.entry-claim-requires
entry-claim-requires c =
    let end : c.args.at + c.size.result ≡ c.args.at + c.args.row.length =
    ap (λ n. c.args.at + n) c.size.ensures in
    let record-lent : take (c.args.at + c.size.result - c.args.at) (drop c.args.at c.args.file.now) ≡ first_record (rest_at c.args.file.now c.args.at) =
    lent c.requires.0.here c.requires.1.0 _ end in
    let placed : c.position-place.result ≡ place_of (claimed (first_record (rest_at c.args.file.now c.args.at))) (codes_of (territories_in c.args.table.now)) =
    c.position-place.ensures
    ∙ ap (λ (b : Bytes). place_of b (codes_of (territories_in c.args.table.now)))
    (c.code.ensures.result_value ∙ ap claimed record-lent) in
    let pre = c.requires in
    let table = c.args.table.now in
    let few = (right-table table pre.0.right).few in
    let record-here = first_record (rest_at c.args.file.now c.args.at) in
    let place = place-within (claimed record-here) (codes_of (territories_in table)) in
    omega (arith, placed, place, length-codes (territories_in table), few)

pub overflow_add-result : goal.overflow_add-result
overflow_add-result c =
    let end : c.args.at + c.size.result ≡ c.args.at + c.args.row.length =
    ap (λ n. c.args.at + n) c.size.ensures in
    let pre = c.requires in
    omega (arith, end, ends pre.0.here pre.1.0, pre.0.short)

pub returns : goal.returns
returns c =
    let end : c.args.at + c.size.result ≡ c.args.at + c.args.row.length =
    ap (λ n. c.args.at + n) c.size.ensures in
    let record-lent : take (c.args.at + c.size.result - c.args.at) (drop c.args.at c.args.file.now) ≡ first_record (rest_at c.args.file.now c.args.at) =
    lent c.requires.0.here c.requires.1.0 _ end in
    let placed : c.position-place.result ≡ place_of (claimed (first_record (rest_at c.args.file.now c.args.at))) (codes_of (territories_in c.args.table.now)) =
    c.position-place.ensures
    ∙ ap (λ (b : Bytes). place_of b (codes_of (territories_in c.args.table.now)))
    (c.code.ensures.result_value ∙ ap claimed record-lent) in
    let pre = c.requires in
    let entry = rw record-lent at c.entry-claim.ensures in
    found-claim pre.0 pre.1.0 pre.1.1 _ (ap (λ n. n + 2) end) pre.1.2 _ (entry _ placed c.count.ensures)
