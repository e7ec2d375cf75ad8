-- The transaction that a header begins: what the header is, and its entries once its details are written. Assumes nothing.
use Prim.Native.Nat.{ℕ, ◌+◌, ◌-◌, ◌^◌, ◌≤◌}
use native.Mathlib.Omega.{arith}
use mathlib.Core.Path.{◌≡◌, refl, ◌∙◌}
use mathlib.Core.Bool.{Bool, true, false, cond, ◌||◌}
use mathlib.Core.List.{List, [], ◌∷◌, map}
use lib.ListN.{length, take, drop}
use borrow.Rule.Slice.PartMut.{put_mid}
use Rattle.format.specs.Ascii.{ascii}
use Rattle.format.specs.Bytes.{Bytes, same_bytes, every}
use Rattle.format.specs.Doc.{Transaction}
use Rattle.format.specs.Table.{Class, head, trl, Row as FormatRow, row}
use Rattle.format.specs.Cwr22.{rows22, cwr22}
use Rattle.format.specs.Checks.{is, cls}
use Rattle.format.specs.Structure.{most_records, first_record}
use Rattle.format.specs.Tree.{span, is_detail}
use Rattle.rules.specs.Tables.{Tables}
use Rattle.rules.specs.Records.{is_header}
use Rattle.rules.specs.Findings.{worst}
use Rattle.rules.specs.Works.{header_findings, details_from, transaction_findings}
use Rattle.rules.specs.Verdicts.{raised, transaction_verdicts_by}
use Rattle.kinds.proofs.Laws.{in_class, of-class}
use Rattle.structure.specs.Cursor.{Here}
use Rattle.edits.specs.Kinds.{HeaderRecord}
use Rattle.headers.specs.declared.Head.{Head}
use Rattle.headers.specs.Headed.{Headed}
use Rattle.buffers.specs.Written.{Written}
use Rattle.buffers.proofs.Entries.{first as before-others}
use Rattle.totals.specs.Sums.{Below}
use Rattle.tally.proofs.Laws.{below-limits}
use Rattle.transactions.specs.declared.Details.{Details}
use Rattle.transactions.specs.Walk.{rest_at, tail_of, Position, PastDetails, Filled, FilledTransaction}
use Rattle.transactions.specs.declared.Purpose.TheVariants.{Write}
use Rattle.transactions.specs.Purposes.{DoneDetails}
use Rattle.transactions.proofs.Entries.{filled-raised}
use Rattle.transactions.proofs.Levels.{standing}
use Rattle.transactions.proofs.Sizes.{transaction-header, long, left_after, position-after, known-after}
use Rattle.transactions.proofs.Gone.{length-parted}

-- ---- a header is NWR or REV

heading : FormatRow → Bool
heading (row type n c) = same_bytes (ascii "NWR") type || same_bytes (ascii "REV") type

all-heading : every (in_class head heading) rows22 ≡ true
unfolding rows22 heading
all-heading = refl

head-is : (r : Bytes) → cls cwr22 r ≡ head → is_header r ≡ true
unfolding rows22 heading
head-is r h = of-class head heading all-heading refl (λ (f : FormatRow). is_header r ≡ true) r h (λ n e. e)

pub header-here : {f : Bytes} {i : ℕ} {c : Class} {rs : List Bytes} → Here f i c rs → is trl c ≡ false → cls cwr22 (first_record rs) ≡ head
    → HeaderRecord (first_record rs)
header-here {rs = rs} h more its = (long transaction-header h more its, head-is (first_record rs) its)

-- ---- what is known of its details

-- where a header stands before record n, and its details after it
module _ {f : Bytes} {at : ℕ} (n : ℕ) (here : Here f at head (rest_at f at)) (its : cls cwr22 (first_record (rest_at f at)) ≡ head) where
  pub after-header : Position f (n + length (rest_at f at)) (at + 260 + 2) (n + 1) head (rest_at f (at + 260 + 2))
  after-header = position-after transaction-header (standing n here) refl its _ refl

  pub details-left : rest_at f (at + 260 + 2) ≡ tail_of (rest_at f at)
  details-left = left_after transaction-header (standing n here) refl its _ refl

  pub past-header : {d : Details} → PastDetails f (n + 1 + length (rest_at f (at + 260 + 2))) (rest_at f (at + 260 + 2)) d
      → PastDetails f (n + length (rest_at f at)) (tail_of (rest_at f at)) d
  past-header {d} past = known-after transaction-header (standing n here) refl its _ refl (λ k l. PastDetails f k l d) past

pub past-below : {f : Bytes} {m : ℕ} {rs : List Bytes} {d : Details} → PastDetails f m rs d → length rs ≤ most_records
    → Below (2 ^ 60) d.walk.tally.totals
past-below {rs = rs} {d} past few =
    below-limits d.walk.tally.totals (span (is_detail cwr22) rs) (omega (arith, few, length-parted (is_detail cwr22) rs)) past.known.below

-- ---- its entries, once its details and its header are written and raised

pub filled-whole : (tables : Tables) (t : ℕ) (named : Bytes) (x : Transaction) {i n : ℕ} {rejected : Bool} {h : Head}
    → {v₀ g₀ v₁ g₁ v₂ g₂ ys : Bytes} {fs₀ vs₀ fs vs : List ℕ} {least : ℕ}
    → DoneDetails Write tables (i + 1) n x.details rejected v₀ g₀ fs₀ vs₀ v₁ g₁ fs vs → Headed tables t named x h
    → Written i (h.level ∷ []) (header_findings tables t named x ∷ []) v₁ g₁ v₂ g₂
    → least ≡ cond (h.rejects || rejected) 3 0 → ys ≡ raised least (take (n - i) (drop i v₂))
    → FilledTransaction tables t named i n x v₀ g₀ (put_mid i (n - i) v₂ ys) g₂
unfolding transaction_findings transaction_verdicts_by
filled-whole tables t named x {i} {n} {h = h} {v₀} {g₀} {v₂ = v₂} {g₂} {ys} {least} details headed w l y =
    let sets = details_from tables [] x.details in
    let own = header_findings tables t named x in
    let both : Filled i n (h.level ∷ map worst sets) (own ∷ sets) v₀ g₀ v₂ g₂ =
    record { end = details.done.0.end ∙ omega arith; written = before-others details.done.0.written w } in
    rw (l, headed.rejects, details.rejects, headed.level) at (filled-raised both least {ys = ys} y)
