-- Within the size limits every number fits its digits: no counter passes the records read, and a group has three at least.
-- Assumes nothing.
use Prim.Native.Nat.{suc, ◌+◌, ◌*◌, ◌^◌, ◌≤◌, ◌<◌}
use native.Mathlib.Omega.{arith}
use mathlib.Core.Path.{◌≡◌, refl, sym, ap, ◌∙◌}
use mathlib.Core.List.{List, [], ◌∷◌}
use lib.ListN.{length, length-map}
use lib.Dec.{T}
use Rattle.format.specs.Doc.{Doc, write, written}
use Rattle.format.specs.Table.{Class, hdr, grh, head, detail, grt, trl, unknown, Table}
use Rattle.format.specs.WellFormed.{Item, item, items, WellFormed}
use Rattle.format.specs.Checks.{Counts, none_counted, count, may_follow}
use Rattle.format.specs.Numbering.{held}
use Rattle.format.specs.Structure.{most_records}
use Rattle.format.specs.Claims.{Limits, Fit, AllFit, Fits}
use Rattle.format.proofs.Passes.{Places, loose-held}
use Rattle.format.proofs.Tree.{tree_places, by_one, by_two, by_three}
use Rattle.format.proofs.Demand3.{write-pairs, written-loose}

-- after a record of class p the groups begun are at most a third of the records read, about
abbrev Slack : Class → Counts → Type 0
Slack unknown n = n.groups ≡ 0
Slack hdr n = 3 * n.groups + 1 ≤ n.records
Slack grh n = 3 * n.groups ≤ n.records + 1
Slack head n = 3 * n.groups ≤ n.records
Slack detail n = 3 * n.groups ≤ n.records
Slack grt n = 3 * n.groups + 1 ≤ n.records
Slack trl n = 3 * n.groups ≤ n.records

slack-count : (p c : Class) (n : Counts) → T (may_follow p c) → Slack p n → Slack c (count n c)
slack-count unknown c n a = by_one (λ e. n.groups ≡ 0 → Slack e (count n e)) hdr c a (omega arith)
slack-count hdr c n a = by_one (λ e. 3 * n.groups + 1 ≤ n.records → Slack e (count n e)) grh c a (omega arith)
slack-count grh c n a = by_one (λ e. 3 * n.groups ≤ n.records + 1 → Slack e (count n e)) head c a (omega arith)
slack-count head c n a =
    by_three (λ e. 3 * n.groups ≤ n.records → Slack e (count n e)) head detail grt c a (omega arith) (omega arith) (omega arith)
slack-count detail c n a =
    by_three (λ e. 3 * n.groups ≤ n.records → Slack e (count n e)) head detail grt c a (omega arith) (omega arith) (omega arith)
slack-count grt c n a = by_two (λ e. 3 * n.groups + 1 ≤ n.records → Slack e (count n e)) grh trl c a (omega arith) (omega arith)
slack-count trl c n a = absurd a

slack-groups : (p : Class) (n : Counts) → Slack p n → n.records ≤ most_records → suc n.groups < 10 ^ 5
slack-groups unknown n h l = omega arith
slack-groups hdr n h l = omega arith
slack-groups grh n h l = omega arith
slack-groups head n h l = omega arith
slack-groups detail n h l = omega arith
slack-groups grt n h l = omega arith
slack-groups trl n h l = omega arith

-- no other counter passes the number of records read
abbrev pub Small : Counts → Type 0
Small n = (n.transactions ≤ n.records) × (n.in_group ≤ n.records) × (n.group_records ≤ n.records) × (n.in_transaction ≤ n.records)

pub small_count : (c : Class) (n : Counts) → Small n → Small (count n c)
small_count hdr n h = omega arith
small_count grh n h = omega arith
small_count head n h = omega arith
small_count detail n h = omega arith
small_count grt n h = omega arith
small_count trl n h = omega arith
small_count unknown n h = omega arith

fit : (p c : Class) (n : Counts) → Slack p n → Small n → n.records ≤ most_records → Fit n c
fit p hdr n s m l = tt
fit p grh n s m l = slack-groups p n s l
fit p head n s m l = omega arith
fit p detail n s m l = omega arith
fit p grt n s m l = omega (arith, slack-groups p n s l)
fit p trl n s m l = omega (arith, slack-groups p n s l)
fit p unknown n s m l = tt

fit-from : (p : Class) (n : Counts) (is : List Item) → Places p is → Slack p n → Small n → n.records + length is ≤ most_records → AllFit n is
fit-from p n [] h s m l = tt
fit-from p n (item c x ∷ is) h s m l = (
  fit p c n s m (omega arith),
  fit-from c (count n c) is h.1 (slack-count p c n h.0 s) (small_count c n m) (omega arith),
)

module _ (𝕋 : Table) where
  items-pairs : (d : Doc) → WellFormed 𝕋 d → Limits (write d) → length (items d) ≤ most_records
  items-pairs d w l =
      let e = ap length (sym (loose-held 𝕋 (items d) (written d) w.right (written-loose 𝕋 d w))) ∙ length-map (written d) (held 𝕋) in
      omega (arith, e, write-pairs 𝕋 d w)

  pub fits : Fits 𝕋
  fits d w l =
      fit-from unknown none_counted (items d) (tree_places d w.some_groups w.some_transactions) refl (omega arith) (omega (arith, items-pairs d w l))
