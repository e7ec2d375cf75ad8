-- The classes that the code names: what the format counts and expects of each.
-- Assumes nothing.
use Prim.Native.Nat.{ℕ, suc, ◌+◌}
use native.Mathlib.Numerals.{add-one}
use mathlib.Core.Path.{◌≡◌, refl, ◌∙◌}
use mathlib.Core.List.{◌++◌, append_assoc}
use Rattle.format.specs.Bytes.{decimal}
use Rattle.format.specs.Table.{detail}
use Rattle.format.specs.Checks.{Counts, count}
use Rattle.kinds.specs.Rows.{class_in}
use Rattle.kinds.specs.declared.Class.{Class}
use Rattle.kinds.specs.declared.Class.TheVariants.{Hdr, Grh, Head, Detail, Grt, Trl, Unknown}
use Rattle.counts.specs.Carried.{pair}

-- counts that say the same
abbrev pub Alike : Counts → Counts → Type 0
Alike m n =
    (m.groups ≡ n.groups) × (m.transactions ≡ n.transactions) × (m.in_group ≡ n.in_group) × (m.group_records ≡ n.group_records)
    × (m.in_transaction ≡ n.in_transaction) × (m.records ≡ n.records)

pub alike : (m n : Counts) → Alike m n → m ≡ n
alike m n e =
    λ i. record {
      groups = e.0 i;
      transactions = e.1 i;
      in_group = e.2 i;
      group_records = e.3 i;
      in_transaction = e.4 i;
      records = e.5 i;
    }

-- a record that is neither GRH nor a header begins nothing
pub counted-else : (m n : Counts) (p : Class) → (p ≡ Grh → ⊥) → (p ≡ Head → ⊥) → Alike m (count n detail) → m ≡ count n (class_in p)
counted-else m n Hdr n1 n2 h = alike m (count n detail) h
counted-else m n Grh n1 n2 h = absurd (n1 refl)
counted-else m n Head n1 n2 h = absurd (n2 refl)
counted-else m n Detail n1 n2 h = alike m (count n detail) h
counted-else m n Grt n1 n2 h = alike m (count n detail) h
counted-else m n Trl n1 n2 h = alike m (count n detail) h
counted-else m n Unknown n1 n2 h = alike m (count n detail) h

-- GRT and TRL count themselves
pub totals : (g t r : ℕ) → decimal 5 g ++ pair t (r + 1) ≡ decimal 5 g ++ decimal 8 t ++ decimal 8 (suc r)
unfolding pair
totals g t r = rw (add-one, append_assoc)
