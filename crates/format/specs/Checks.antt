-- Refusals 6 to 9: checks over all records of a file, each of which names the first record that fails.
use Rattle.std.specs.Prelude.{ℕ, suc, pred, ◌+◌, Bool, true, false, cond, ◌&&◌, ◌||◌, not, List, [], ◌∷◌, ◌++◌, length, take, drop, get_or, T, eqb}
use Rattle.std.proofs.Math.Option.{Option, none, some}
use Rattle.format.specs.Bytes.{Bytes, same_bytes, decimal}
use Rattle.format.specs.Table.{Class, hdr, grh, head, detail, grt, trl, unknown, known, at, width, Table}

-- a state that runs along the records, what it asks of each, and what it asks of the end
pub record Check : Type 1 where
  pub State : Type 0
  pub begin : State
  pub ok : State → Bytes → Bool
  pub next : State → Bytes → State
  pub end : State → Bool

-- the first record that fails, counted from i; the end fails at the record count
abbrev pub fault_from : (K : Check) → K.State → ℕ → List Bytes → Option ℕ
fault_from K s i [] = cond (K.end s) none (some i)
fault_from K s i (r ∷ rs) = cond (K.ok s r) (fault_from K (K.next s r) (suc i) rs) (some i)

abbrev pub fault_of : Check → List Bytes → Option ℕ
fault_of K rs = fault_from K K.begin 0 rs

-- no record fails, and the end does not
abbrev pub AlongFrom : (K : Check) → K.State → List Bytes → Type 0
AlongFrom K s [] = T (K.end s)
AlongFrom K s (r ∷ rs) = T (K.ok s r) × AlongFrom K (K.next s r) rs

abbrev pub Along : Check → List Bytes → Type 0
Along K rs = AlongFrom K K.begin rs

-- ---- places (7)

-- the classes as numbers, as code has them
abbrev pub code : Class → ℕ
code hdr = 0
code grh = 1
code head = 2
code detail = 3
code grt = 4
code trl = 5
code unknown = 6

abbrev pub class_at : ℕ → Class
class_at n = get_or (hdr ∷ grh ∷ head ∷ detail ∷ grt ∷ trl ∷ []) n unknown

abbrev pub is : Class → Class → Bool
is c d = eqb (code c) (code d)

-- what may stand after a record of the class: HDR first; after HDR GRH; after GRH a transaction header; after a header or detail
-- header, detail or GRT; after GRT GRH or TRL; after TRL nothing
abbrev pub may_follow : Class → Class → Bool
may_follow unknown c = is hdr c
may_follow hdr c = is grh c
may_follow grh c = is head c
may_follow head c = is head c || is detail c || is grt c
may_follow detail c = is head c || is detail c || is grt c
may_follow grt c = is grh c || is trl c
may_follow trl c = false

-- ---- numbers (8, 9)

-- what a reader has counted before a record
pub record Counts : Type 0 where
  -- groups begun, and transactions begun in all of them
  pub groups : ℕ
  pub transactions : ℕ
  -- of the group: transactions begun, records
  pub in_group : ℕ
  pub group_records : ℕ
  -- records of the transaction
  pub in_transaction : ℕ
  -- all records
  pub records : ℕ

-- before the first record
abbrev pub none_counted : Counts
none_counted = record { groups = 0; transactions = 0; in_group = 0; group_records = 0; in_transaction = 0; records = 0 }

-- one more where it holds
abbrev pub more_if : Bool → ℕ → ℕ
more_if b n = cond b (suc n) n

-- with one record more, of that class: GRH begins a group, a header begins a transaction
abbrev pub count : Counts → Class → Counts
count n c =
    record {
      groups = more_if (is grh c) n.groups;
      transactions = more_if (is head c) n.transactions;
      in_group = cond (is grh c) 0 (more_if (is head c) n.in_group);
      group_records = cond (is grh c) 1 (suc n.group_records);
      in_transaction = cond (is head c) 1 (suc n.in_transaction);
      records = suc n.records;
    }

-- the digits that a record of the class has to carry there
abbrev pub expected : Counts → Class → Bytes
expected n hdr = []
expected n grh = decimal 5 (suc n.groups)
expected n head = decimal 8 n.in_group ++ decimal 8 0
expected n detail = decimal 8 (pred n.in_group) ++ decimal 8 n.in_transaction
expected n grt = decimal 5 n.groups ++ decimal 8 n.in_group ++ decimal 8 (suc n.group_records)
expected n trl = decimal 5 n.groups ++ decimal 8 n.transactions ++ decimal 8 (suc n.records)
expected n unknown = []

-- the number positions of a record, and the record without them
abbrev pub slot : Class → Bytes → Bytes
slot c r = take (width c) (drop (at c) r)

abbrev pub cut : Class → Bytes → Bytes
cut c r = take (at c) r ++ drop (at c + width c) r

-- GRT and TRL are judged by 9, all others by 8
abbrev pub closes : Class → Bool
closes c = is grt c || is trl c

module _ (𝕋 : Table) where
  abbrev pub cls : Bytes → Class
  cls r = 𝕋.class (take 3 r)

  -- 6: a known type, and its length
  abbrev pub typed : Bytes → Bool
  typed r = known (cls r) && eqb (length r) (𝕋.len (take 3 r))

  abbrev pub check6 : Check
  check6 = record { State = Unit {0}; begin = tt; ok = λ _ r. typed r; next = λ s _. s; end = λ _. true }

  -- 7: each record may follow the one before, and the last is TRL
  abbrev pub check7 : Check
  check7 = record { State = Class; begin = unknown; ok = λ c r. may_follow c (cls r); next = λ _ r. cls r; end = λ c. is trl c }

  -- a record's number positions hold what it has to carry
  abbrev pub rightly_numbered : Counts → Bytes → Bool
  rightly_numbered n r = same_bytes (slot (cls r) r) (expected n (cls r))

  abbrev pub counting : (Counts → Bytes → Bool) → Check
  counting test = record { State = Counts; begin = none_counted; ok = test; next = λ n r. count n (cls r); end = λ _. true }

  -- 8: prefixes and GRH numbers
  abbrev pub ok8 : Counts → Bytes → Bool
  ok8 n r = closes (cls r) || rightly_numbered n r

  abbrev pub check8 : Check
  check8 = counting ok8

  -- 9: GRT and TRL numbers
  abbrev pub ok9 : Counts → Bytes → Bool
  ok9 n r = not (closes (cls r)) || rightly_numbered n r

  abbrev pub check9 : Check
  check9 = counting ok9

  abbrev pub count_from : Counts → List Bytes → Counts
  count_from n [] = n
  count_from n (r ∷ rs) = count_from (count n (cls r)) rs
