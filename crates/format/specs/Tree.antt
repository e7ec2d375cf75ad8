-- The records of a file as groups and transactions, each record whole: what a group or a transaction is judged by. Without their numbers
-- they are demand 3's list (`Grown` in Claims).
use Rattle.std.specs.Prelude.{Bool, cond, ◌||◌, List, [], ◌∷◌, ◌++◌, map}
use Rattle.format.specs.Bytes.{Bytes}
use Rattle.format.specs.Doc.{Doc, Group, Transaction}
use Rattle.format.specs.Table.{hdr, grh, head, detail, grt, trl, Table}
use Rattle.format.specs.Checks.{is, cls, cut}
use Rattle.format.specs.Structure.{first_record}

-- the shape of a content, with whole records
abbrev pub Tree : Type 0
Tree = Doc

-- ---- from a list of records to the tree

-- the records at the front that pass, and what stands after them
abbrev pub span : (Bytes → Bool) → List Bytes → List Bytes
span p [] = []
span p (r ∷ rs) = cond (p r) (r ∷ span p rs) []

abbrev pub after : (Bytes → Bool) → List Bytes → List Bytes
after p [] = []
after p (r ∷ rs) = cond (p r) (after p rs) (r ∷ rs)

abbrev pub last_of : List Bytes → Bytes
last_of [] = []
last_of (r ∷ []) = r
last_of (r ∷ s ∷ rs) = last_of (s ∷ rs)

module _ (𝕋 : Table) where
  abbrev pub is_grh : Bytes → Bool
  is_grh r = is grh (cls 𝕋 r)

  abbrev pub is_head : Bytes → Bool
  is_head r = is head (cls 𝕋 r)

  abbrev pub is_detail : Bytes → Bool
  is_detail r = is detail (cls 𝕋 r)

  -- what stands between GRH and GRT
  abbrev pub is_inside : Bytes → Bool
  is_inside r = is_head r || is_detail r

  -- each header begins a transaction, which ends where no detail follows
  abbrev pub transactions_in : List Bytes → List Transaction
  transactions_in [] = []
  transactions_in (r ∷ rs) = cond (is_head r) (record { header = r; details = span is_detail rs } ∷ transactions_in rs) (transactions_in rs)

  -- each GRH begins a group, which ends with the first record that is neither header nor detail
  abbrev pub groups_in : List Bytes → List Group
  groups_in [] = []
  groups_in (r ∷ rs) =
      cond (is_grh r)
      (record { opening = r; transactions = transactions_in (span is_inside rs); closing = first_record (after is_inside rs) } ∷ groups_in rs)
      (groups_in rs)

  unfoldable pub tree : List Bytes → Tree
  tree rs = record { header = first_record rs; groups = groups_in rs; trailer = last_of rs }

-- ---- from the tree to the list of its records

abbrev pub records_in_t : List Transaction → List Bytes
records_in_t [] = []
records_in_t (x ∷ xs) = x.header ∷ x.details ++ records_in_t xs

abbrev pub records_in_g : List Group → List Bytes
records_in_g [] = []
records_in_g (g ∷ gs) = g.opening ∷ records_in_t g.transactions ++ g.closing ∷ records_in_g gs

unfoldable pub leaves : Tree → List Bytes
leaves d = d.header ∷ records_in_g d.groups ++ d.trailer ∷ []

-- ---- the tree with the number positions of its records cut out

abbrev pub cut_t : Transaction → Transaction
cut_t x = record { header = cut head x.header; details = map (cut detail) x.details }

abbrev pub cut_g : Group → Group
cut_g g = record { opening = cut grh g.opening; transactions = map cut_t g.transactions; closing = cut grt g.closing }

unfoldable pub numberless : Tree → Doc
numberless d = record { header = cut hdr d.header; groups = map cut_g d.groups; trailer = cut trl d.trailer }
