-- Demand 3 and what numbering promises, as statements over any edition's table. proofs/ has their proofs.
use Rattle.std.specs.Prelude.{ℕ, suc, pred, ◌^◌, ◌≤◌, ◌<◌, ◌≡◌, Bool, ◌↔◌, List, [], ◌∷◌, map, length, T}
use Rattle.format.specs.Bytes.{Bytes, is_one_of, pairs, unlines}
use Rattle.format.specs.Doc.{Doc, write, transactions_of, records_all}
use Rattle.format.specs.Table.{Class, hdr, grh, head, detail, grt, trl, unknown, Table}
use Rattle.format.specs.WellFormed.{Item, item, items, WellFormed, Loose}
use Rattle.format.specs.Lines.{good, lines}
use Rattle.format.specs.Checks.{Counts, none_counted, count}
use Rattle.format.specs.Structure.{Answer, passed, refused, most_bytes, most_records, structure}
use Rattle.format.specs.Tree.{tree, leaves, numberless}
use Rattle.format.specs.Numbering.{records_in, held, numbering, numbered_file}

-- the size limits, 3 and 5: a record is the text before a CR LF
abbrev pub Limits : Bytes → Type 0
Limits f = (length f ≤ most_bytes) × (pairs f ≤ most_records)

-- a list that the numbering rules write out as these very bytes
abbrev pub Content : Table → Bytes → Type 0
Content 𝕋 f = (d : Doc) × WellFormed 𝕋 d × (write d ≡ f)

-- the lengths of a list: groups, transactions, records
abbrev pub lengths : Doc → Answer
lengths d = passed (length d.groups) (transactions_of d.groups) (records_all d)

abbrev pub PassesStructure : Table → Bytes → Type 0
PassesStructure 𝕋 f = (g : ℕ) × (m : ℕ) × (n : ℕ) × (structure 𝕋 f ≡ passed g m n)

-- the refusals on structure; 3 and 5 are the size limits
abbrev pub is_structural : ℕ → Bool
is_structural n = is_one_of n (4 ∷ 6 ∷ 7 ∷ 8 ∷ 9 ∷ 10 ∷ [])

abbrev pub RefusedOnStructure : Table → Bytes → Type 0
RefusedOnStructure 𝕋 f = (n : ℕ) × (i : ℕ) × (structure 𝕋 f ≡ refused n i) × T (is_structural n)

pub record Demand3 (𝕋 : Table) : Type 0 where
  -- a file passes exactly when it is within the size limits and there is such a list
  pub exactly : (f : Bytes) → PassesStructure 𝕋 f ↔ (Limits f × Content 𝕋 f)
  -- no second such list exists
  pub only : (d e : Doc) → WellFormed 𝕋 d → WellFormed 𝕋 e → write d ≡ write e → d ≡ e
  -- within the limits it is refused on structure exactly when no list exists
  pub else_refused : (f : Bytes) → Limits f → RefusedOnStructure 𝕋 f ↔ (Content 𝕋 f → ⊥)
  -- and never otherwise, whatever its size
  pub never_otherwise : (f : Bytes) → RefusedOnStructure 𝕋 f → Content 𝕋 f → ⊥
  -- the counts are the lengths of that one list
  pub counts : (d : Doc) → WellFormed 𝕋 d → Limits (write d) → structure 𝕋 (write d) ≡ lengths d

-- the tree of a file that passes: its leaves are the file's records, and it has the file's counts; with the number positions cut out it is
-- the one list of demand 3
pub record Grown (𝕋 : Table) (f : Bytes) (rs : List Bytes) (counts : Answer) : Type 0 where
  pub same_leaves : leaves (tree 𝕋 rs) ≡ rs
  pub same_counts : lengths (tree 𝕋 rs) ≡ counts
  pub content : WellFormed 𝕋 (numberless (tree 𝕋 rs)) × (write (numberless (tree 𝕋 rs)) ≡ f)

abbrev pub Grows : Table → Type 0
Grows 𝕋 = (f : Bytes) (rs : List Bytes) (g m n : ℕ) → lines f ≡ good rs → structure 𝕋 f ≡ passed g m n → Grown 𝕋 f rs (passed g m n)

-- each number that a record of the class carries has its decimal digits within its width
abbrev pub Fit : Counts → Class → Type 0
Fit n hdr = Unit {0}
Fit n grh = suc n.groups < 10 ^ 5
Fit n head = n.in_group < 10 ^ 8
Fit n detail = (pred n.in_group < 10 ^ 8) × (n.in_transaction < 10 ^ 8)
Fit n grt = (n.groups < 10 ^ 5) × (n.in_group < 10 ^ 8) × (suc n.group_records < 10 ^ 8)
Fit n trl = (n.groups < 10 ^ 5) × (n.transactions < 10 ^ 8) × (suc n.records < 10 ^ 8)
Fit n unknown = Unit {0}

abbrev pub AllFit : Counts → List Item → Type 0
AllFit n [] = Unit {0}
AllFit n (item c s ∷ is) = Fit n c × AllFit (count n c) is

-- within the size limits every number fits
abbrev pub Fits : Table → Type 0
Fits 𝕋 = (d : Doc) → WellFormed 𝕋 d → Limits (write d) → AllFit none_counted (items d)

-- the file has that content, whatever stands in its number positions
abbrev pub Unnumbered : Doc → Bytes → Type 0
Unnumbered d f = (rs : List Bytes) × Loose (items d) rs × (unlines rs ≡ f)

abbrev pub Fillable : Table → Bytes → Type 0
Fillable 𝕋 f = (d : Doc) × WellFormed 𝕋 d × Unnumbered d f

abbrev pub Numberable : Table → Bytes → Type 0
Numberable 𝕋 f = (g : ℕ) × (m : ℕ) × (n : ℕ) × (numbering 𝕋 f ≡ passed g m n)

pub record Numbers (𝕋 : Table) : Type 0 where
  -- a file is numbered exactly when it is within the size limits and has some content, that is, is right by 4, 6, 7 and 10
  pub exactly : (f : Bytes) → Numberable 𝕋 f ↔ (Limits f × Fillable 𝕋 f)
  -- no second content fits
  pub only : (f : Bytes) (d e : Doc) → WellFormed 𝕋 d → WellFormed 𝕋 e → Unnumbered d f → Unnumbered e f → d ≡ e
  -- that content is written out, and the answer is its lengths
  pub writes : (f : Bytes) (d : Doc) → Limits f → WellFormed 𝕋 d → Unnumbered d f
      → (numbering 𝕋 f ≡ lengths d) × (numbered_file 𝕋 f ≡ write d)
  -- so file and result have the same content,
  pub else_same : (f : Bytes) → Numberable 𝕋 f → (d : Doc) × WellFormed 𝕋 d × Unnumbered d f × Unnumbered d (numbered_file 𝕋 f)
  -- record by record the same class and, outside the number positions, the same bytes,
  pub outside : (f : Bytes) → Numberable 𝕋 f → map (held 𝕋) (records_in (lines (numbered_file 𝕋 f))) ≡ map (held 𝕋) (records_in (lines f))
  -- and the same length
  pub as_long : (f : Bytes) → Numberable 𝕋 f → length (numbered_file 𝕋 f) ≡ length f
  -- the result passes, with the same numbers
  pub passes : (f : Bytes) (g m n : ℕ) → numbering 𝕋 f ≡ passed g m n → structure 𝕋 (numbered_file 𝕋 f) ≡ passed g m n
  -- a file that passes stays as it is
  pub same : (f : Bytes) (g m n : ℕ) → structure 𝕋 f ≡ passed g m n
      → (numbering 𝕋 f ≡ passed g m n) × (numbered_file 𝕋 f ≡ f)
  -- and so twice is once
  pub twice : (f : Bytes) (g m n : ℕ) → numbering 𝕋 f ≡ passed g m n
      → (numbering 𝕋 (numbered_file 𝕋 f) ≡ passed g m n) × (numbered_file 𝕋 (numbered_file 𝕋 f) ≡ numbered_file 𝕋 f)

-- a place, and a count of records, in 32 bits with much room
abbrev pub Near : Answer → Type 0
Near (refused n i) = i ≤ most_bytes
Near (passed g m n) = n ≤ most_records

abbrev pub Nearby : Table → Type 0
Nearby 𝕋 = (f : Bytes) → Near (structure 𝕋 f) × Near (numbering 𝕋 f)
