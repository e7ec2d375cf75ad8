-- Numbering: which files are numbered, and the bytes that are written.
use Rattle.std.specs.Prelude.{List, [], ◌∷◌, map}
use Rattle.format.specs.Bytes.{Bytes, put, unlines}
use Rattle.format.specs.Table.{start, Table}
use Rattle.format.specs.WellFormed.{Item, item}
use Rattle.format.specs.Lines.{Lines, good, bad, lines}
use Rattle.format.specs.Checks.{Counts, none_counted, count, expected, cut, cls, fault_of, check6, check7}
use Rattle.format.specs.Structure.{Answer, refusal, versioned, of_file}

-- the numbers put into records held without them
abbrev pub number : Counts → List Item → List Bytes
number n [] = []
number n (item c s ∷ is) = put (start c) (expected n c) s ∷ number (count n c) is

abbrev pub records_in : Lines → List Bytes
records_in (good rs) = rs
records_in (bad n) = []

module _ (𝕋 : Table) where
  -- a record without what stands in its number positions
  abbrev pub held : Bytes → Item
  held r = item (cls 𝕋 r) (cut (cls 𝕋 r) r)

  -- 6, 7 and 10
  unfoldable pub placed : List Bytes → Answer
  placed rs = refusal 6 (fault_of (check6 𝕋) rs) (refusal 7 (fault_of (check7 𝕋) rs) (versioned 𝕋 rs))

  -- the answer: refused by 3, 4, 5, 6, 7 or 10, or the three numbers
  unfoldable pub numbering : Bytes → Answer
  numbering f = of_file placed f

  -- the bytes written where it is not refused
  abbrev pub renumbered : List Bytes → Bytes
  renumbered rs = unlines (number none_counted (map held rs))

  unfoldable pub numbered_file : Bytes → Bytes
  numbered_file f = renumbered (records_in (lines f))
