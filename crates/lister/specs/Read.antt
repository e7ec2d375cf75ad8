-- Internal: the lines of records whose verdicts and findings stand in two buffers.
use Rattle.std.specs.Prelude.{ℕ, zero, suc, ◌*◌, ◌≤◌, Bool, List, [], ◌∷◌, length, take, drop, get_or}
use Rattle.format.specs.Bytes.{Bytes}
use Rattle.format.specs.Table.{unknown}
use Rattle.format.specs.Lines.{lines}
use Rattle.format.specs.Numbering.{records_in}
use Rattle.rules.specs.Findings.{places}
use Rattle.rules.specs.Listing.{record_line, record_lines}
use Rattle.text.specs.Words.{word_of}
use Rattle.structure.specs.Cursor.{Here}

-- what the lines are read from: a file of right records, and an entry for each of them in both buffers
pub record Listable (f v g : Bytes) : Type 0 where
  pub here : Here f 0 unknown (records_in (lines f))
  pub in_v : length (records_in (lines f)) ≤ length v
  pub in_g : 8 * length (records_in (lines f)) ≤ length g

-- the first set in a findings buffer: eight bytes
abbrev pub first_set : Bytes → List Bool
first_set g = places 64 (word_of (take 8 g))

-- the first so many
abbrev pub sets_in : ℕ → Bytes → List (List Bool)
sets_in zero g = []
sets_in (suc k) g = first_set g ∷ sets_in k (drop 8 g)

-- of the record that stands at byte i of the file and has number n
abbrev pub line_at : Bytes → ℕ → ℕ → Bytes → Bytes → Bytes
line_at f i n v g = record_line n (take 3 (drop i f)) (get_or v n 0) (first_set (drop (8 * n) g))

-- of these records, the first having number n
unfoldable pub lines_from : Bytes → Bytes → ℕ → List Bytes → Bytes
lines_from v g n rs = record_lines n rs (drop n v) (sets_in (length rs) (drop (8 * n) g))
