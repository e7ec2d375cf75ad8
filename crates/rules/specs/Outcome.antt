-- What a check answers, and what it leaves in the two buffers that it was lent: for every file, tables, tolerance and buffers.
use Rattle.std.specs.Prelude.{ℕ, ◌*◌, Bool, ◌&&◌, leb, length}
use Rattle.format.specs.Bytes.{Bytes}
use Rattle.format.specs.Cwr22.{cwr22}
use Rattle.format.specs.Lines.{lines}
use Rattle.format.specs.Structure.{Answer, refusal, unless, structure}
use Rattle.format.specs.Numbering.{records_in}
use Rattle.format.specs.Tree.{Tree, tree}
use Rattle.format.specs.Lent.{in_room, left_in}
use Rattle.rules.specs.Tables.{Tables, language_size, society_size, category_size, right_table}
use Rattle.rules.specs.Values.{largest_tolerance}
use Rattle.rules.specs.Verdicts.{finding_bytes, file_findings, file_verdicts}

-- buffers of v and g bytes have room for r records: one verdict byte each, and eight of findings
abbrev pub enough : ℕ → ℕ → ℕ → Bool
enough v g r = leb r v && leb (8 * r) g

-- 1 and 2, for what is lent beside the file; then what is answered of the rest
abbrev pub lent_right : Tables → ℕ → Answer → Answer
lent_right tables t rest =
    refusal 1 (unless (leb t largest_tolerance) 0)
    (refusal 2 (unless (right_table language_size tables.languages) 0)
    (refusal 2 (unless (right_table society_size tables.societies) 1)
    (refusal 2 (unless (right_table category_size tables.categories) 2)
    rest)))

-- 1 to 10 in their order: what is answered before any buffer is looked at
unfoldable pub admission : Tables → ℕ → Bytes → Answer
admission tables t f = lent_right tables t (structure cwr22 f)

-- and 11, for buffers of v and g bytes
unfoldable pub answer : Tables → ℕ → Bytes → ℕ → ℕ → Answer
answer tables t f v g = in_room (enough v g) (admission tables t f)

-- the groups and transactions of a file, each record whole
abbrev pub content : Bytes → Tree
content f = tree cwr22 (records_in (lines f))

-- the answer, and the two buffers after the call
pub record Outcome : Type 0 where
  pub answer : Answer
  pub verdicts : Bytes
  pub findings : Bytes

-- the entire outcome of a check of file f with tables and tolerance t, the buffers being v and g before it
unfoldable pub check : Tables → ℕ → Bytes → Bytes → Bytes → Outcome
check tables t f v g = record {
  answer = answer tables t f (length v) (length g);
  verdicts = left_in (answer tables t f (length v) (length g)) (file_verdicts tables t (content f)) v;
  findings = left_in (answer tables t f (length v) (length g)) (finding_bytes (file_findings tables t (content f))) g;
}

-- the tolerance of the short form: none, since outgoing files get no slack (M-104)
abbrev pub short_tolerance : ℕ
short_tolerance = 0
