-- Internal: a walk over the records of a file: where it stands, what it knows of a transaction, and what it has written.
use Rattle.std.specs.Prelude.{◌≡◌, Bool, List, [], ◌∷◌, ◌++◌, ℕ, ◌+◌, ◌*◌, ◌≤◌, length, drop}
use Rattle.format.specs.Bytes.{Bytes}
use Rattle.format.specs.Doc.{Transaction}
use Rattle.format.specs.Table.{Class, head}
use Rattle.format.specs.Cwr22.{cwr22}
use Rattle.format.specs.Checks.{cls}
use Rattle.kinds.specs.Rows.{class_in}
use Rattle.format.specs.Lines.{lines}
use Rattle.format.specs.Structure.{most_records, first_record}
use Rattle.format.specs.Numbering.{records_in}
use Rattle.format.specs.Tree.{span, after, is_detail}
use Rattle.rules.specs.Tables.{Tables}
use Rattle.tables.specs.Index.{Indexed}
use Rattle.rules.specs.Works.{is0, transaction_findings}
use Rattle.rules.specs.Verdicts.{transaction_verdicts}
use Rattle.structure.specs.Cursor.{Here}
use Rattle.edits.specs.Judged.{Judged}
use Rattle.tally.specs.Known.{Known}
use Rattle.headers.specs.Headed.{Linked}
use Rattle.buffers.specs.Written.{Written}
use Rattle.transactions.specs.declared.Walk.{Walk}
use Rattle.transactions.specs.declared.Turn.{Turn}
use Rattle.transactions.specs.declared.Details.{Details}
use Rattle.transactions.specs.declared.Passed.{Passed}

-- the records of a file from a byte on
abbrev pub rest_at : Bytes → ℕ → List Bytes
rest_at f i = records_in (lines (drop i f))

abbrev pub tail_of : List Bytes → List Bytes
tail_of [] = []
tail_of (r ∷ rs) = rs

-- the slots are an index of some tables
abbrev pub Prepared : List ℕ → Type 0
Prepared slots = (tables : Tables) × Indexed tables slots

-- ---- where a walk stands

-- before record n of the m records of a file, which begins at byte `at`, where the records rs are left; the record before it has class c
pub record Position (f : Bytes) (m at n : ℕ) (c : Class) (rs : List Bytes) : Type 0 where
  pub here : Here f at c rs
  pub left : n + length rs ≡ m

-- before the first detail, which would begin at that byte and be that record of the file
pub record Outset (start n : ℕ) (w : Walk) : Type 0 where
  pub at : w.at ≡ start
  pub index : w.index ≡ n
  pub known : Known w.tally []

-- one detail on: the findings of r after the details ds, and what is known with it
pub record Turned (tables : Tables) (ds : List Bytes) (r : Bytes) (s : Turn) : Type 0 where
  pub judged : Judged tables ds r s.found
  pub known : Known s.walk.tally (ds ++ r ∷ [])

-- past the details at the front of the records rs
pub record PastDetails (f : Bytes) (m : ℕ) (rs : List Bytes) (d : Details) : Type 0 where
  pub position : Position f m d.walk.at d.walk.index head (after (is_detail cwr22) rs)
  pub class : class_in d.class ≡ cls cwr22 (first_record (after (is_detail cwr22) rs))
  pub known : Known d.walk.tally (span (is_detail cwr22) rs)
  pub linked : Linked d.links (span (is_detail cwr22) rs)

-- the transaction that a header at the front of the records begins
abbrev pub front_of : List Bytes → Transaction
front_of rs = record { header = first_record rs; details = span (is_detail cwr22) (tail_of rs) }

-- past that transaction, under a GRH that names a type
pub record PastTransaction (named f : Bytes) (m : ℕ) (rs : List Bytes) (p : Passed) : Type 0 where
  pub position : Position f m p.at p.index head (after (is_detail cwr22) (tail_of rs))
  pub class : class_in p.class ≡ cls cwr22 (first_record (after (is_detail cwr22) (tail_of rs)))
  pub stray : p.stray ≡ is0 named (first_record rs)

-- ---- what it has written

-- m records are no more than a file may have, and buffers of v and g bytes have an entry for each
pub record Room (m v g : ℕ) : Type 0 where
  pub few : m ≤ most_records
  pub in_v : m ≤ v
  pub in_f : 8 * m ≤ g

-- records i to n have got these verdicts and sets; the buffers were v₀ and g₀ and are now v and g
pub record Filled (i n : ℕ) (vs : List ℕ) (sets : List (List Bool)) (v₀ g₀ v g : Bytes) : Type 0 where
  pub end : n ≡ i + length sets
  pub written : Written i vs sets v₀ g₀ v g

-- the transaction x is records i to n
abbrev pub FilledTransaction : (tables : Tables) (t : ℕ) (named : Bytes) (i n : ℕ) (x : Transaction) (v₀ g₀ v g : Bytes) → Type 0
FilledTransaction tables t named i n x v₀ g₀ v g =
    Filled i n (transaction_verdicts tables t named x) (transaction_findings tables t named x) v₀ g₀ v g
