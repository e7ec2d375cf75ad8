-- Internal: a walk over a file's transactions, from one in doubt to the next: where it stands, what it knows of a transaction's claims, and
-- what it still owes to the two buffers and to the answer.
use Rattle.std.specs.Prelude.{ℕ, suc, ◌+◌, ◌*◌, ◌≤◌, ◌≡◌, true, false, cond, Option, None, Some, is_some, List, length}
use Rattle.std.proofs.Math.Option.{none}
use Rattle.format.specs.Bytes.{Bytes}
use Rattle.format.specs.Table.{Class, head, trl}
use Rattle.format.specs.Cwr22.{cwr22}
use Rattle.format.specs.Checks.{is, cls}
use Rattle.kinds.specs.Rows.{class_in}
use Rattle.format.specs.Structure.{most_bytes, most_records, first_record}
use Rattle.format.specs.Tree.{span, after, is_detail, transactions_in}
use Rattle.rules.specs.Values.{largest_tolerance}
use Rattle.rules.specs.Records.{only, any}
use Rattle.rules.specs.Territories.{Territory, territories_in, right_territories}
use Rattle.rules.specs.Collection.{is_party, is_claim, is47, is48, first_over}
use Rattle.rules.specs.WithTerritories.{Over, nowhere, over, or_later, over_among, crowded_from}
use Rattle.structure.specs.Cursor.{Here}
use Rattle.transactions.specs.Walk.{rest_at, Position}
use Rattle.claims.specs.Entries.{entries_from}
use Rattle.parties.specs.Most.{Most}
use Rattle.collection.specs.declared.Tally.{Tally}
use Rattle.collection.specs.declared.Details.{Details}
use Rattle.collection.specs.declared.Over.{Over as CodeOver}
use Rattle.collection.specs.declared.Walk.{Walk}
use Rattle.collection.specs.declared.Sought.{Sought}
use Rattle.collection.specs.Marked.{with47, raised_if, marked_from, raised_from}

-- ---- a transaction's claims

-- what is known of the details ds
pub record Known (territories : List Territory) (ds : List Bytes) (tally : Tally) : Type 0 where
  pub party : tally.party ≡ length (only is_party ds)
  pub wrong : tally.wrong ≡ any (is48 territories) ds
  pub most : Most (entries_from territories 0 ds) tally.largest

-- past the details at the front of the records rs, of a file of m records
pub record PastDetails (f : Bytes) (m : ℕ) (territories : List Territory) (rs : List Bytes) (d : Details) : Type 0 where
  pub position : Position f m d.at d.index head (after (is_detail cwr22) rs)
  pub class : class_in d.class ≡ cls cwr22 (first_record (after (is_detail cwr22) rs))
  pub known : Known territories (span (is_detail cwr22) rs) d.tally

-- ---- from transaction to transaction

-- what is lent is in order: a file of m records, whose entries the buffers have
pub record Lent (f table : Bytes) (t m : ℕ) (v g : Bytes) : Type 0 where
  pub short : length f ≤ most_bytes
  pub few : m ≤ most_records
  pub right : right_territories table ≡ true
  pub small : t ≤ largest_tolerance
  pub in_v : m ≤ length v
  pub in_g : 8 * m ≤ length g

-- before a record of a file of m records; where no transaction of the file has more than c claims, none that is left has
pub record Standing (f : Bytes) (m : ℕ) (w : Walk) : Type 0 where
  pub class : Class
  pub more : is trl class ≡ false
  pub position : Position f m w.at w.index class (rest_at f w.at)
  pub numbers : w.number ≤ w.index
  pub uncrowded : (c : ℕ) → crowded_from c 0 (rest_at f 0) ≡ none → crowded_from c w.index (rest_at f w.at) ≡ none

-- the first territory that was found to be over; where none was, what comes later
abbrev pub or_over : Option CodeOver → Over → Over
or_over None later = later
or_over (Some o) later = over o.transaction o.territory

abbrev pub or_found : Walk → Over → Over
or_found w later = or_over w.over later

-- with what is owed for the records that are left, the buffers v and g become v' and g', and o is told
pub record Owes (f table : Bytes) (t m : ℕ) (v' g' : Bytes) (o : Over) (w : Walk) (v g : Bytes) : Type 0 where
  pub standing : Standing f m w
  pub verdicts : raised_from (territories_in table) t w.index (rest_at f w.at) v ≡ v'
  pub findings : marked_from (territories_in table) t w.index (rest_at f w.at) g ≡ g'
  pub over : or_found w (over_among (territories_in table) t w.number (transactions_in cwr22 (rest_at f w.at))) ≡ o

-- past a transaction whose first detail begins at a byte, with finding 47 still owed for it
pub record Doubts (f table : Bytes) (t m : ℕ) (v' g' : Bytes) (o : Over) (w : Walk) (first : ℕ) (v g : Bytes) : Type 0 where
  pub standing : Standing f m w
  pub here : Here f first head (rest_at f first)
  pub left : after (is_detail cwr22) (rest_at f first) ≡ rest_at f w.at
  pub ends : w.index ≡ w.header + suc (length (span (is_detail cwr22) (rest_at f first)))
  pub numbered : w.number ≤ w.header
  pub fits : (c : ℕ) → crowded_from c 0 (rest_at f 0) ≡ none → length (only is_claim (span (is_detail cwr22) (rest_at f first))) ≤ c
  pub verdicts : raised_from (territories_in table) t w.index (rest_at f w.at)
      (raised_if (is47 (territories_in table) t (span (is_detail cwr22) (rest_at f first))) w.header
      (suc (length (span (is_detail cwr22) (rest_at f first)))) v)
      ≡ v'
  pub findings : marked_from (territories_in table) t w.index (rest_at f w.at)
      (cond (is47 (territories_in table) t (span (is_detail cwr22) (rest_at f first))) (with47 w.header g) g)
      ≡ g'
  pub over : or_found w (or_later w.number (first_over (territories_in table) t (span (is_detail cwr22) (rest_at f first)))
      (over_among (territories_in table) t (suc w.number) (transactions_in cwr22 (rest_at f w.at))))
      ≡ o

-- past one transaction, which is in doubt or not
pub record Judged (f table : Bytes) (t m : ℕ) (v' g' : Bytes) (o : Over) (s : Sought) (v g : Bytes) : Type 0 where
  pub doubts : (first : ℕ) → s.doubt ≡ Some first → Doubts f table t m v' g' o s.walk first v g
  pub goes : s.doubt ≡ None → Owes f table t m v' g' o s.walk v g

-- past a control record of so many bytes
abbrev pub past_control : Walk → ℕ → Walk
past_control w size = record {
  at = w.at + size + 2;
  index = w.index + 1;
  number = w.number;
  over = w.over;
  header = w.header;
}

-- twice the records that are left, and one more for a transaction in doubt
unfoldable pub steps_left : Bytes → Sought → ℕ
steps_left f s = cond (is_some s.doubt) 1 0 + 2 * length (rest_at f s.walk.at)

-- the walk has come to a transaction in doubt, or to the end
pub record Reached (f table : Bytes) (t m : ℕ) (v' g' : Bytes) (o : Over) (s : Sought) (v g : Bytes) : Type 0 where
  pub doubts : (first : ℕ) → s.doubt ≡ Some first → Doubts f table t m v' g' o s.walk first v g
  pub ends : s.doubt ≡ None → (v ≡ v') × (g ≡ g') × (or_found s.walk nowhere ≡ o)
