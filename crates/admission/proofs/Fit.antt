-- What a file that is let in is fit for. Assumes nothing.
use Prim.Native.Nat.{ℕ, ◌≤◌}
use native.Mathlib.Omega.{arith}
use mathlib.Core.Path.{◌≡◌, sym, ap, subst}
use mathlib.Core.Bool.{true}
use lib.ListN.{length}
use Rattle.format.specs.Bytes.{Bytes}
use Rattle.format.specs.Table.{unknown}
use Rattle.format.specs.Cwr22.{cwr22}
use Rattle.format.specs.Lines.{lines}
use Rattle.format.specs.Structure.{passed, most_bytes, most_records, judged, structure}
use Rattle.format.specs.Numbering.{records_in}
use Rattle.format.proofs.Answers.{file-read, answer-judged}
use Rattle.rules.specs.Tables.{Tables}
use Rattle.rules.specs.Territories.{right_territories}
use Rattle.rules.specs.Outcome.{admission}
use Rattle.rules.specs.WithTerritories.{admission_with}
use Rattle.rules.proofs.Each.{records-counted, pairs-counted}
use Rattle.rules.proofs.Outcomes.{Orderly, admitted, admitted-with}
use Rattle.structure.specs.Cursor.{Here}
use Rattle.structure.proofs.Cursor.{here-start}

-- it can be walked from its first byte
pub record Fit (f : Bytes) : Type 0 where
  pub short : length f ≤ most_bytes
  pub here : Here f 0 unknown (records_in (lines f))
  pub few : length (records_in (lines f)) ≤ most_records

pub passes-fit : (f : Bytes) (k m n : ℕ) → structure cwr22 f ≡ passed k m n → Fit f
unfolding structure
passes-fit f k m n e =
    let d = file-read (judged cwr22) f k m n e in
    let c : length (records_in (lines f)) ≡ n = records-counted f k m n e in
    record {
      short = d.limits.0;
      here =
          subst (Here f 0 unknown) (sym (ap records_in d.is-lines))
          (here-start f d.rs d.is-lines (answer-judged cwr22 d.rs k m n d.is-judged).in_place);
      few = omega (arith, d.limits.1, pairs-counted f k m n e);
    }

-- ---- let in

-- with a territory table, and with these numbers
pub record LetInWith (tables : Tables) (table : Bytes) (t : ℕ) (f : Bytes) (k m n : ℕ) : Type 0 where
  pub orderly : Orderly tables t
  pub territories : right_territories table ≡ true
  pub passes : structure cwr22 f ≡ passed k m n
  pub fit : Fit f
  pub counted : length (records_in (lines f)) ≡ n

pub passed-with : (tables : Tables) (table : Bytes) (t : ℕ) (f : Bytes) (k m n : ℕ) → admission_with tables table t f ≡ passed k m n
    → LetInWith tables table t f k m n
passed-with tables table t f k m n e =
    let (o, right, s) = admitted-with tables t f table k m n e in
    record { orderly = o; territories = right; passes = s; fit = passes-fit f k m n s; counted = records-counted f k m n s }

pub let-in : (tables : Tables) (t : ℕ) (f : Bytes) {k m n : ℕ} → passed k m n ≡ admission tables t f → Orderly tables t × Fit f
let-in tables t f {k} {m} {n} is =
    let (o, s) = admitted tables t f k m n (sym is) in
    (o, passes-fit f k m n s)
