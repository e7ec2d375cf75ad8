-- What is claimed of the outcome of a check, of the first transaction to look at, of tolerances, of finding 2 beside 1 and 3, of collection
-- shares by territory, and of the catalogue sheet. proofs/Outcomes.antt, proofs/First.antt, proofs/Tolerances.antt, proofs/SmallChange.antt,
-- proofs/Territories.antt and proofs/Sheets.antt have the proofs.
use Rattle.std.specs.Prelude.{ℕ, zero, suc, ◌+◌, ◌*◌, ◌^◌, ◌≤◌, ◌<◌, ◌≡◌, Bool, true, false, not, ◌||◌, ◌↔◌, ◌≢◌, ◌⊎◌, length, take, drop, replicate, get_or, ℤ, pos, T}
use Rattle.std.proofs.Math.Option.{some}
use mathlib.Core.List.{List, [], ◌∷◌, ◌++◌, map, Perm}
use Rattle.std.specs.Int.Signed.{mag}
use Rattle.format.specs.Bytes.{Bytes, All, every, among, pairs}
use Rattle.format.specs.Doc.{Doc, Group, Transaction, write}
use Rattle.format.specs.Cwr22.{cwr22}
use Rattle.format.specs.WellFormed.{WellFormed}
use Rattle.format.specs.Structure.{Answer, passed, refused, most_records}
use Rattle.format.specs.Tree.{Tree, span, is_head, is_detail, leaves}
use Rattle.format.specs.Lines.{lines}
use Rattle.format.specs.Numbering.{records_in}
use Rattle.format.specs.Claims.{Limits, Content, lengths, is_structural, Near}
use Rattle.rules.specs.Tables.{Tables, language_size, society_size, category_size, right_table}
use Rattle.rules.specs.Values.{full_share, largest_tolerance}
use Rattle.rules.specs.Records.{only, any}
use Rattle.rules.specs.Territories.{Territory, territories_in, no_group, codes_of, right_territories, names, has_members}
use Rattle.rules.specs.Collection.{is_party, is_claim, excludes, parties, is47, is48, share_in, total_in, first_over}
use Rattle.rules.specs.Totals.{Right, PR, writers_total, whole_total, is1, is3}
use Rattle.rules.specs.Findings.{places}
use Rattle.rules.specs.Works.{named_type, transaction_findings}
use Rattle.rules.specs.Verdicts.{joined, finding_bytes, file_findings_by, file_verdicts_by, file_findings, file_verdicts}
use Rattle.rules.specs.Outcome.{Outcome, check, answer, enough, content, short_tolerance}
use Rattle.rules.specs.WithTerritories.{claimed_findings, nowhere, over, file_over, answer_with, check_claims}
use Rattle.rules.specs.First.{is_grave, of_each, first_rejected, refused_with, nothing, at, seen, first}
use Rattle.rules.specs.Sheet.{Taken, sheet_tolerance, answer_to, Missed, carries, Sheet, sheet_of, most_files, add}

-- what is lent beside the file is in order: tolerance and tables (1, 2), and a buffer entry for each record, the text before a CR LF (11)
pub record InOrder (tables : Tables) (t : ℕ) (f v g : Bytes) : Type 0 where
  pub tolerance : t ≤ largest_tolerance
  pub languages : right_table language_size tables.languages ≡ true
  pub societies : right_table society_size tables.societies ≡ true
  pub categories : right_table category_size tables.categories ≡ true
  pub in_v : pairs f ≤ length v
  pub in_f : 8 * pairs f ≤ length g

abbrev pub Passes : Outcome → Type 0
Passes o = (g : ℕ) × (m : ℕ) × (n : ℕ) × (o.answer ≡ passed g m n)

abbrev pub Refused : Outcome → Type 0
Refused o = (n : ℕ) × (i : ℕ) × (o.answer ≡ refused n i)

pub record Checks : Type 0 where
  -- demand 3: within the size limits, and the rest in order, a file passes exactly when there is a list that is written out as its bytes,
  pub exactly : (tables : Tables) (t : ℕ) (f v g : Bytes) → InOrder tables t f v g → Limits f
      → Passes (check tables t f v g) ↔ Content cwr22 f
  -- is refused exactly when there is none,
  pub else_refused : (tables : Tables) (t : ℕ) (f v g : Bytes) → InOrder tables t f v g → Limits f
      → Refused (check tables t f v g) ↔ (Content cwr22 f → ⊥)
  -- by a number of structure never otherwise, whatever else is lent and however long the file is,
  pub never_otherwise : (tables : Tables) (t : ℕ) (f v g : Bytes) (n i : ℕ) → (check tables t f v g).answer ≡ refused n i → T (is_structural n)
      → Content cwr22 f → ⊥
  -- and the counts are the lengths of that one list
  pub counts : (tables : Tables) (t : ℕ) (d : Doc) (v g : Bytes) → InOrder tables t (write d) v g → Limits (write d) → WellFormed cwr22 d
      → (check tables t (write d) v g).answer ≡ lengths d
  -- nothing passes that is not in order and within the limits
  pub no_other : (tables : Tables) (t : ℕ) (f v g : Bytes) → Passes (check tables t f v g) → InOrder tables t f v g × Limits f
  -- a refused call leaves both buffers as they were
  pub untouched : (tables : Tables) (t : ℕ) (f v g : Bytes) (n i : ℕ) → (check tables t f v g).answer ≡ refused n i
      → ((check tables t f v g).verdicts ≡ v) × ((check tables t f v g).findings ≡ g)
  -- a call that passes writes one entry for each of the n records,
  pub entries : (tables : Tables) (t : ℕ) (f v g : Bytes) (k m n : ℕ) → (check tables t f v g).answer ≡ passed k m n
      → (take n (check tables t f v g).verdicts ≡ file_verdicts tables t (content f))
      × (take (8 * n) (check tables t f v g).findings ≡ finding_bytes (file_findings tables t (content f)))
  pub one_each : (tables : Tables) (t : ℕ) (f v g : Bytes) (k m n : ℕ) → (check tables t f v g).answer ≡ passed k m n
      → (length (file_verdicts tables t (content f)) ≡ n) × (length (file_findings tables t (content f)) ≡ n)
  -- leaves the bytes beyond them, and no buffer grows
  pub beyond : (tables : Tables) (t : ℕ) (f v g : Bytes) (k m n : ℕ) → (check tables t f v g).answer ≡ passed k m n
      → (drop n (check tables t f v g).verdicts ≡ drop n v) × (drop (8 * n) (check tables t f v g).findings ≡ drop (8 * n) g)
  pub as_long : (tables : Tables) (t : ℕ) (f v g : Bytes)
      → (length (check tables t f v g).verdicts ≡ length v) × (length (check tables t f v g).findings ≡ length g)
  -- the short form is never refused by 1
  pub short_form : (tables : Tables) (f v g : Bytes) (i : ℕ) → (check tables short_tolerance f v g).answer ≢ refused 1 i
  -- a refusal's number is 1 to 11
  pub numbers : (tables : Tables) (t : ℕ) (f v g : Bytes) (n i : ℕ) → (check tables t f v g).answer ≡ refused n i → (1 ≤ n) × (n ≤ 11)
  -- its place and the number of records have much room in 32 bits
  pub near : (tables : Tables) (t : ℕ) (f v g : Bytes) → Near (check tables t f v g).answer

-- ---- the first transaction to look at

-- the sets that a buffer has for n records: eight bytes each, in each byte eight findings, the lowest bit first
abbrev pub sets_in : ℕ → Bytes → List (List Bool)
sets_in zero buffer = []
sets_in (suc n) buffer = joined (places 8) (take 8 buffer) ∷ sets_in n (drop 8 buffer)

-- the transactions of a file in their order, each with the sets of its own records
abbrev pub sets_by_transaction : Tables → ℕ → Tree → List (List (List Bool))
sets_by_transaction tables t d = joined (λ (g : Group). map (transaction_findings tables t (named_type g.opening)) g.transactions) d.groups

-- transaction k of the file has a TR or GR finding of its own, and none before it has one
pub record IsFirst (tables : Tables) (t : ℕ) (d : Tree) (k : ℕ) : Type 0 where
  pub before : List (List (List Bool))
  pub after : List (List (List Bool))
  pub own : List (List Bool)
  pub split : sets_by_transaction tables t d ≡ before ++ own ∷ after
  pub place : length before ≡ k
  pub none_before : any (any is_grave) before ≡ false
  pub grave : any is_grave own ≡ true

pub record Firsts : Type 0 where
  -- the sets of a file's records, cut by transactions, are those that the rules give for each transaction
  pub own_sets : (tables : Tables) (t : ℕ) (d : Tree) → of_each d (file_findings tables t d) ≡ sets_by_transaction tables t d
  -- it is what is read off the bytes of the findings buffer, where a check passes with n records,
  pub read_off : (tables : Tables) (t : ℕ) (f v g : Bytes) (k m n : ℕ) → (check tables t f v g).answer ≡ passed k m n
      → first tables t f ≡ seen (first_rejected (content f) (sets_in n (check tables t f v g).findings))
  -- and refused as the check is, whatever buffers that one is lent, but for 11
  pub refused_as : (tables : Tables) (t : ℕ) (f v g : Bytes) (a : Answer) → first tables t f ≡ refused_with a → (check tables t f v g).answer ≡ a
  pub as_refused : (tables : Tables) (t : ℕ) (f v g : Bytes) (n i : ℕ) → (check tables t f v g).answer ≡ refused n i → n ≢ 11
      → first tables t f ≡ refused_with (refused n i)
  pub never_11 : (tables : Tables) (t : ℕ) (f : Bytes) (a : Answer) → first tables t f ≡ refused_with a
      → (n : ℕ) × (i : ℕ) × (a ≡ refused n i) × (1 ≤ n) × (n ≤ 10)
  -- nothing: no record of the file has a TR or GR finding
  pub no_record : (tables : Tables) (t : ℕ) (f : Bytes) → first tables t f ≡ nothing → any is_grave (file_findings tables t (content f)) ≡ false
  -- a transaction that is named has such a finding of its own, and no earlier one has;
  pub named : (tables : Tables) (t : ℕ) (f : Bytes) (k : ℕ) → first tables t f ≡ at k → IsFirst tables t (content f) k
  -- so one without is not named, though it may fall with its group
  pub only_own : (tables : Tables) (t : ℕ) (f : Bytes) (before after : List (List (List Bool))) (own : List (List Bool))
      → sets_by_transaction tables t (content f) ≡ before ++ own ∷ after → any is_grave own ≡ false → first tables t f ≢ at (length before)
  -- its number is below that of the records
  pub near : (tables : Tables) (t : ℕ) (f : Bytes) (k : ℕ) → first tables t f ≡ at k → k < most_records

-- ---- tolerances

pub record Tolerances : Type 0 where
  -- by which one a file is checked, of those that are not too large, decides nothing about its answer
  pub same_answer : (tables : Tables) (s t : ℕ) (f v g : Bytes) → s ≤ largest_tolerance → t ≤ largest_tolerance
      → (check tables s f v g).answer ≡ (check tables t f v g).answer
  -- a smaller one finds on each record whatever a larger one finds, and no verdict is smaller for it
  pub findings : (tables : Tables) (s t : ℕ) (d : Tree) (k n : ℕ) → s ≤ t → carries n (get_or (file_findings tables t d) k []) ≡ true
      → carries n (get_or (file_findings tables s d) k []) ≡ true
  pub verdicts : (tables : Tables) (s t : ℕ) (d : Tree) (k : ℕ) → s ≤ t → get_or (file_verdicts tables t d) k 0 ≤ get_or (file_verdicts tables s d) k 0
  -- the short form, which has none, lets no hundredth pass: finding 3 is absent only where the shares of each right come to exactly 0 or all
  pub exact : (ds : List Bytes) → is3 short_tolerance ds ≡ false ↔ ((right : Right) → (whole_total right ds ≡ 0) ⊎ (whole_total right ds ≡ full_share))

-- ---- small change among the writers

-- Where their total of PR is no more than the tolerance, finding 2 lets it pass, but unless it is 0 the publishers have too much (1) or all
-- together too little (3).
abbrev pub StillRejected : Type 0
StillRejected = (t : ℕ) (ds : List Bytes) → t ≤ largest_tolerance → 1 ≤ writers_total PR ds → writers_total PR ds ≤ t → (is1 t ds || is3 t ds) ≡ true

-- ---- collection shares by territory

-- the group at position g holds the territory at position i, directly or through others
abbrev pub group_at : List Territory → ℕ → ℕ
group_at xs i = get_or (map (λ (x : Territory). x.group) xs) i no_group

pub data Holds (xs : List Territory) (g : ℕ) : ℕ → Type 0 where
  directly : (i : ℕ) → group_at xs i ≡ g → Holds xs g i
  through : (i : ℕ) → Holds xs g (group_at xs i) → Holds xs g i

abbrev pub code_at : List Territory → ℕ → Bytes
code_at xs i = get_or (codes_of xs) i []

-- the total of a right in the territory at position i, which has no members, is over 10000 + t
pub record IsOver (xs : List Territory) (t : ℕ) (ds : List Bytes) (i : ℕ) : Type 0 where
  pub inside : i < length xs
  pub memberless : has_members xs i ≡ false
  pub right : Right
  pub over : full_share + t < total_in xs right (get_or (names xs) i []) ds

-- of a list, one is the first that passes: k stand before it, and none of them passes
pub record FirstIn {A : Type 0} (p : A → Bool) (xs : List A) (k : ℕ) : Type 0 where
  pub before : List A
  pub after : List A
  pub own : A
  pub split : xs ≡ before ++ own ∷ after
  pub place : length before ≡ k
  pub none_before : any p before ≡ false
  pub passes : p own ≡ true

abbrev pub has47 : List Territory → ℕ → Transaction → Bool
has47 xs t x = is47 xs t x.details

abbrev pub all_of : Tree → List Transaction
all_of d = joined (λ (g : Group). g.transactions) d.groups

-- record i is a header whose transaction has more than c claims
abbrev pub Crowded : ℕ → List Bytes → ℕ → Type 0
Crowded c rs i = (is_head cwr22 (get_or rs i []) ≡ true) × (c < length (only is_claim (span (is_detail cwr22) (drop (suc i) rs))))

pub record Collected : Type 0 where
  -- a claim speaks of a territory by its code or by that of a group that holds it, and by no other
  pub named : (table : Bytes) (i : ℕ) (c : Bytes) → right_territories table ≡ true → i < length (territories_in table)
      → among c (get_or (names (territories_in table)) i []) ≡ true
      ↔ ((code_at (territories_in table) i ≡ c)
      ⊎ ((g : ℕ) × (g < length (territories_in table)) × Holds (territories_in table) g i × (code_at (territories_in table) g ≡ c)))
  -- 47 stands exactly where some right is over in some territory without members,
  pub exactly : (xs : List Territory) (t : ℕ) (ds : List Bytes) → is47 xs t ds ≡ true ↔ ((i : ℕ) × IsOver xs t ds i)
  -- and the first of these is told
  pub first : (xs : List Territory) (t : ℕ) (ds : List Bytes) (i : ℕ) → first_over xs t ds ≡ some i
      → IsOver xs t ds i × ((j : ℕ) → j < i → IsOver xs t ds j → ⊥)
  -- of the first transaction of the file that has one, by its number; or none where no transaction has 47
  pub first_of_all : (xs : List Territory) (t : ℕ) (d : Tree) (m i : ℕ) → file_over xs t d ≡ over m i
      → (x : FirstIn (has47 xs t) (all_of d) m) × (first_over xs t x.own.details ≡ some i)
  pub none_of_all : (xs : List Territory) (t : ℕ) (d : Tree) → file_over xs t d ≡ nowhere → any (has47 xs t) (all_of d) ≡ false
  -- a claim more is in one party at most: no other has other claims
  pub one_party : (ds es : List Bytes) (r : Bytes) → is_party r ≡ false
      → (k : ℕ) × ((j : ℕ) → j ≢ k → get_or (parties (ds ++ r ∷ es)) j [] ≡ get_or (parties (ds ++ es)) j [])
  -- one with 48 changes no share, and an exclude makes none larger
  pub ignored : (xs : List Territory) (right : Right) (ns cs : List Bytes) (r : Bytes) (more : List Bytes) → is48 xs r ≡ true
      → share_in xs right ns (cs ++ r ∷ more) ≡ share_in xs right ns (cs ++ more)
  pub excluded : (xs : List Territory) (right : Right) (ns cs : List Bytes) (r : Bytes) (more : List Bytes) → excludes r ≡ true
      → share_in xs right ns (cs ++ r ∷ more) ≤ share_in xs right ns (cs ++ more)
  -- a check without a table finds neither 47 nor 48; with one, everything else is found as without,
  pub never : (tables : Tables) (t : ℕ) (d : Tree) (k n : ℕ) → 47 ≤ n → carries n (get_or (file_findings tables t d) k []) ≡ false
  pub beside : (tables : Tables) (xs : List Territory) (t : ℕ) (d : Tree) (k n : ℕ) → n < 47
      → carries n (get_or (file_findings_by (claimed_findings tables xs t) d) k []) ≡ carries n (get_or (file_findings tables t d) k [])
  -- and where no record is a claim, nothing else: the bytes and the verdicts are the same
  pub no_claims : (tables : Tables) (xs : List Territory) (t : ℕ) (d : Tree) → every (λ (r : Bytes). not (is_claim r)) (leaves d) ≡ true
      → (finding_bytes (file_findings_by (claimed_findings tables xs t) d) ≡ finding_bytes (file_findings tables t d))
      × (file_verdicts_by (claimed_findings tables xs t) d ≡ file_verdicts tables t d)
  -- 14 stands only at the first header whose transaction has more claims than the list has entries
  pub crowded : (tables : Tables) (table : Bytes) (t : ℕ) (f : Bytes) (room : ℕ → Bool) (c i : ℕ)
      → answer_with tables table t f room c ≡ refused 14 i
      → Crowded c (records_in (lines f)) i × ((j : ℕ) → j < i → Crowded c (records_in (lines f)) j → ⊥)
  -- with a right table and a list that is long enough, the answer is the check's without a table
  pub same_answer : (tables : Tables) (table : Bytes) (t : ℕ) (f : Bytes) (v g c : ℕ) → right_territories table ≡ true
      → ((i : ℕ) → Crowded c (records_in (lines f)) i → ⊥) → answer_with tables table t f (enough v g) c ≡ answer tables t f v g
  -- a refusal's number is 1 to 11, 13 or 14
  pub numbers : (tables : Tables) (table : Bytes) (t : ℕ) (f : Bytes) (room : ℕ → Bool) (c n i : ℕ)
      → answer_with tables table t f room c ≡ refused n i → ((1 ≤ n) × (n ≤ 11)) ⊎ ((n ≡ 13) ⊎ (n ≡ 14))

-- whatever the entries of the list are, of which one is all zeros
pub record Lends {A : Type 0} (zero : A) : Type 0 where
  -- a refused call leaves both buffers and the list as they were,
  pub untouched : (tables : Tables) (table : Bytes) (t : ℕ) (f : Bytes) (cs : List A) (v g : Bytes) (n i : ℕ)
      → (check_claims zero tables table t f cs v g).answer ≡ refused n i
      → check_claims zero tables table t f cs v g ≡ record { answer = refused n i; over = nowhere; verdicts = v; findings = g; claims = cs }
  -- one that passes leaves every entry of the list all zeros,
  pub cleared : (tables : Tables) (table : Bytes) (t : ℕ) (f : Bytes) (cs : List A) (v g : Bytes) (k m n : ℕ)
      → (check_claims zero tables table t f cs v g).answer ≡ passed k m n
      → (check_claims zero tables table t f cs v g).claims ≡ replicate (length cs) zero
  -- and neither buffer nor list grows
  pub as_long : (tables : Tables) (table : Bytes) (t : ℕ) (f : Bytes) (cs : List A) (v g : Bytes)
      → (length (check_claims zero tables table t f cs v g).verdicts ≡ length v)
      × (length (check_claims zero tables table t f cs v g).findings ≡ length g)
      × (length (check_claims zero tables table t f cs v g).claims ≡ length cs)

-- ---- the catalogue sheet

-- the figures that have no sign, and those that have one
abbrev pub figures_of : Missed → List ℕ
figures_of m = m.transactions ∷ m.shortfall ∷ m.excess ∷ []

abbrev pub unsigned : Sheet → List ℕ
unsigned s = s.files ∷ s.refused ∷ figures_of s.pr ++ figures_of s.mr ++ figures_of s.sr ++ s.findings ++ s.verdicts

abbrev pub signed : Sheet → List ℤ
signed s = s.pr.sum ∷ s.mr.sum ∷ s.sr.sum ∷ []

-- with one file more that is refused
abbrev pub with_refused : Sheet → Sheet
with_refused s = record {
  files = suc s.files;
  refused = suc s.refused;
  pr = s.pr;
  mr = s.mr;
  sr = s.sr;
  findings = s.findings;
  verdicts = s.verdicts;
}

abbrev pub sum : List ℕ → ℕ
sum [] = 0
sum (n ∷ ns) = n + sum ns

-- how many records a file has that passes
abbrev pub records_told : Answer → ℕ
records_told (refused n i) = 0
records_told (passed g m n) = n

pub record Sheets : Type 0 where
  -- of no file all figures are 0, the largest too
  pub fresh : (unsigned (sheet_of []) ≡ replicate 80 0) × (signed (sheet_of []) ≡ replicate 3 (pos 0))
  -- a sheet that files have made is, with one file more, that of the list with it,
  pub one_more : (xs : List Taken) (x : Taken) → length xs < most_files
      → add (sheet_of xs) x ≡ record { answer = answer_to x; sheet = sheet_of (xs ++ x ∷ []) }
  -- until it is full: then, and only then, it is refused by 12 and left as it is
  pub full : (s : Sheet) (x : Taken) → most_files ≤ s.files → add s x ≡ record { answer = refused 12 0; sheet = s }
  pub only_full : (s : Sheet) (x : Taken) (i : ℕ) → (add s x).answer ≡ refused 12 i → most_files ≤ s.files
  -- else the answer is that of a check with tolerance 6, but for 11, which it never is, nor 1
  pub as_checked : (x : Taken) (v g : Bytes) (a : Answer) → (check x.tables sheet_tolerance x.file v g).answer ≡ a → a ≢ refused 11 0
      → answer_to x ≡ a
  pub numbers : (x : Taken) (n i : ℕ) → answer_to x ≡ refused n i → (2 ≤ n) × (n ≤ 10)
  -- a file that is refused adds one to the files and one to those refused, and nothing else
  pub refused_only : (xs : List Taken) (x : Taken) (n i : ℕ) → answer_to x ≡ refused n i
      → sheet_of (xs ++ x ∷ []) ≡ with_refused (sheet_of xs)
  -- the five verdicts' counts come to the records of the files that passed
  pub adds_up : (xs : List Taken) → sum (sheet_of xs).verdicts ≡ sum (map (λ (x : Taken). records_told (answer_to x)) xs)
  -- the order of the files does not matter
  pub any_order : (xs ys : List Taken) → Perm xs ys → sheet_of xs ≡ sheet_of ys
  -- and whatever the files are, each figure has room in 64 bits, with its sign
  pub fits : (xs : List Taken) → length xs ≤ most_files → All (λ n. n < 2 ^ 64) (unsigned (sheet_of xs)) × All (λ z. mag z < 2 ^ 63) (signed (sheet_of xs))
