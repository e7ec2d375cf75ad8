-- Internal: the levels of a file: a group's transactions, a group, all groups. Where a walk stands past each, and what it has written.
use Rattle.std.specs.Prelude.{◌≡◌, Bool, List, ◌∷◌, ℕ, length}
use Rattle.format.specs.Bytes.{Bytes}
use Rattle.format.specs.Doc.{Group, Transaction}
use Rattle.format.specs.Table.{head, grt}
use Rattle.format.specs.Cwr22.{cwr22}
use Rattle.format.specs.Checks.{cls}
use Rattle.format.specs.Structure.{first_record}
use Rattle.format.specs.Tree.{span, after, is_inside, transactions_in, groups_in}
use Rattle.rules.specs.Tables.{Tables}
use Rattle.rules.specs.Works.{is0, transaction_findings}
use Rattle.rules.specs.Records.{any}
use Rattle.rules.specs.Verdicts.{joined, group_findings, file_findings, transaction_verdicts, group_verdicts, file_verdicts}
use Rattle.rules.specs.Outcome.{content}
use Rattle.buffers.specs.Written.{Written}
use Rattle.transactions.specs.declared.Passed.{Passed}
use Rattle.transactions.specs.Walk.{rest_at, tail_of, Position, Filled}
use Rattle.files.specs.declared.Next.{Next}

-- the transactions at the front of the records
abbrev pub transactions_of : List Bytes → List Transaction
transactions_of rs = transactions_in cwr22 (span (is_inside cwr22) rs)

-- some header of them differs from the type that GRH names
abbrev pub is_stray_among : Bytes → List Transaction → Bool
is_stray_among named xs = any (λ (x : Transaction). is0 named x.header) xs

-- the group that a GRH at the front of the records opens, and the records after it
abbrev pub group_of : List Bytes → Group
group_of rs = record {
  opening = first_record rs;
  transactions = transactions_of (tail_of rs);
  closing = first_record (after (is_inside cwr22) (tail_of rs));
}

abbrev pub after_group : List Bytes → List Bytes
after_group rs = tail_of (after (is_inside cwr22) (tail_of rs))

-- ---- where a walk stands

-- past the transactions at the front of the records rs, under a GRH that names a type
pub record PastTransactions (named f : Bytes) (m : ℕ) (rs : List Bytes) (p : Passed) : Type 0 where
  pub position : Position f m p.at p.index head (after (is_inside cwr22) rs)
  pub closed : cls cwr22 (first_record (after (is_inside cwr22) rs)) ≡ grt
  pub stray : p.stray ≡ is_stray_among named (transactions_of rs)

-- past the group that opens the records rs
pub record PastGroup (f : Bytes) (m : ℕ) (rs : List Bytes) (n : Next) : Type 0 where
  pub position : Position f m n.at n.index grt (after_group rs)
  pub groups : groups_in cwr22 rs ≡ group_of rs ∷ groups_in cwr22 (after_group rs)

-- past all groups: before TRL
pub record PastGroups (f : Bytes) (m : ℕ) (n : Next) : Type 0 where
  pub position : Position f m n.at n.index grt (rest_at f n.at)
  pub trailer : length (rest_at f n.at) ≡ 1

-- ---- what it has written: records i to n are ..

-- .. these transactions
abbrev pub FilledTransactions : (tables : Tables) (t : ℕ) (named : Bytes) (i n : ℕ) (xs : List Transaction) (v₀ g₀ v g : Bytes) → Type 0
FilledTransactions tables t named i n xs v₀ g₀ v g =
    Filled i n (joined (transaction_verdicts tables t named) xs) (joined (transaction_findings tables t named) xs) v₀ g₀ v g

-- .. this group
abbrev pub FilledGroup : (tables : Tables) (t i n : ℕ) (x : Group) (v₀ g₀ v g : Bytes) → Type 0
FilledGroup tables t i n x v₀ g₀ v g = Filled i n (group_verdicts tables t x) (group_findings tables t x) v₀ g₀ v g

-- .. these groups
abbrev pub FilledGroups : (tables : Tables) (t i n : ℕ) (xs : List Group) (v₀ g₀ v g : Bytes) → Type 0
FilledGroups tables t i n xs v₀ g₀ v g = Filled i n (joined (group_verdicts tables t) xs) (joined (group_findings tables t) xs) v₀ g₀ v g

-- all verdicts and sets of a file are written
abbrev pub WrittenFile : (tables : Tables) (t : ℕ) (f v₀ g₀ v g : Bytes) → Type 0
WrittenFile tables t f v₀ g₀ v g = Written 0 (file_verdicts tables t (content f)) (file_findings tables t (content f)) v₀ g₀ v g
