-- A file's content without its numbers, and the numbering rules that write it out (001, 3.4 to 3.8). No reader stands here.
-- Letters: g, m and n number or count groups, transactions and records; s is a record without its numbers.
use Rattle.std.specs.Prelude.{ℕ, suc, ◌+◌, List, [], ◌∷◌, ◌++◌, length}
use Rattle.format.specs.Bytes.{Bytes, decimal, put, unlines}

-- each record is held with its number positions cut out
pub record Transaction : Type 0 where
  pub header : Bytes
  pub details : List Bytes

pub record Group : Type 0 where
  pub opening : Bytes
  pub transactions : List Transaction
  pub closing : Bytes

pub record Doc : Type 0 where
  pub header : Bytes
  pub groups : List Group
  pub trailer : Bytes

-- ---- how many there are

-- records of some transactions; of a group, GRH and GRT included
abbrev pub records_t : List Transaction → ℕ
records_t [] = 0
records_t (x ∷ xs) = suc (length x.details) + records_t xs

abbrev pub records_g : Group → ℕ
records_g g = records_t g.transactions + 2

-- transactions, and records, of some groups
abbrev pub transactions_of : List Group → ℕ
transactions_of [] = 0
transactions_of (g ∷ gs) = length g.transactions + transactions_of gs

abbrev pub records_of : List Group → ℕ
records_of [] = 0
records_of (g ∷ gs) = records_g g + records_of gs

-- all records of a file, HDR and TRL included
abbrev pub records_all : Doc → ℕ
records_all d = records_of d.groups + 2

-- ---- the numbering rules

-- the prefix of a header or detail after its type: transaction number (start 4, 8 digits), record number (start 12, 8 digits)
abbrev pub prefixed : ℕ → ℕ → Bytes → Bytes
prefixed m n s = put 4 (decimal 8 m ++ decimal 8 n) s

-- the details of transaction m, from record number n on
abbrev pub written_details : ℕ → ℕ → List Bytes → List Bytes
written_details m n [] = []
written_details m n (s ∷ ss) = prefixed m n s ∷ written_details m (suc n) ss

-- transactions from number m on: a header's record number is 0, details count from 1
abbrev pub written_transactions : ℕ → List Transaction → List Bytes
written_transactions m [] = []
written_transactions m (x ∷ xs) = prefixed m 0 x.header ∷ written_details m 1 x.details ++ written_transactions (suc m) xs

-- GRH: group number (start 7, 5 digits)
abbrev pub opened : ℕ → Bytes → Bytes
opened g s = put 7 (decimal 5 g) s

-- GRT: group number (start 4, 5 digits), transactions (9, 8), records including GRH and GRT (17, 8)
-- TRL: groups (4, 5), transactions (9, 8), records including HDR and TRL (17, 8)
abbrev pub closed : ℕ → ℕ → ℕ → Bytes → Bytes
closed g m n s = put 4 (decimal 5 g ++ decimal 8 m ++ decimal 8 n) s

-- groups from number g on; transactions count from 0 in each
abbrev pub written_groups : ℕ → List Group → List Bytes
written_groups g [] = []
written_groups g (x ∷ xs) =
    opened g x.opening
    ∷ written_transactions 0 x.transactions
    ++ closed g (length x.transactions) (records_g x) x.closing
    ∷ written_groups (suc g) xs

-- groups count from 1
unfoldable pub written : Doc → List Bytes
written d =
    d.header
    ∷ written_groups 1 d.groups
    ++ closed (length d.groups) (transactions_of d.groups) (records_all d) d.trailer
    ∷ []

unfoldable pub write : Doc → Bytes
write d = unlines (written d)
