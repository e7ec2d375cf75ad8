-- Counting the held records of a tree is counting the tree, and numbering them is writing it. Assumes nothing.
use Prim.Native.Nat.{ℕ, suc, ◌+◌}
use native.Mathlib.Omega.{arith}
use native.Mathlib.Nat.{add-zero, zero-add, add-suc, suc-add}
use mathlib.Core.Path.{◌≡◌, refl, ap, ◌∙◌}
use mathlib.Core.List.{List, [], ◌∷◌, ◌++◌, map}
use lib.ListN.{length}
use Rattle.format.specs.Bytes.{Bytes, put}
use Rattle.format.specs.Doc.{Doc, Group, Transaction, records_t, transactions_of, records_of, prefixed}
use Rattle.format.specs.Doc.{written_details, written_transactions, opened, closed, written_groups, written}
use Rattle.format.specs.Table.{detail, grt, trl, start}
use Rattle.format.specs.WellFormed.{Item, item, items_t, items_g, items}
use Rattle.format.specs.Checks.{Counts, none_counted, count, expected}
use Rattle.format.specs.Structure.{counts_of}
use Rattle.format.specs.Numbering.{number}
use Rattle.format.specs.Claims.{lengths}
use Rattle.format.proofs.Slots.{inserted-nothing}
use Rattle.format.proofs.Passes.{counted}

-- groups; of the group transactions, of the transaction records, of the group records; all transactions, all records
abbrev pub counts : ℕ → ℕ → ℕ → ℕ → ℕ → ℕ → Counts
counts g j k n m r = record { groups = g; transactions = m; in_group = j; group_records = n; in_transaction = k; records = r }

counts-path : {g j k n m r g' j' k' n' m' r' : ℕ} → g ≡ g' → j ≡ j' → k ≡ k' → n ≡ n' → m ≡ m' → r ≡ r'
    → counts g j k n m r ≡ counts g' j' k' n' m' r'
counts-path a b c d e f = rw (a, b, c, d, e, f)

-- ---- counting

counted-append : (st : Counts) (a b : List Item) → counted st (a ++ b) ≡ counted (counted st a) b
counted-append st [] b = refl
counted-append st (item c s ∷ a) b = counted-append (count st c) a b

counted-details : (g j k n m r : ℕ) (ds : List Bytes)
    → counted (counts g j k n m r) (map (item detail) ds) ≡ counts g j (k + length ds) (n + length ds) m (r + length ds)
counted-details g j k n m r [] = simp add-zero
counted-details g j k n m r (d ∷ ds) = counted-details g j (suc k) (suc n) m (suc r) ds ∙ simp (add-suc, suc-add)

-- the records that the last of the transactions has had
last_length : ℕ → List Transaction → ℕ
last_length k [] = k
last_length k (x ∷ xs) = last_length (suc (length x.details)) xs

counted-transactions : (g j k n m r : ℕ) (ts : List Transaction)
    → counted (counts g j k n m r) (items_t ts) ≡ counts g (j + length ts) (last_length k ts) (n + records_t ts) (m + length ts) (r + records_t ts)
unfolding last_length
counted-transactions g j k n m r [] = simp add-zero
counted-transactions g j k n m r (x ∷ xs) =
    counted-append (counts g (suc j) 1 (suc n) (suc m) (suc r)) (map (item detail) x.details) (items_t xs)
    ∙ ap (λ st. counted st (items_t xs)) (counted-details g (suc j) 1 (suc n) (suc m) (suc r) x.details)
    ∙ counted-transactions g (suc j) (1 + length x.details) (suc n + length x.details) (suc m) (suc r + length x.details) xs
    ∙ counts-path refl (omega arith) (ap (λ j. last_length j xs) (omega arith)) (omega arith) (omega arith) (omega arith)

-- what is left of the last group's own counts does not matter: GRH begins them anew
counted-groups : (g j k n m r : ℕ) (gs : List Group)
    → (j' : ℕ) × (k' : ℕ) × (n' : ℕ)
    × (counted (counts g j k n m r) (items_g gs) ≡ counts (g + length gs) j' k' n' (m + transactions_of gs) (r + records_of gs))
counted-groups g j k n m r [] = (j, k, n, simp add-zero)
counted-groups g j k n m r (x ∷ xs) =
    let ts = x.transactions in
    let (j', k', n', e) =
    counted-groups (suc g) (0 + length ts) (suc (last_length (suc k) ts)) (suc (1 + records_t ts)) (m + length ts) (suc (suc r + records_t ts)) xs in (
      j',
      k',
      n',
      counted-append (counts (suc g) 0 (suc k) 1 m (suc r)) (items_t ts) (item grt x.closing ∷ items_g xs)
          ∙ ap (λ st. counted st (item grt x.closing ∷ items_g xs)) (counted-transactions (suc g) 0 (suc k) 1 m (suc r) ts)
          ∙ e
          ∙ counts-path (omega arith) refl refl refl (omega arith) (omega arith),
    )

pub counted-items : (d : Doc) → counts_of (counted none_counted (items d)) ≡ lengths d
unfolding items
counted-items d =
    let (j, k, n, e) = counted-groups 0 0 1 1 0 1 d.groups in
    ap counts_of
    (counted-append (counts 0 0 1 1 0 1) (items_g d.groups) (item trl d.trailer ∷ [])
    ∙ ap (λ st. counted st (item trl d.trailer ∷ [])) e
    ∙ counts-path (omega arith) refl refl refl (omega arith) (omega arith))

-- ---- numbering

two-more : (n : ℕ) → suc (1 + n) ≡ n + 2
two-more n = omega arith

number_append : (st : Counts) (a b : List Item) → number st (a ++ b) ≡ number st a ++ number (counted st a) b
number_append st [] b = refl
number_append st (item c s ∷ a) b = ap (λ l. put (start c) (expected st c) s ∷ l) (number_append (count st c) a b)

number-details : (g j k n m r : ℕ) (ds : List Bytes) → number (counts g (suc j) k n m r) (map (item detail) ds) ≡ written_details j k ds
number-details g j k n m r [] = refl
number-details g j k n m r (d ∷ ds) = ap (λ l. prefixed j k d ∷ l) (number-details g j (suc k) (suc n) m (suc r) ds)

number-transactions : (g j k n m r : ℕ) (ts : List Transaction) → number (counts g j k n m r) (items_t ts) ≡ written_transactions j ts
number-transactions g j k n m r [] = refl
number-transactions g j k n m r (x ∷ xs) =
    ap (λ l. prefixed j 0 x.header ∷ l)
    (number_append (counts g (suc j) 1 (suc n) (suc m) (suc r)) (map (item detail) x.details) (items_t xs)
    ∙ rw (number-details g j 1 (suc n) (suc m) (suc r) x.details, counted-details g (suc j) 1 (suc n) (suc m) (suc r) x.details)
    (ap (λ l. written_details j 1 x.details ++ l)
    (number-transactions g (suc j) (1 + length x.details) (suc n + length x.details) (suc m) (suc r + length x.details) xs)))

number-groups : (g j k n m r : ℕ) (gs : List Group) → number (counts g j k n m r) (items_g gs) ≡ written_groups (suc g) gs
number-groups g j k n m r [] = refl
number-groups g j k n m r (x ∷ xs) =
    let ts = x.transactions in
    let rest = number-groups (suc g) (0 + length ts) (suc (last_length (suc k) ts)) (suc (1 + records_t ts)) (m + length ts) (suc (suc r + records_t ts)) xs in
    ap (λ l. opened (suc g) x.opening ∷ l)
    (number_append (counts (suc g) 0 (suc k) 1 m (suc r)) (items_t ts) (item grt x.closing ∷ items_g xs)
    ∙ rw (number-transactions (suc g) 0 (suc k) 1 m (suc r) ts, counted-transactions (suc g) 0 (suc k) 1 m (suc r) ts)
    (ap (λ l. written_transactions 0 ts ++ closed (suc g) (0 + length ts) (suc (1 + records_t ts)) x.closing ∷ l) rest
    ∙ rw (zero-add (length ts), two-more (records_t ts))))

pub number-items : (d : Doc) → number none_counted (items d) ≡ written d
unfolding items written
number-items d =
    let (j, k, n, e) = counted-groups 0 0 1 1 0 1 d.groups in
    rw (inserted-nothing, number_append (counts 0 0 1 1 0 1) (items_g d.groups) (item trl d.trailer ∷ []), number-groups 0 0 1 1 0 1 d.groups, e)
    (rw (zero-add (length d.groups), zero-add (transactions_of d.groups), two-more (records_of d.groups)))
