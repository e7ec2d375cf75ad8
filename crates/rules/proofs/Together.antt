-- Two sheets taken together, each figure as large as it comes: so the sheet of two lists of files is made of their sheets, in any order.
-- Assumes nothing.
use Prim.Native.Nat.{ℕ, zero, suc, ◌+◌, ◌-◌, max}
use native.Mathlib.Nat.{ℕ_set}
use native.Mathlib.Omega.{arith}
use mathlib.Core.Path.{◌≡◌, refl, sym, ap, ◌∙◌}
use mathlib.Core.Bool.{Bool, not}
use mathlib.Core.List.{List, [], ◌∷◌, ◌++◌, map-append, is_set}
use mathlib.Core.List.{Permᴰ}
use lib.Dec.{eqb}
use lib.IntN.{ℤ, ◌+ℤ◌, ℤ_set, sub_ℕ, +ℤ_assoc, +ℤ_comm}
use lib.ListN.{length-append}
use Rattle.format.specs.Doc.{Transaction}
use Rattle.rules.specs.Values.{full_share}
use Rattle.rules.specs.Records.{only}
use Rattle.rules.specs.Totals.{Right, PR, MR, SR, whole_total}
use Rattle.rules.specs.Findings.{larger}
use Rattle.rules.specs.Verdicts.{joined, file_findings, file_verdicts}
use Rattle.rules.specs.Outcome.{content}
use Rattle.rules.specs.Sheet.{Taken, sheet_tolerance, answer_to, is_refused, passed_files, transactions_of, all_transactions, all_findings, all_verdicts}
use Rattle.rules.specs.Sheet.{each, carries, counts_by_finding, counts_by_verdict, Missed, misses, missed_by, totals_of, missed, Sheet, sheet_of}
use Rattle.rules.proofs.Joined.{joined-append}
use Rattle.rules.proofs.Counts.{only-append, how_many-append, larger-max, largest-of, sumℤ-of}

-- ---- sheets are equal where their figures are

pub same-missed : {a b : Missed} → a.transactions ≡ b.transactions → a.shortfall ≡ b.shortfall → a.excess ≡ b.excess → a.sum ≡ b.sum → a ≡ b
same-missed p q r s = λ i. record { transactions = p i; shortfall = q i; excess = r i; sum = s i }

module _ {s u : Sheet} where
  pub same-sheet : s.files ≡ u.files → s.refused ≡ u.refused → s.pr ≡ u.pr → s.mr ≡ u.mr → s.sr ≡ u.sr → s.findings ≡ u.findings
      → s.verdicts ≡ u.verdicts → s ≡ u
  same-sheet a b c d e f g = λ i. record { files = a i; refused = b i; pr = c i; mr = d i; sr = e i; findings = f i; verdicts = g i }

-- in one way only: they form a set
at_field : {A B : Type 0} → IsSet B → (f : A → B) {a b : A} (p q : a ≡ b) → ap f p ≡ ap f q
at_field h f p q = h _ _ (ap f p) (ap f q)

missed-set : IsSet Missed
missed-set a b p q = λ j i. record {
  transactions = at_field ℕ_set (λ (m : Missed). m.transactions) p q j i;
  shortfall = at_field ℕ_set (λ (m : Missed). m.shortfall) p q j i;
  excess = at_field ℕ_set (λ (m : Missed). m.excess) p q j i;
  sum = at_field ℤ_set (λ (m : Missed). m.sum) p q j i;
}

pub sheet-set : IsSet Sheet
sheet-set s u p q = λ j i. record {
  files = at_field ℕ_set (λ (x : Sheet). x.files) p q j i;
  refused = at_field ℕ_set (λ (x : Sheet). x.refused) p q j i;
  pr = at_field missed-set (λ (x : Sheet). x.pr) p q j i;
  mr = at_field missed-set (λ (x : Sheet). x.mr) p q j i;
  sr = at_field missed-set (λ (x : Sheet). x.sr) p q j i;
  findings = at_field (is_set ℕ_set) (λ (x : Sheet). x.findings) p q j i;
  verdicts = at_field (is_set ℕ_set) (λ (x : Sheet). x.verdicts) p q j i;
}

-- ---- the figures taken together, with no end to what a sum may be

abbrev pub sums : List ℕ → List ℕ → List ℕ
sums [] ns = ns
sums (m ∷ ms) [] = m ∷ ms
sums (m ∷ ms) (n ∷ ns) = (m + n) ∷ sums ms ns

unfoldable pub both_missed : Missed → Missed → Missed
both_missed a b = record {
  transactions = a.transactions + b.transactions;
  shortfall = larger a.shortfall b.shortfall;
  excess = larger a.excess b.excess;
  sum = a.sum +ℤ b.sum;
}

unfoldable pub both : Sheet → Sheet → Sheet
both s u = record {
  files = s.files + u.files;
  refused = s.refused + u.refused;
  pr = both_missed s.pr u.pr;
  mr = both_missed s.mr u.mr;
  sr = both_missed s.sr u.sr;
  findings = sums s.findings u.findings;
  verdicts = sums s.verdicts u.verdicts;
}

-- ---- the sheet of two lists of files

sums-each : (n : ℕ) (f g h : ℕ → ℕ) → ((k : ℕ) → h k ≡ f k + g k) → each n h ≡ sums (each n f) (each n g)
sums-each zero f g h e = refl
sums-each (suc n) f g h e =
    let rest = sums-each n (λ k. f (suc k)) (λ k. g (suc k)) (λ k. h (suc k)) (λ k. e (suc k)) in
    λ i. e 0 i ∷ rest i

pub missed-by-append : (ms ns : List ℕ) → missed_by (ms ++ ns) ≡ both_missed (missed_by ms) (missed_by ns)
unfolding missed_by both_missed
missed-by-append ms ns =
    same-missed (length-append ms ns)
    (largest-of (λ total. full_share - total) ms ns)
    (largest-of (λ total. total - full_share) ms ns)
    (sumℤ-of (λ total. sub_ℕ total full_share) ms ns)

pub missed-append : (right : Right) (xs ys : List Transaction) → missed right (xs ++ ys) ≡ both_missed (missed right xs) (missed right ys)
unfolding missed
missed-append right xs ys =
    ap (λ l. missed_by (only misses l)) (map-append (λ (x : Transaction). whole_total right x.details) xs ys)
    ∙ ap missed_by (only-append misses (totals_of right xs) (totals_of right ys))
    ∙ missed-by-append (only misses (totals_of right xs)) (only misses (totals_of right ys))

pub by-finding-append : (fs gs : List (List Bool)) → counts_by_finding (fs ++ gs) ≡ sums (counts_by_finding fs) (counts_by_finding gs)
unfolding counts_by_finding
by-finding-append fs gs = sums-each 64 _ _ _ (λ k. how_many-append (carries k) fs gs)

pub by-verdict-append : (us vs : List ℕ) → counts_by_verdict (us ++ vs) ≡ sums (counts_by_verdict us) (counts_by_verdict vs)
unfolding counts_by_verdict
by-verdict-append us vs = sums-each 5 _ _ _ (λ k. how_many-append (eqb k) us vs)

-- what passes of two lists stands one after the other
passing : {B : Type 0} (f : Taken → List B) (xs ys : List Taken)
    → joined f (passed_files (xs ++ ys)) ≡ joined f (passed_files xs) ++ joined f (passed_files ys)
passing f xs ys =
    ap (joined f) (only-append (λ (x : Taken). not (is_refused (answer_to x))) xs ys) ∙ joined-append f (passed_files xs) (passed_files ys)

module _ (xs ys : List Taken) where
  transactions-both : all_transactions (xs ++ ys) ≡ all_transactions xs ++ all_transactions ys
  unfolding all_transactions
  transactions-both = passing transactions_of xs ys

  findings-both : all_findings (xs ++ ys) ≡ all_findings xs ++ all_findings ys
  unfolding all_findings
  findings-both = passing (λ (x : Taken). file_findings x.tables sheet_tolerance (content x.file)) xs ys

  verdicts-both : all_verdicts (xs ++ ys) ≡ all_verdicts xs ++ all_verdicts ys
  unfolding all_verdicts
  verdicts-both = passing (λ (x : Taken). file_verdicts x.tables sheet_tolerance (content x.file)) xs ys

  missed-both : (right : Right)
      → missed right (all_transactions (xs ++ ys)) ≡ both_missed (missed right (all_transactions xs)) (missed right (all_transactions ys))
  missed-both right = ap (missed right) transactions-both ∙ missed-append right (all_transactions xs) (all_transactions ys)

  pub sheet-append : sheet_of (xs ++ ys) ≡ both (sheet_of xs) (sheet_of ys)
  unfolding sheet_of both
  sheet-append =
      same-sheet (length-append xs ys) (how_many-append (λ (x : Taken). is_refused (answer_to x)) xs ys)
      (missed-both PR)
      (missed-both MR)
      (missed-both SR)
      (ap counts_by_finding findings-both ∙ by-finding-append (all_findings xs) (all_findings ys))
      (ap counts_by_verdict verdicts-both ∙ by-verdict-append (all_verdicts xs) (all_verdicts ys))

-- ---- in any order

sums-two : (ms ns : List ℕ) → sums ms ns ≡ sums ns ms
sums-two [] [] = refl
sums-two [] (n ∷ ns) = refl
sums-two (m ∷ ms) [] = refl
sums-two (m ∷ ms) (n ∷ ns) = let one : m + n ≡ n + m = omega arith in λ i. one i ∷ sums-two ms ns i

sums-swap : (ks ms ns : List ℕ) → sums ks (sums ms ns) ≡ sums ms (sums ks ns)
sums-swap [] ms ns = refl
sums-swap (k ∷ ks) [] [] = refl
sums-swap (k ∷ ks) [] (n ∷ ns) = refl
sums-swap (k ∷ ks) (m ∷ ms) [] = sums-two (k ∷ ks) (m ∷ ms)
sums-swap (k ∷ ks) (m ∷ ms) (n ∷ ns) = let one : k + (m + n) ≡ m + (k + n) = omega arith in λ i. one i ∷ sums-swap ks ms ns i

larger-swap : (a b c : ℕ) → larger a (larger b c) ≡ larger b (larger a c)
larger-swap a b c =
    rw (larger-max b c, larger-max a (max b c), larger-max a c, larger-max b (max a c)) (omega arith)

ℤ-swap : (a b c : ℤ) → a +ℤ (b +ℤ c) ≡ b +ℤ (a +ℤ c)
ℤ-swap a b c = sym (+ℤ_assoc a b c) ∙ ap (λ z. z +ℤ c) (+ℤ_comm a b) ∙ +ℤ_assoc b a c

missed-swap : (a b c : Missed) → both_missed a (both_missed b c) ≡ both_missed b (both_missed a c)
unfolding both_missed
missed-swap a b c =
    same-missed (omega arith)
    (larger-swap a.shortfall b.shortfall c.shortfall)
    (larger-swap a.excess b.excess c.excess)
    (ℤ-swap a.sum b.sum c.sum)

both-swap : (a b c : Sheet) → both a (both b c) ≡ both b (both a c)
unfolding both
both-swap a b c =
    same-sheet (omega arith) (omega arith)
    (missed-swap a.pr b.pr c.pr)
    (missed-swap a.mr b.mr c.mr)
    (missed-swap a.sr b.sr c.sr)
    (sums-swap a.findings b.findings c.findings)
    (sums-swap a.verdicts b.verdicts c.verdicts)

-- a file at the front, so two of them may change places
on : (x : Taken) (xs : List Taken) → sheet_of (x ∷ xs) ≡ both (sheet_of (x ∷ [])) (sheet_of xs)
on x xs = sheet-append (x ∷ []) xs

pub reordered : {xs ys : List Taken} → Permᴰ xs ys → sheet_of xs ≡ sheet_of ys
reordered Permᴰ.nil = refl
reordered (Permᴰ.cons {a = x} {b = y} {l₁ = xs} {l₂ = ys} e d) =
    on x xs ∙ (λ i. both (sheet_of (e i ∷ [])) (reordered d i)) ∙ sym (on y ys)
reordered (Permᴰ.swap {a = x} {b = y} {l = l} e f) =
    on x (y ∷ l) ∙ ap (both (sheet_of (x ∷ []))) (on y l)
    ∙ both-swap (sheet_of (x ∷ [])) (sheet_of (y ∷ [])) (sheet_of l)
    ∙ ap (both (sheet_of (y ∷ []))) (sym (on x l)) ∙ sym (on y (x ∷ l))
    ∙ (λ i. sheet_of (f i ∷ e i ∷ l))
reordered (Permᴰ.trans d c) = reordered d ∙ reordered c
