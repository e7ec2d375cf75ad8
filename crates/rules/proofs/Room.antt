-- How large the figures of a sheet can be: of 4,096 files each has room in 64 bits. Assumes nothing.
use Prim.Native.Nat.{ℕ, zero, suc, ◌+◌, ◌-◌, ◌*◌, ◌^◌, ◌≤◌, ◌<◌}
use native.Mathlib.Omega.{arith}
use mathlib.Core.Path.{◌≡◌, refl, sym, ◌∙◌, subst}
use mathlib.Core.Bool.{Bool, true, false≢true, not}
use mathlib.Core.List.{List, [], ◌∷◌, ◌++◌, map}
use lib.Dec.{ltb, eqb}
use lib.IntN.{ℤ, pos, negsuc, nat_abs, sub_ℕ, ◌+ℤ◌}
use lib.Signed.{mag}
use lib.ListN.{length, length-append, length-map}
use borrow.Author.Tests.{ltb-true}
use Rattle.format.specs.Bytes.{Bytes, All}
use Rattle.format.specs.Doc.{Group, Transaction, records_t, records_of, records_all}
use Rattle.format.specs.Structure.{Answer, refused, passed, most_records}
use Rattle.format.specs.Claims.{Near}
use Rattle.format.proofs.Logic.{All-append}
use Rattle.format.proofs.Tests.{by_cases}
use Rattle.rules.specs.Values.{full_share}
use Rattle.rules.specs.Records.{is_publisher, is_writer, only}
use Rattle.rules.specs.Totals.{Right, PR, MR, SR, publisher_share, writer_share, publishers_total, writers_total, whole_total}
use Rattle.rules.specs.Verdicts.{joined}
use Rattle.rules.specs.Outcome.{content}
use Rattle.rules.specs.Sheet.{Taken, sheet_tolerance, answer_to, is_refused, passed_files, transactions_of, all_transactions, all_findings, all_verdicts}
use Rattle.rules.specs.Sheet.{how_many, largest, sumℤ, each, misses, missed_by, totals_of, missed, carries, counts_by_finding, counts_by_verdict}
use Rattle.rules.specs.Sheet.{sheet_of, most_files}
use Rattle.rules.specs.Claims.{figures_of, unsigned, signed, sum}
use Rattle.rules.proofs.Fields.{field-short, share-most}
use Rattle.rules.proofs.Lists.{only-fewer, sum-most}
use Rattle.rules.proofs.Each.{findings-all, findings-each, verdicts-all}
use Rattle.rules.proofs.OwnSets.{few-transactions}
use Rattle.rules.proofs.Outcomes.{admitted, admission-near}
use Rattle.rules.proofs.Counts.{how_many-most, larger-max}

-- ---- how many records the files have

is-passed : (a : Answer) → not (is_refused a) ≡ true → (k : ℕ) × (m : ℕ) × (n : ℕ) × (a ≡ passed k m n)
is-passed (refused n i) e = absurd (false≢true e)
is-passed (passed k m n) e = (k, m, n, refl)

-- a file that passes has no more than are let in
few-records : (x : Taken) → not (is_refused (answer_to x)) ≡ true → records_all (content x.file) ≤ most_records
unfolding answer_to
few-records x e =
    let t = x.tables in
    let f = x.file in
    let (k, m, n, a) = is-passed (answer_to x) e in
    let few : n ≤ most_records = subst Near a (admission-near t sheet_tolerance f) in
    let all = sym (findings-all t sheet_tolerance (content f)) ∙ findings-each f k m n (admitted t sheet_tolerance f k m n a).1 t sheet_tolerance in
    omega (arith, all)

-- so all files together have at most so many for each, in whatever way they are counted
module _ {B : Type 0} (count : List B → ℕ) (none : count [] ≡ 0) (joint : (a b : List B) → count (a ++ b) ≡ count a + count b) where
  joined-most : (f : Taken → List B) → ((x : Taken) → count (f x) ≤ records_all (content x.file))
      → (xs : List Taken) → count (joined f (passed_files xs)) ≤ most_records * length xs
  joined-most f h [] = omega (arith, none)
  joined-most f h (x ∷ xs) =
      let rest = joined-most f h xs in
      by_cases (not (is_refused (answer_to x)))
      (λ e. rw e (omega (arith, joint (f x) (joined f (passed_files xs)), h x, few-records x e)))
      (λ e. rw e (omega arith))

records-append : (xs ys : List Transaction) → records_t (xs ++ ys) ≡ records_t xs + records_t ys
records-append [] ys = omega arith
records-append (x ∷ xs) ys = omega (arith, records-append xs ys)

records-inside : (gs : List Group) → records_t (joined (λ (g : Group). g.transactions) gs) ≤ records_of gs
records-inside [] = omega arith
records-inside (g ∷ gs) = omega (arith, records-append g.transactions (joined (λ (h : Group). h.transactions) gs), records-inside gs)

module _ (xs : List Taken) where
  pub few_findings : length (all_findings xs) ≤ most_records * length xs
  unfolding all_findings
  few_findings =
      joined-most length refl length-append _ (λ x. omega (arith, findings-all x.tables sheet_tolerance (content x.file))) xs

  pub few_verdicts : length (all_verdicts xs) ≤ most_records * length xs
  unfolding all_verdicts
  few_verdicts =
      joined-most length refl length-append _ (λ x. omega (arith, verdicts-all x.tables sheet_tolerance (content x.file))) xs

  few-parts : records_t (all_transactions xs) ≤ most_records * length xs
  unfolding all_transactions
  few-parts =
      joined-most records_t refl records-append transactions_of (λ x. omega (arith, records-inside (content x.file).groups)) xs

-- ---- how large their totals are: a share has five digits

publisher-most : (right : Right) (r : Bytes) → publisher_share right r ≤ 99999
publisher-most PR r = share-most _ (field-short 116 5 r)
publisher-most MR r = share-most _ (field-short 124 5 r)
publisher-most SR r = share-most _ (field-short 132 5 r)

writer-most : (right : Right) (r : Bytes) → writer_share right r ≤ 99999
writer-most PR r = share-most _ (field-short 130 5 r)
writer-most MR r = share-most _ (field-short 138 5 r)
writer-most SR r = share-most _ (field-short 146 5 r)

total-most : (right : Right) (ds : List Bytes) → whole_total right ds ≤ 199998 * length ds
unfolding publishers_total writers_total
total-most right ds =
    omega (
      arith,
      sum-most (publisher_share right) 99999 (publisher-most right) (only is_publisher ds),
      sum-most (writer_share right) 99999 (writer-most right) (only is_writer ds),
      only-fewer is_publisher ds,
      only-fewer is_writer ds,
    )

totals-most : (right : Right) (xs : List Transaction) → sum (totals_of right xs) ≤ 199998 * records_t xs
totals-most right [] = omega arith
totals-most right (x ∷ xs) = omega (arith, total-most right x.details, totals-most right xs)

-- ---- of lists of numbers

sum-only : (p : ℕ → Bool) (ns : List ℕ) → sum (only p ns) ≤ sum ns
sum-only p [] = omega arith
sum-only p (n ∷ ns) =
    let rest = sum-only p ns in
    by_cases (p n) (λ e. rw e (omega arith)) (λ e. rw e (omega arith))

largest-most : (f : ℕ → ℕ) (m : ℕ) → ((n : ℕ) → f n ≤ m) → (ns : List ℕ) → largest (map f ns) ≤ m
largest-most f m h [] = omega arith
largest-most f m h (n ∷ ns) = rw (larger-max (f n) (largest (map f ns))) (omega (arith, h n, largest-most f m h ns))

largest-sum : (f : ℕ → ℕ) → ((n : ℕ) → f n ≤ n) → (ns : List ℕ) → largest (map f ns) ≤ sum ns
largest-sum f h [] = omega arith
largest-sum f h (n ∷ ns) = rw (larger-max (f n) (largest (map f ns))) (omega (arith, h n, largest-sum f h ns))

-- ---- of sums with a sign

sub-most : (a b : ℕ) → nat_abs (sub_ℕ a b) ≤ a + b
sub-most a b =
    by_cases (ltb a b)
    (λ e. rw e (let h = ltb-true a b e in omega arith))
    (λ e. rw e (omega arith))

plus-most : (y z : ℤ) → nat_abs (y +ℤ z) ≤ nat_abs y + nat_abs z
plus-most (pos a) (pos b) = omega arith
plus-most (pos a) (negsuc b) = sub-most a (suc b)
plus-most (negsuc a) (pos b) = omega (arith, sub-most b (suc a))
plus-most (negsuc a) (negsuc b) = omega arith

mag-most : (z : ℤ) → mag z ≤ nat_abs z
mag-most (pos n) = omega arith
mag-most (negsuc n) = omega arith

differences-most : (m : ℕ) (ns : List ℕ) → nat_abs (sumℤ (map (λ n. sub_ℕ n m) ns)) ≤ sum ns + m * length ns
differences-most m [] = omega arith
differences-most m (n ∷ ns) =
    omega (arith, plus-most (sub_ℕ n m) (sumℤ (map (λ k. sub_ℕ k m) ns)), sub-most n m, differences-most m ns)

-- ---- the figures

each_all : (P : ℕ → Type 0) (n : ℕ) (f : ℕ → ℕ) → ((k : ℕ) → P (f k)) → All P (each n f)
each_all P zero f h = tt
each_all P (suc n) f h = (h 0, each_all P n (λ k. f (suc k)) (λ k. h (suc k)))

-- so many transactions, totals and differences
record Small (ns : List ℕ) : Type 0 where
  many : length ns ≤ most_records * most_files
  large : sum ns ≤ 199998 * (most_records * most_files)

abbrev pub Fits : ℕ → Type 0
Fits n = n < 2 ^ 64

missed-fits : (ns : List ℕ) → Small ns → All Fits (figures_of (missed_by ns)) × (mag (missed_by ns).sum < 2 ^ 63)
unfolding missed_by
missed-fits ns h =
    let short = largest-most (λ total. full_share - total) full_share (λ total. omega arith) ns in
    let over = largest-sum (λ total. total - full_share) (λ total. omega arith) ns in (
      (omega arith, (omega arith, (omega arith, tt))),
      omega (arith, mag-most (sumℤ (map (λ total. sub_ℕ total full_share) ns)), differences-most full_share ns),
    )

module _ (xs : List Taken) (few : length xs ≤ most_files) where
  small : (right : Right) → Small (only misses (totals_of right (all_transactions xs)))
  small right =
      let ts = all_transactions xs in
      let one_each = length-map ts (λ (x : Transaction). whole_total right x.details) in
      record {
        many = omega (arith, only-fewer misses (totals_of right ts), few-transactions ts, few-parts xs);
        large = omega (arith, sum-only misses (totals_of right ts), totals-most right ts, few-parts xs);
      }

  right-fits : (right : Right) → All Fits (figures_of (missed right (all_transactions xs))) × (mag (missed right (all_transactions xs)).sum < 2 ^ 63)
  unfolding missed
  right-fits right = missed-fits (only misses (totals_of right (all_transactions xs))) (small right)

  findings-fit : All Fits (counts_by_finding (all_findings xs))
  unfolding counts_by_finding
  findings-fit =
      let sets = all_findings xs in
      each_all Fits 64 (λ k. how_many (carries k) sets) (λ k. omega (arith, how_many-most (carries k) sets, few_findings xs))

  verdicts-fit : All Fits (counts_by_verdict (all_verdicts xs))
  unfolding counts_by_verdict
  verdicts-fit =
      let vs = all_verdicts xs in
      each_all Fits 5 (λ k. how_many (eqb k) vs) (λ k. omega (arith, how_many-most (eqb k) vs, few_verdicts xs))

  pub all_fit : All Fits (unsigned (sheet_of xs)) × All (λ z. mag z < 2 ^ 63) (signed (sheet_of xs))
  unfolding sheet_of
  all_fit =
      let ((p1, (p2, (p3, _))), p) = right-fits PR in
      let ((m1, (m2, (m3, _))), m) = right-fits MR in
      let ((s1, (s2, (s3, _))), s) = right-fits SR in
      let r = how_many-most (λ (x : Taken). is_refused (answer_to x)) xs in
      let f = All-append Fits (counts_by_finding (all_findings xs)) (counts_by_verdict (all_verdicts xs)) findings-fit verdicts-fit in (
        (omega arith, (omega arith, (p1, (p2, (p3, (m1, (m2, (m3, (s1, (s2, (s3, f))))))))))),
        (p, (m, (s, tt))),
      )
