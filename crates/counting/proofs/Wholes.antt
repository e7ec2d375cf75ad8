-- A transaction, once its details and its header are counted; a group, once its transactions are. Assumes nothing.
use Prim.Native.Nat.{ℕ, ◌+◌, ◌-◌, ◌*◌, ◌≤◌}
use native.Mathlib.Omega.{arith}
use mathlib.Core.Path.{subst, ◌≡◌, refl}
use mathlib.Core.Bool.{Bool, cond, ◌||◌}
use mathlib.Core.List.{List, [], ◌∷◌, ◌++◌, map}
use lib.ListN.{length, length-append, length-map}
use Rattle.format.specs.Bytes.{Bytes, All}
use Rattle.format.specs.Doc.{Transaction}
use Rattle.format.specs.Table.{unknown}
use Rattle.format.specs.Cwr22.{cwr22}
use Rattle.format.specs.Structure.{most_records, first_record}
use Rattle.format.specs.Tree.{groups_in}
use Rattle.rules.specs.Tables.{Tables}
use Rattle.rules.specs.Findings.{set_of, worst}
use Rattle.rules.specs.Works.{named_type, header_findings, details_from, transaction_findings}
use Rattle.rules.specs.Verdicts.{joined, raised, is_stray, group_findings_by, file_findings, file_findings_by, transaction_verdicts, transaction_verdicts_by, group_verdicts_by, file_verdicts, file_verdicts_by}
use Rattle.rules.specs.Sheet.{counts_by_finding}
use Rattle.rules.proofs.Each.{header-long}
use Rattle.rules.proofs.Joined.{joined-all}
use Rattle.rules.proofs.Verdicts.{AtMost4, worst-most, worsts-most, between, transaction-most, verdicts-most}
use Rattle.findings.specs.Many.{many}
use Rattle.headers.specs.declared.Head.{Head}
use Rattle.headers.specs.Headed.{Headed}
use Rattle.totals.specs.declared.Rights.{Rights}
use Rattle.totals.specs.Sums.{AtMost}
use Rattle.figures.specs.Counted.{UpTo, counts_by_level, Counts, Few, Grown, Grows}
use Rattle.figures.proofs.Records.{few-counts}
use Rattle.transactions.specs.declared.Purpose.TheVariants.{Count}
use Rattle.transactions.specs.Purposes.{Begun, DoneDetails}
use Rattle.rules.specs.Outcome.{content}
use Rattle.structure.specs.Cursor.{Here}
use Rattle.transactions.specs.Walk.{rest_at, tail_of}
use Rattle.files.specs.Levels.{transactions_of, is_stray_among, group_of}
use Rattle.files.proofs.Files.{all-groups}
use Rattle.counting.specs.Levels.{Part, CountedTransaction, CountedTransactions, CountedGroup, CountedGroups}
use Rattle.counting.proofs.Parts.{counts-moved, part-around, part-grows, part-raised}

module _ (tables : Tables) (t : ℕ) (named : Bytes) (x : Transaction) {i n : ℕ} {rejected : Bool} {v₀ g₀ v g : Bytes} {fs₀ ls₀ fs ls : List ℕ}
    (begun : Begun i fs₀ ls₀) (details : DoneDetails Count tables (i + 1) n x.details rejected v₀ g₀ fs₀ ls₀ v g fs ls) where
  sets : List (List Bool)
  sets = details_from tables [] x.details

  own : List Bool
  own = header_findings tables t named x

  pub few-before : n ≤ most_records → Few fs ls
  unfolding sets
  few-before few =
      let end = details.done.1 in
      few-counts (details.done.0 begun.sets begun.verdicts begun.counts)
      (rw (length-append begun.sets sets) (omega (arith, few, end, begun.few_sets)))
      (rw (length-append begun.verdicts (map worst sets), length-map sets worst) (omega (arith, few, end, begun.few_verdicts)))

  module _ {h : Head} (headed : Headed tables t named x h) where
    pub low : h.level ≤ 4
    unfolding worst
    low = rw headed.level (worst-most 0 (header_findings tables t named x))

    module _ {fs' ls' : List ℕ}
        (one : (ss : List (List Bool)) (us : List ℕ) (s : List Bool) → h.set ≡ set_of s → h.level ≡ worst s → length s ≤ many → Counts ss us fs ls
        → Counts (ss ++ s ∷ []) (us ++ h.level ∷ []) fs' ls') where
      -- its header comes first and is counted last
      counted-own : Part i n (map worst (transaction_findings tables t named x)) (transaction_findings tables t named x) fs₀ ls₀ fs' ls'
      unfolding transaction_findings sets own
      counted-own =
          let end = details.done.1 in
          record {
            end = omega (arith, end);
            even = length-map (own ∷ sets) worst;
            counted = λ before us c. counts-moved before sets us (map worst sets) own (worst own)
                (rw headed.level at (one (before ++ sets) (us ++ map worst sets) own headed.set headed.level
                (omega (arith, header-long tables t named x)) (details.done.0 before us c)));
          }

      pub transaction-grows : n ≤ most_records → Grows (n - i) ls₀ ls'
      transaction-grows few = part-grows counted-own (worsts-most (transaction_findings tables t named x)) few begun

      pub counted-whole : {ls'' : List ℕ}
          → ((us vs : List ℕ) → Grown us vs (n - i) ls₀ ls' → ls'' ≡ counts_by_level (us ++ raised (cond (h.rejects || rejected) 3 0) vs))
          → CountedTransaction tables t named i n x fs₀ ls₀ fs' ls''
      unfolding transaction_verdicts_by transaction_findings
      counted-whole settled =
          rw (headed.rejects, details.rejects) at (part-raised counted-own (worsts-most (transaction_findings tables t named x)) (cond (h.rejects || rejected) 3 0) settled)

-- no share is over 99999, so that no total is over 200000 times the records
pub up_to : (k : ℕ) {total : Rights} → AtMost (99999 * k + 99999 * k) total → UpTo k total
up_to k (pr, mr, sr) = (omega (arith, pr), omega (arith, mr), omega (arith, sr))

-- ---- a group

-- its transactions, with GRH and GRT around them
module _ (tables : Tables) (t : ℕ) (named : Bytes) (rs : List Bytes) {i n : ℕ} {fs₀ ls₀ fs ls : List ℕ} (begun : Begun i fs₀ ls₀)
    (inside : CountedTransactions tables t named (i + 1) n (transactions_of (tail_of rs)) fs₀ ls₀ fs ls) where
  verdicts : List ℕ
  verdicts = joined (transaction_verdicts tables t named) (transactions_of (tail_of rs))

  lows : All (λ v. v ≤ 4) (0 ∷ verdicts ++ 0 ∷ [])
  unfolding verdicts
  lows = between verdicts (joined-all AtMost4 (transaction_verdicts tables t named) (transaction-most tables t named) (transactions_of (tail_of rs)))

  pub group-grows : n + 1 ≤ most_records → Grows (n + 1 - i) ls₀ ls
  unfolding verdicts
  group-grows few = part-grows (part-around inside refl refl) lows few begun

  pub counted-group : {stray : Bool} {ls' : List ℕ} → named ≡ named_type (first_record rs) → stray ≡ is_stray_among named (transactions_of (tail_of rs))
      → ((us vs : List ℕ) → Grown us vs (n + 1 - i) ls₀ ls → ls' ≡ counts_by_level (us ++ raised (cond stray 4 0) vs))
      → CountedGroup tables t i (n + 1) (group_of rs) fs₀ ls₀ fs ls'
  unfolding group_verdicts_by group_findings_by is_stray verdicts
  counted-group {stray} {ls'} nm strays settled =
      subst
      (λ (its : Bytes).
      Part i (n + 1)
      (raised (cond (is_stray_among its (transactions_of (tail_of rs))) 4 0)
      (0 ∷ joined (transaction_verdicts tables t its) (transactions_of (tail_of rs)) ++ 0 ∷ []))
      ([] ∷ joined (transaction_findings tables t its) (transactions_of (tail_of rs)) ++ [] ∷ []) fs₀ ls₀ fs ls') nm
      (rw strays at (part-raised (part-around inside refl refl) lows (cond stray 4 0) settled))

-- ---- a file

pub begun-none : {fs ls : List ℕ} (i : ℕ) → Counts [] [] fs ls → Begun i fs ls
begun-none i none = record { sets = []; verdicts = []; counts = none; few_sets = omega arith; few_verdicts = omega arith }

-- its groups, with HDR and TRL around them
module _ {f : Bytes} (h : Here f 0 unknown (rest_at f 0)) (tables : Tables) (t : ℕ) {n : ℕ} {fs₀ ls₀ fs ls : List ℕ} (none : Counts [] [] fs₀ ls₀)
    (groups : CountedGroups tables t 1 n (groups_in cwr22 (rest_at f 169)) fs₀ ls₀ fs ls) where
  all-records : Part 0 (n + 1) (file_verdicts tables t (content f)) (file_findings tables t (content f)) fs₀ ls₀ fs ls
  unfolding file_findings_by file_verdicts_by
  all-records = rw (all-groups h) (part-around groups {j = 0} (omega arith) refl)

  pub file-findings : fs ≡ counts_by_finding (file_findings tables t (content f))
  file-findings = (all-records.counted [] [] none).by_finding

  pub file-grown : Grown [] (file_verdicts tables t (content f)) (n + 1) (counts_by_level []) ls
  file-grown = record {
    were = refl;
    are = (all-records.counted [] [] none).by_level;
    all = omega (arith, all-records.end, all-records.even);
    low = verdicts-most tables t (content f);
  }

  pub file-grows : n + 1 ≤ most_records → Grows (n + 1) (counts_by_level []) ls
  file-grows few = ([], file_verdicts tables t (content f), file-grown, omega (arith, few, all-records.end, all-records.even))
