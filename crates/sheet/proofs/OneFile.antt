-- The sheets of no file and of one. Assumes nothing.
use mathlib.Core.Path.{◌≡◌, refl, sym, ap, ◌∙◌}
use mathlib.Core.Bool.{true, false}
use mathlib.Core.List.{List, [], ◌∷◌, append-nil}
use lib.ListN.{length, replicate}
use Rattle.format.specs.Doc.{Transaction}
use Rattle.rules.specs.Records.{only}
use Rattle.rules.specs.Totals.{Right, PR, MR, SR}
use Rattle.rules.specs.Verdicts.{file_findings, file_verdicts}
use Rattle.rules.specs.Outcome.{content}
use Rattle.rules.specs.Sheet.{Taken, sheet_tolerance, answer_to, is_refused, refused_files, transactions_of, all_transactions, all_findings, all_verdicts}
use Rattle.rules.specs.Sheet.{Missed, misses, missed_by, totals_of, missed, counts_by_finding, counts_by_verdict, Sheet, sheet_of}
use Rattle.figures.specs.declared.Misses.{Misses}
use Rattle.figures.specs.declared.Missing.{Missing}
use Rattle.figures.specs.declared.Figures.{Figures}
use Rattle.figures.specs.Counted.{told, misses_of, missing_of, FiguresOf}
use Rattle.sheet.proofs.Differences.{told-misses}

pub of_none : (m : Missed) → m ≡ missed_by []
    → record { files = 0; refused = 0; pr = m; mr = m; sr = m; findings = replicate 64 0; verdicts = replicate 5 0 } ≡ sheet_of []
unfolding sheet_of missed all_transactions all_findings all_verdicts counts_by_finding counts_by_verdict
of_none m e = ap (λ (n : Missed). record { files = 0; refused = 0; pr = n; mr = n; sr = n; findings = replicate 64 0; verdicts = replicate 5 0 }) e

module _ (x : Taken) where
  pub of-refused : is_refused (answer_to x) ≡ true → (s : Sheet) → s ≡ sheet_of []
      → record { files = 1; refused = 1; pr = s.pr; mr = s.mr; sr = s.sr; findings = s.findings; verdicts = s.verdicts } ≡ sheet_of (x ∷ [])
  unfolding sheet_of all_transactions all_findings all_verdicts
  of-refused e s fresh = rw (e, fresh) refl

  module _ (e : is_refused (answer_to x) ≡ false) where
    all-transactions : all_transactions (x ∷ []) ≡ transactions_of x
    unfolding all_transactions
    all-transactions = rw e (append-nil _)

    all-findings : all_findings (x ∷ []) ≡ file_findings x.tables sheet_tolerance (content x.file)
    unfolding all_findings
    all-findings = rw e (append-nil _)

    all-verdicts : all_verdicts (x ∷ []) ≡ file_verdicts x.tables sheet_tolerance (content x.file)
    unfolding all_verdicts
    all-verdicts = rw e (append-nil _)

    of_right : (right : Right) (m : Misses) → m ≡ misses_of (totals_of right (transactions_of x)) → told m ≡ missed right (all_transactions (x ∷ []))
    unfolding misses_of missed
    of_right right m is =
        ap told is ∙ told-misses (only misses (totals_of right (transactions_of x)))
        ∙ ap (λ (ts : List Transaction). missed_by (only misses (totals_of right ts))) (sym all-transactions)

    pub of-passed : (f : Figures) → FiguresOf x f → (pr mr sr : Missed)
        → pr ≡ told f.missing.pr → mr ≡ told f.missing.mr → sr ≡ told f.missing.sr
        → record { files = 1; refused = 0; pr = pr; mr = mr; sr = sr; findings = f.findings; verdicts = f.verdicts } ≡ sheet_of (x ∷ [])
    unfolding sheet_of missing_of
    of-passed f h pr mr sr p m s =
        let none : length (refused_files (x ∷ [])) ≡ 0 = rw e in
        λ i. record {
          files = 1;
          refused = sym none i;
          pr = (p ∙ of_right PR _ (ap (λ (n : Missing). n.pr) h.missing)) i;
          mr = (m ∙ of_right MR _ (ap (λ (n : Missing). n.mr) h.missing)) i;
          sr = (s ∙ of_right SR _ (ap (λ (n : Missing). n.sr) h.missing)) i;
          findings = (h.findings ∙ ap counts_by_finding (sym all-findings)) i;
          verdicts = (h.verdicts ∙ ap counts_by_verdict (sym all-verdicts)) i;
        }
