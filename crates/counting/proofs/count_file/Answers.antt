-- `counting::count_file` meets its contract. Assumes nothing.
use Prim.Native.Nat.{◌+◌, ◌≤◌}
use native.Mathlib.Omega.{arith}
use mathlib.Core.Path.{sym, ap, ◌∙◌}
use mathlib.Core.List.{[]}
use Rattle.format.specs.Structure.{most_records}
use Rattle.rules.specs.Verdicts.{file_findings, file_verdicts}
use Rattle.rules.specs.Outcome.{content}
use Rattle.rules.specs.Sheet.{counts_by_finding, counts_by_verdict}
use Rattle.figures.specs.Counted.{missing_of}
use Rattle.files.proofs.Files.{groups-here, all-groups}
use Rattle.counting.specs.Levels.{transactions_among}
use Rattle.counting.proofs.Shares.{within_more}
use Rattle.counting.proofs.Wholes.{begun-none, file-findings, file-grown, file-grows}
use Rattle.counting.proofs.count_file.Goals as goal

pub count_groups-all-requires : goal.count_groups-all-requires
count_groups-all-requires c =
    let here = groups-here c.requires.here.0 in record {
      here = (here.here, rw here.left c.requires.here.1, begun-none 1 c.none-counters.ensures, within_more (omega arith) c.none.ensures.1);
      prepared = c.requires.prepared;
    }

pub overflow_add-n : goal.overflow_add-n
overflow_add-n c =
    let few : c.count_groups-all.result.next.index + 1 ≤ most_records =
    omega (arith, c.count_groups-all.ensures.past_groups.position.left, (groups-here c.requires.here.0).left, c.requires.here.1) in
    omega (arith, few)

pub by_verdict-requires : goal.by_verdict-requires
by_verdict-requires c =
    let few : c.count_groups-all.result.next.index + 1 ≤ most_records =
    omega (arith, c.count_groups-all.ensures.past_groups.position.left, (groups-here c.requires.here.0).left, c.requires.here.1) in
    let (some, indexed) = c.requires.prepared in
    file-grows c.requires.here.0 some c.args.lent.now.t c.none-counters.ensures (c.count_groups-all.ensures.counted_groups some indexed) few

pub returns : goal.returns
returns c =
    let few : c.count_groups-all.result.next.index + 1 ≤ most_records =
    omega (arith, c.count_groups-all.ensures.past_groups.position.left, (groups-here c.requires.here.0).left, c.requires.here.1) in
    let none = c.none.ensures in
    let missing = c.count_groups-all.ensures.missing_on in
    let within = within_more {b = most_records} (omega (arith, few)) (missing.few (within_more (omega arith) none.1)) in record {
      within_all = within;
      figures_of = λ tables e short.
          let counted = c.count_groups-all.ensures.counted_groups tables e in
          let here = c.requires.here.0 in
          let t = c.args.lent.now.t in
          record {
            missing = missing.missing [] none.0 ∙ ap (λ gs. missing_of (transactions_among gs)) (sym (all-groups c.requires.here.0));
            few = within;
            findings = file-findings here tables t c.none-counters.ensures counted ∙ ap (λ n. counts_by_finding (file_findings tables n (content c.args.lent.now.file.now))) short;
            verdicts = c.by_verdict.ensures _ (file-grown here tables t c.none-counters.ensures counted) ∙ ap (λ n. counts_by_verdict (file_verdicts tables n (content c.args.lent.now.file.now))) short;
          };
    }
