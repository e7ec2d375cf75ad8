-- `search::search_transaction` meets its contract. Assumes nothing.
use native.Mathlib.Omega.{arith}
use mathlib.Core.Path.{◌≡◌, sym, ap, ◌∙◌}
use mathlib.Core.List.{[]}
use lib.ListN.{length}
use Rattle.rules.specs.Tables.{Tables}
use Rattle.rules.specs.Records.{any}
use Rattle.rules.specs.Verdicts.{rejects}
use Rattle.rules.specs.Works.{details_from}
use Rattle.tables.specs.Index.{Indexed}
use Rattle.transactions.specs.Walk.{rest_at, front_of}
use Rattle.transactions.proofs.Fronts.{after-header, details-left, past-header, past-below}
use Rattle.search.proofs.Laws.{grave-inside, grave-header, none-grave}
use Rattle.search.proofs.search_transaction.Goals as goal

pub judge_details-d-requires : goal.judge_details-d-requires
judge_details-d-requires c =
    let inside = after-header c.args.index c.requires.here.0 c.requires.here.1 in
    record { here = (inside.here, rw inside.left c.requires.here.2, tt); prepared = c.requires.prepared }

pub returns-then-d : goal.returns-then-d
returns-then-d c =
    let rejected : (tables : Tables) → Indexed tables c.args.lent.now.slots.now → c.judge_details-d.result.rejects ≡ any rejects (details_from tables [] (front_of (rest_at c.args.lent.now.file.now c.args.at)).details) =
    λ tables e. rw (details-left c.args.index c.requires.here.0 c.requires.here.1) at (c.judge_details-d.ensures.done_details tables e).rejects in
    record { past_clean_transaction = tt; result_value = λ tables e. grave-inside _ _ _ _ (sym c.if-d.true ∙ rejected tables e) }

pub judge_header-h-requires : goal.judge_header-h-requires
judge_header-h-requires c =
    let past = past-header c.args.index c.requires.here.0 c.requires.here.1 (c.judge_details-d.ensures.past_details c.if-d.false) in
    let inside = after-header c.args.index c.requires.here.0 c.requires.here.1 in
    let tail = ap length (details-left c.args.index c.requires.here.0 c.requires.here.1) in
    let below = past-below past (omega (arith, inside.left, tail, c.requires.here.2)) in
    record { here = (c.requires.here.0, c.requires.here.1); below = below }

pub returns-then-h-ge-TR : goal.returns-then-h-ge-TR
returns-then-h-ge-TR c =
    let past = past-header c.args.index c.requires.here.0 c.requires.here.1 (c.judge_details-d.ensures.past_details c.if-d.false) in
    let headed : (tables : Tables) → Indexed tables c.args.lent.now.slots.now → _ = λ tables e. c.judge_header-h.ensures tables _ e past.known past.linked in
    record { past_clean_transaction = tt; result_value = λ tables e. grave-header _ _ _ _ (headed tables e) c.if-h-ge-TR.true }

pub returns : goal.returns
returns c =
    let rejected : (tables : Tables) → Indexed tables c.args.lent.now.slots.now → c.judge_details-d.result.rejects ≡ any rejects (details_from tables [] (front_of (rest_at c.args.lent.now.file.now c.args.at)).details) =
    λ tables e. rw (details-left c.args.index c.requires.here.0 c.requires.here.1) at (c.judge_details-d.ensures.done_details tables e).rejects in
    let past = past-header c.args.index c.requires.here.0 c.requires.here.1 (c.judge_details-d.ensures.past_details c.if-d.false) in
    let headed : (tables : Tables) → Indexed tables c.args.lent.now.slots.now → _ = λ tables e. c.judge_header-h.ensures tables _ e past.known past.linked in
    let some = c.requires.prepared in record { past_clean_transaction = record { position = past.position; class = past.class; stray = (headed some.0 some.1).stray }; result_value = λ tables e. none-grave _ _ _ _ (headed tables e) c.if-h-ge-TR.false (sym c.if-d.false ∙ rejected tables e) }
