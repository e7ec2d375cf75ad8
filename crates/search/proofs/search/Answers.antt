-- `search::search` meets its contract: each turn searches one group more, and no transaction before it was grave. Assumes nothing.
use native.Mathlib.Omega.{arith}
use mathlib.Core.Path.{◌≡◌, refl, sym, ◌∙◌}
use lib.ListN.{length, length-map}
use Rattle.rules.specs.Works.{named_type, transaction_findings}
use Rattle.transactions.specs.Walk.{rest_at}
use Rattle.transactions.proofs.Levels.{standing}
use Rattle.files.specs.Levels.{group_of}
use Rattle.files.proofs.Files.{groups-here, all-groups}
use Rattle.files.proofs.Groups.{begins, position, done, in-file, group-here, split-here, closing-ends, past-group, one_more, fewer-left, all-gone}
use Rattle.search.specs.Levels.{sets_of_group}
use Rattle.search.proofs.Laws.{grave-in, group-on, none_in}
use Rattle.search.proofs.search.Goals as goal

-- ----
pub groups-init : goal.groups-init
groups-init c = (begins (groups-here c.requires.here.0) (λ tables e. (refl, refl)), omega arith)

pub is_group-requires : goal.is_group-requires
is_group-requires c = in-file c.groups.invariant.0

pub search_group-requires : goal.search_group-requires
search_group-requires c =
    let inv = c.groups.invariant.0 in
    let here = position inv in
    let is-grh = group-here inv (sym c.is_group.ensures ∙ c.groups-test.true) in
    record { here = (here.here, is-grh, rw here.left c.requires.here.1, c.groups.invariant.1); prepared = c.requires.prepared }

-- ---- found
pub returns-in-Err : goal.returns-in-Err
returns-in-Err c tables e =
    let inv = c.groups.invariant.0 in
    let opens = group-here inv (sym c.is_group.ensures ∙ c.groups-test.true) in
    let (counted, none_yet) = done inv tables e in
    grave-in (sets_of_group tables c.args.lent.now.t) inv.0 counted none_yet (group_of (rest_at c.args.lent.now.file.now c.groups.n.at)) _
    (all-groups c.requires.here.0 ∙ split-here inv opens)
    (c.in-Err.ensures.result_value tables e)

-- ---- the group is clean, and the walk is past it
pub overflow_add-n-in-Ok : goal.overflow_add-n-in-Ok
overflow_add-n-in-Ok c =
    let inv = c.groups.invariant.0 in
    let opens = group-here inv (sym c.is_group.ensures ∙ c.groups-test.true) in
    omega (arith, closing-ends (standing c.groups.n.index (position inv).here) opens c.in-Ok.ensures.past_clean_group.0, c.args.lent.now.short)

pub overflow_add-n-in-Ok-2 : goal.overflow_add-n-in-Ok-2
overflow_add-n-in-Ok-2 c =
    let inv = c.groups.invariant.0 in
    let opens = group-here inv (sym c.is_group.ensures ∙ c.groups-test.true) in
    omega (arith, closing-ends (standing c.groups.n.index (position inv).here) opens c.in-Ok.ensures.past_clean_group.0, c.args.lent.now.short)

pub overflow_add-n-in-Ok-3 : goal.overflow_add-n-in-Ok-3
overflow_add-n-in-Ok-3 c =
    omega (arith, c.in-Ok.ensures.past_clean_group.0.position.left, (position c.groups.invariant.0).left, c.requires.here.1)

pub groups-smaller : goal.groups-smaller
groups-smaller c =
    let inv = c.groups.invariant.0 in
    let opens = group-here inv (sym c.is_group.ensures ∙ c.groups-test.true) in
    fewer-left inv _ (past-group (standing c.groups.n.index (position inv).here) opens c.in-Ok.ensures.past_clean_group.0)

pub groups-preserved : goal.groups-preserved
groups-preserved c =
    let inv = c.groups.invariant.0 in
    let opens = group-here inv (sym c.is_group.ensures ∙ c.groups-test.true) in
    let past = c.in-Ok.ensures.past_clean_group in
    let args = c.args in
    let g = group_of (rest_at args.lent.now.file.now c.groups.n.at) in (
      one_more inv _ (past-group (standing c.groups.n.index (position inv).here) opens past.0)
          (λ tables e.
          let (counted, none_yet) = done inv tables e in
          let as_many : length (sets_of_group tables args.lent.now.t g) ≡ length g.transactions =
          length-map g.transactions (transaction_findings tables args.lent.now.t (named_type g.opening)) in
          group-on (sets_of_group tables args.lent.now.t) inv.0 counted none_yet g (omega (arith, past.1, as_many))
          (c.in-Ok.ensures.result_value tables e)),
      omega (arith, past.2),
    )

pub returns : goal.returns
returns c tables e =
    let inv = c.groups.invariant.0 in
    let (counted, none_yet) = done inv tables e in
    none_in (sets_of_group tables c.args.lent.now.t) inv.0 counted none_yet
    (all-groups c.requires.here.0 ∙ all-gone inv (sym c.is_group.ensures ∙ c.groups-test.false))
