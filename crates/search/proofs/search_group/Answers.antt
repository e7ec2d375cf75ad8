-- `search::search_group` meets its contract. Assumes nothing.
use native.Mathlib.Omega.{arith}
use mathlib.Core.Path.{refl, ap, ◌∙◌}
use Rattle.rules.specs.Works.{named_type}
use Rattle.transactions.proofs.Levels.{standing}
use Rattle.transactions.proofs.Sizes.{group-header, left_after, position-after, known-after}
use Rattle.files.proofs.Groups.{opening-ends, opening-lent}
use Rattle.search.specs.Levels.{PastCleanGroup}
use Rattle.search.proofs.search_group.Goals as goal

pub slice_bounds-opening-end : goal.slice_bounds-opening-end
slice_bounds-opening-end c =
    let position = standing c.args.index c.requires.here.0 in
    omega (arith, opening-ends position c.requires.here.1)

pub search_transactions-requires : goal.search_transactions-requires
search_transactions-requires c =
    let position = standing c.args.index c.requires.here.0 in
    let here = position-after group-header position refl c.requires.here.1 _ refl in
    record { here = (here.here, rw here.left c.requires.here.2, omega (arith, c.requires.here.3)); prepared = c.requires.prepared }

pub returns : goal.returns
returns c =
    let position = standing c.args.index c.requires.here.0 in
    let is-grh = c.requires.here.1 in
    let named = c.field-named.ensures.result_value ∙ ap named_type (opening-lent position is-grh _ refl) in
    let found = c.search_transactions.result in record {
      past_clean_group = rw named
          at (known-after group-header position refl is-grh _ refl
          (λ k l. PastCleanGroup c.field-named.result.now c.args.lent.now.file.now k c.args.number l found)
          c.search_transactions.ensures.past_clean_group);
      result_value = λ tables e. rw (named, left_after group-header position refl is-grh _ refl) at (c.search_transactions.ensures.result_value tables e);
    }
