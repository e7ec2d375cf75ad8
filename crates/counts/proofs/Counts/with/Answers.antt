-- `counts::Counts::with` meets its contract: each arm knows its class, and changes what the format changes there.
-- Assumes nothing.
use Rattle.counts.proofs.Classes.{alike, counted-else}
use Rattle.counts.proofs.Words.{zero_word, one_word, two-word, grown-else, one-before}
use native.Mathlib.Omega.{arith}
use mathlib.Core.Path.{◌∙◌}
use borrow.Author.Rules.{rules}
use Rattle.counts.proofs.Counts.with.Goals as goal

pub grown-next-requires : goal.grown-next-requires
grown-next-requires c = c.requires.0.1

pub next_eight-closing-requires : goal.next_eight-closing-requires
next_eight-closing-requires c = c.requires.0.1.3

pub returns-in-Grh-clause-result_value : goal.returns-in-Grh-clause-result_value
returns-in-Grh-clause-result_value c = rw c.in-Grh.is (alike _ _ (omega arith))

pub returns-in-Head-clause-result_value : goal.returns-in-Head-clause-result_value
returns-in-Head-clause-result_value c = rw c.in-Head.is (alike _ _ (omega arith))

pub returns-in_default-clause-result_value : goal.returns-in_default-clause-result_value
returns-in_default-clause-result_value c = counted-else _ _ c.args.class (search rules) (search rules) (omega arith)

pub returns-in-Grh-clause-kept : goal.returns-in-Grh-clause-kept
returns-in-Grh-clause-kept c =
    ((omega arith, (zero_word, zero_word, c.grown-next.ensures ∙ rw (c.eq.ensures, c.in-Grh.is), two-word)), omega arith)

pub returns-in-Head-clause-kept : goal.returns-in-Head-clause-kept
returns-in-Head-clause-kept c =
    let n = c.args.self in
    ((omega arith, (c.grown-next.ensures ∙ rw (c.eq.ensures, c.in-Head.is), one-before _ n.in_group c.requires.0.1.0, one_word, c.next_eight-closing.ensures)), omega arith)
