-- `figures::Counters::count` meets its contract. Assumes nothing.
use Rattle.std.proofs.Common.{◌≡◌, ◌-◌, sym, ap, ◌∙◌, refl, arith}
use Rattle.rules.specs.Findings.{places}
use Rattle.figures.specs.Counted.{plus_bits}
use Rattle.figures.proofs.Records.{few-at, one_more, none_more}
use Rattle.figures.proofs.Counters.count.Goals as goal

pub overflow_add-self : goal.overflow_add-self
overflow_add-self c = omega (arith, few-at c.args.self.now.levels c.requires.0.few_levels (c.from-l.result - 1))

pub returns-then-verdict-gt0 : goal.returns-then-verdict-gt0
returns-then-verdict-gt0 c sets vs s e worst short counts =
    rw c.from-l.ensures
    (one_more counts s c.args.verdict (omega (arith, short)) c.if-verdict-gt0.true c.requires.1
    (c.count_set.ensures ∙ ap (λ n. plus_bits c.args.self.now.findings (places 64 n)) e) refl)

-- verdict 0
pub returns-else-verdict-gt0 : goal.returns-else-verdict-gt0
returns-else-verdict-gt0 c sets vs s e worst short counts =
    let none : c.args.verdict ≡ 0 = omega (arith, c.if-verdict-gt0.false) in
    rw none (none_more counts s short (sym worst ∙ none))
