-- `headers::judge` meets its contract: each finding by its function. Assumes nothing.
use mathlib.Core.Path.{refl, ap, ◌∙◌}
use mathlib.Core.List.{[]}
use Rattle.rules.specs.Findings.{field_findings, set_of, worst}
use Rattle.rules.specs.Works.{header_findings}
use Rattle.headers.proofs.Laws.{own-late, room}
use Rattle.headers.proofs.judge.Goals as goal

pub join-requires : goal.join-requires
join-requires c = rw c.gather-works.ensures.set_value (room _ refl)

pub returns : goal.returns
unfolding header_findings
returns c tables ds k l j =
    let h = c.args.bytes.now in
    let own = own-late tables [] h in
    rw (
      ← c.found_0-stray.ensures,
      ← c.found_1.ensures ds k.totals,
      ← c.found_2.ensures ds k.totals,
      ← c.found_3.ensures ds k.totals,
      ← c.found_4.ensures ds k.marks,
      ← c.found_5.ensures ds k.marks,
      ← c.found_6.ensures ds k.marks,
      ← c.found_7.ensures ds k.marks,
      ← c.found_8.ensures ds k.order,
      ← c.found_9.ensures ds k.marks,
      ← c.found_10.ensures ds k.marks,
      ← l.many,
      ← l.shareless,
      ← l.joined,
      ← l.kept,
      ← c.found_15.ensures ds k.marks,
    )
    (c.join.ensures
    _
    (field_findings tables [] h)
    refl
    c.gather-works.ensures.set_value
    c.gather-works.ensures.level_value
    (j.set ∙ ap set_of own)
    (j.level ∙ ap worst own))
