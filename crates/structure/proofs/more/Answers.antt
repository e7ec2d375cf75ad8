-- `structure::more` meets its contract: the row's class is the record's, and the tests are those of 7, 8 and 9.
use native.Mathlib.Omega.{arith}
use mathlib.Core.Path.{ap}
use mathlib.Core.Bool.{Bool, not, ◌||◌}
use Rattle.kinds.specs.Rows.{class_in}
use Rattle.counts.specs.Counting.{counts_in}
use Rattle.structure.specs.Walk.{faults_of}
use Rattle.structure.proofs.Rows.{row_room}
use Rattle.structure.proofs.Faults.{fault_first, fault_unless}
use Rattle.structure.proofs.Turns.{faults-more}
use Rattle.structure.proofs.more.Goals as goal

pub numbered-held-requires : goal.numbered-held-requires
numbered-held-requires c =
    let g = c.args in
    ((g.s.kept, omega (arith, c.requires.records_bound)), row_room g.«record».now g.row c.requires.row_value.0 c.requires.row_value.1)

pub returns : goal.returns
returns c =
    let g = c.args in
    faults-more g.«record».now g.row c.requires.row_value.0 g.asked (faults_of g.m) (class_in g.s.class) (counts_in g.s.counts) _
    c.follows.result c.numbered-held.result c.follows.ensures c.numbered-held.ensures
    (fault_first _ _ c.or.ensures c.unless.ensures) (fault_unless _ _ _ c.or-2.ensures c.unless-2.ensures (ap (λ (k : Bool). k || c.numbered-held.result) c.closes-closes.ensures))
    (fault_unless _ _ _ c.or-3.ensures c.unless-3.ensures (ap (λ (k : Bool). not k || c.numbered-held.result) c.closes-closes.ensures))
