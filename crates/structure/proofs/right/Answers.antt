-- `structure::right` meets its contract: a yes is a yes of each test.
use mathlib.Core.Path.{refl}
use Rattle.structure.proofs.Turns.{right-at}
use Rattle.structure.proofs.right.Goals as goal

pub returns : goal.returns
returns c =
    let g = c.args in
    right-at g.file.now g.asked g.s g.row c.size-length.result c.size-length.ensures _ refl
    c.requires.0.inside c.if-file-s.false c.requires.2.type
    c.is_type.result c.pair_at.result c.all_text.result c.follows.result c.numbered.result
    c.is_type.ensures c.pair_at.ensures c.all_text.ensures c.follows.ensures c.numbered.ensures
