-- `edits::writer::Record::read_roles` meets its contract. Assumes nothing.
use mathlib.Core.Path.{refl}
use mathlib.Core.Bool.{or-false}
use Rattle.rules.specs.Writers.{creators, changers, authors}
use Rattle.edits.proofs.Codes.{designation-in-force}
use Rattle.edits.proofs.writer.Record.read_roles.Goals as goal

pub returns : goal.returns
returns c =
    let r = c.self.inside.bytes.now in
    let pa = c.is_code-pa.ensures in
    let tr = c.is_code-tr.ensures in
    let sa = c.is_code-sa.ensures in
    let sr = c.is_code-sr.ensures in
    let ad = c.is_code-ad.ensures in
    let ar = c.is_code-ar.ensures in
    let composer = c.is_code-c.ensures in
    let author = c.is_code-a.ensures in
    let ca = c.is_code-ca.ensures in
    let code = c.of-code.ensures.value in
    rw (← c.self.view_is)
    (record {
      listed_value = rw (ca, author, composer, ar, ad, sr, sa, tr, pa, code, or-false);
      creator_value = rw (ca, author, composer, code) (rw or-false at (designation-in-force r creators refl refl));
      changer_value = rw (ar, ad, sr, sa, tr, code) (rw or-false at (designation-in-force r changers refl refl));
      author_value = rw (ca, author, sa, tr, code) (rw or-false at (designation-in-force r authors refl refl));
    })
