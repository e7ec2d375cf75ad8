-- `edits::publisher::Record::read_type` meets its contract. Assumes nothing.
use mathlib.Core.Bool.{or-false}
use Rattle.edits.proofs.Codes.{e-in-force, aq-in-force}
use Rattle.edits.proofs.publisher.Record.read_type.Goals as goal

pub returns : goal.returns
returns c =
    let r = c.self.inside.bytes.now in
    let es = c.is_code-es.ensures in
    let se = c.is_code-se.ensures in
    let pa = c.is_code-pa.ensures in
    let am = c.is_code-am.ensures in
    let aq = c.is_code-aq.ensures in
    let e = c.is_code-e.ensures in
    let code = c.of-code.ensures.value in
    rw (← c.self.view_is)
    (record {
      listed_value = rw (e, aq, am, pa, se, es, code, or-false);
      e_value = λ opu. (rw (e, aq, am, pa, se, es, code, opu) (rw or-false at (e-in-force r)), rw (aq, code) (aq-in-force r));
    })
