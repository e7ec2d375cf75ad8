-- `edits::publisher::Publisher::read` meets its contract. Assumes nothing.
use mathlib.Core.Path.{◌∙◌}
use Rattle.rules.specs.Publisher.{is30}
use Rattle.values.proofs.Laws.{spelled}
use Rattle.edits.proofs.publisher.Publisher.read.Goals as goal

pub returns : goal.returns
unfolding is30
returns c =
    let shares = c.read_shares-shares.ensures in
    let pr = c.of.ensures.value in
    let mr = c.of-2.ensures.value in
    let sr = c.of-3.ensures.value in
    let mark = c.of-indicator in
    let type = c.read_type-t.ensures in
    let spu = c.is_spu-spu.ensures in record {
      publisher_reads = record {
        kind = c.requires;
        spu = spu.spu;
        opu = spu.opu;
        sequence = c.read_sequence.ensures.value;
        indicator = spelled 1 mark.result.now mark.ensures.long ∙ mark.ensures.value;
        listed = type.listed_value;
        e = (type.e_value spu.opu).0;
        aq = (type.e_value spu.opu).1;
        shares = shares.counts_value ∙ rw (pr, mr, sr);
        bad = shares.bad_value ∙ rw (c.requires.1, pr, mr, sr);
      };
      bounded = (shares.at_most, c.read_sequence.ensures.below100);
    }
