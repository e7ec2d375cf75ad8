-- `edits::writer::Writer::read` meets its contract. Assumes nothing.
use mathlib.Core.Path.{◌∙◌}
use Rattle.rules.specs.Writer.{is41}
use Rattle.edits.proofs.writer.Writer.read.Goals as goal

pub returns : goal.returns
unfolding is41
returns c =
    let shares = c.read_shares-shares.ensures in
    let pr = c.of.ensures.value in
    let mr = c.of-2.ensures.value in
    let sr = c.of-3.ensures.value in
    let roles = c.read_roles-roles.ensures in record {
      writer_reads = record {
        kind = c.requires;
        swr = c.is_swr.ensures.swr;
        owr = c.is_swr.ensures.owr;
        listed = roles.listed_value;
        creator = roles.creator_value;
        changer = roles.changer_value;
        author = roles.author_value;
        shares = shares.counts_value ∙ rw (pr, mr, sr);
        bad = shares.bad_value ∙ rw (c.requires.1, pr, mr, sr);
      };
      at_most = shares.at_most;
    }
