-- `sheet_bytes::read` meets its contract. Assumes nothing.
use Rattle.sheet_bytes.specs.Layout.{sheet_in}
use Rattle.sheet_bytes.proofs.read.Goals as goal

pub returns : goal.returns
unfolding sheet_in
returns c =
    λ i. record {
      files = c.number_at.ensures i;
      refused = c.number_at-2.ensures i;
      pr = c.missed_at.ensures i;
      mr = c.missed_at-2.ensures i;
      sr = c.missed_at-3.ensures i;
      findings = c.load.ensures i;
      verdicts = c.load-2.ensures i;
    }
