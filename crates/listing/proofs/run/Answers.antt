use Rattle.std.proofs.Common.{rules}
use Rattle.listing.proofs.Whole.{listing-read}
use Rattle.listing.proofs.run.Goals as goal

pub returns : goal.returns
returns g c =
    let read = c.read_full-n.ensures in
    listing-read _ _ _ _ _ _ _ read.upper_bound (search rules) read.bytes read.end c.in_ok-print_listing.ensures
