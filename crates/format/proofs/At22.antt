-- The theorems at the table of CWR 2.2. Assumes nothing.
use Rattle.format.specs.Cwr22.{cwr22}
use Rattle.format.specs.Claims.{Demand3, Grows, Numbers, Fits, Nearby}
use Rattle.format.proofs.Demand3.{demand3}
use Rattle.format.proofs.Branches.{grows}
use Rattle.format.proofs.Numbering.{numbers}
use Rattle.format.proofs.Fits.{fits}
use Rattle.format.proofs.Near.{nearby}

pub demand3-22 : Demand3 cwr22
demand3-22 = demand3 cwr22

pub grows-22 : Grows cwr22
grows-22 = grows cwr22

pub numbers-22 : Numbers cwr22
numbers-22 = numbers cwr22

pub fits-22 : Fits cwr22
fits-22 = fits cwr22

pub nearby-22 : Nearby cwr22
nearby-22 = nearby cwr22
