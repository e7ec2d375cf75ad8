-- `files::settle_control` meets its contract. Assumes nothing.
use mathlib.Core.Path.{refl}
use mathlib.Core.List.{[]}
use Rattle.files.proofs.Entries.{nothing}
use Rattle.files.proofs.settle_control.Goals as goal

pub returns : goal.returns
returns c = record { end = refl; written = c.settle.ensures [] nothing }
