-- `lines::is_text` meets its contract: a u8 is at most 255.
use native.Mathlib.Omega.{arith}
use mathlib.Core.Bool.{and-true}
use borrow.Author.Tests.{le-leb}
use Rattle.format.specs.Bytes.{is_text}
use Rattle.lines.proofs.is_text.Goals as goal

pub returns : goal.returns
unfolding is_text
returns c = rw (le-leb c.args.b 255 (omega arith), and-true)
