-- What each ending of a call comes to, and what a file that is not refused is fit for. Assumes nothing.
use Prim.Native.Nat.{ℕ, ◌≤◌, ◌<◌}
use mathlib.Core.Path.{◌≡◌, refl, sym, ap}
use mathlib.Core.List.{◌++◌}
use lib.ListN.{length, drop}
use borrow.Author.Tests.{le-leb, lt-leb}
use Rattle.format.specs.Bytes.{Bytes}
use Rattle.format.specs.Cwr22.{cwr22}
use Rattle.format.specs.Structure.{refused, passed}
use Rattle.format.specs.Numbering.{placed, numbering, numbered_file}
use Rattle.format.proofs.Answers.{file-read, answer-placed}
use Rattle.format.proofs.At22.{numbers-22}
use Rattle.structure.specs.Rest.{is_good}
use Rattle.numbering.specs.Outcome.{number_answer, number_buffer}
use Rattle.numbering.specs.Fill.{Sized}

-- a file that numbering takes has good lines, and records right by 6
passed-sized : (f : Bytes) (g t r : ℕ) → numbering cwr22 f ≡ passed g t r → Sized f
unfolding numbering
passed-sized f g t r e =
    let d = file-read (placed cwr22) f g t r e in
    let p = answer-placed cwr22 d.rs g t r d.is-judged in
    record {
      short = d.limits.0;
      fine = ap is_good d.is-lines;
      typed = rw d.is-lines p.six;
    }

module _ (f old : Bytes) where
  pub refused-so : {n i : ℕ} → refused n i ≡ numbering cwr22 f → (refused n i ≡ number_answer f (length old)) × (old ≡ number_buffer f old)
  unfolding number_answer number_buffer
  refused-so is = rw (← is) (refl, refl)

  module _ {g t r : ℕ} (is : passed g t r ≡ numbering cwr22 f) where
    pub short-so : length old < length f → (refused 11 0 ≡ number_answer f (length old)) × (old ≡ number_buffer f old)
    unfolding number_answer number_buffer
    short-so h = rw (← is, lt-leb (length f) (length old) h) (refl, refl)

    pub filled-so : length f ≤ length old → (new : Bytes) → new ≡ numbered_file cwr22 f ++ drop (length f) old
        → (passed g t r ≡ number_answer f (length old)) × (new ≡ number_buffer f old)
    unfolding number_answer number_buffer
    filled-so h new w =
        let l = numbers-22.as_long f (g, t, r, sym is) in
        rw (← is, le-leb (length f) (length old) h) (refl, rw l w)

    pub sized : Sized f
    sized = passed-sized f g t r (sym is)
