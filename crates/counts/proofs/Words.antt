-- The words of counts: those of 0, 1 and 2, two beside one another, and which one grows.
-- Assumes nothing.
use Prim.Native.Nat.{ℕ, suc, pred, ◌+◌}
use native.Mathlib.Numerals.{add-one}
use mathlib.Core.Path.{◌≡◌, refl, ap, ◌∙◌}
use mathlib.Core.Bool.{Bool, true, false, cond}
use mathlib.Core.List.{◌++◌, append_assoc}
use lib.Dec.{eqb}
use borrow.Author.Tests.{ne_eqb}
use Rattle.format.specs.Bytes.{Bytes, decimal}
use Rattle.text.specs.Words.{word_of}
use Rattle.text.proofs.Words.{digits-kept}
use Rattle.counts.specs.Carried.{words}

pub zero_word : 0x3030303030303030 ≡ word_of (decimal 8 0)
unfolding word_of decimal
zero_word = refl

pub one_word : 0x3130303030303030 ≡ word_of (decimal 8 1)
unfolding word_of decimal
one_word = refl

pub two-word : 0x3230303030303030 ≡ word_of (decimal 8 2)
unfolding word_of decimal
two-word = refl

pub words-digits : (x y m n : ℕ) → x ≡ word_of (decimal 8 m) → y ≡ word_of (decimal 8 n) → words x y ≡ decimal 8 m ++ decimal 8 n
unfolding words
words-digits x y m n e f = rw (digits-kept x m e, digits-kept y n f)

-- GRT counts itself
pub closing : (g t r m n : ℕ) → t ≡ word_of (decimal 8 m) → r ≡ word_of (decimal 8 (n + 1))
    → decimal 5 g ++ words t r ≡ decimal 5 g ++ decimal 8 m ++ decimal 8 (suc n)
closing g t r m n e f = ap (λ (x : Bytes). decimal 5 g ++ x) (words-digits t r m (n + 1) e f) ∙ rw (add-one, append_assoc)

pub picked : (first : Bool) (a b m n : ℕ) → a ≡ word_of (decimal 8 m) → b ≡ word_of (decimal 8 n)
    → cond first a b ≡ word_of (decimal 8 (cond first m n))
picked true a b m n e f = e
picked false a b m n e f = f

-- where no header comes, it is the second
pub grown-else : (x : ℕ) (first : Bool) (a b : ℕ) → first ≡ false → x ≡ word_of (decimal 8 (cond first a b + 1)) → x ≡ word_of (decimal 8 (b + 1))
grown-else x first a b e f = f ∙ rw e

-- a header's number is its details' number
pub one-before : (x n : ℕ) → x ≡ word_of (decimal 8 n) → x ≡ word_of (decimal 8 (pred (n + 1)))
one-before x n e = rw add-one e
