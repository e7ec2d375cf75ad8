-- Internal: what a scan over the lines of a file finds.
use Rattle.std.specs.Prelude.{ℕ, suc, ◌+◌, cond, [], ◌∷◌, length, Result, Ok, Err}
use Rattle.format.specs.Bytes.{Bytes, is_text}
use Rattle.format.specs.Lines.{Lines, good, bad}

-- how many bytes of text a list starts with
abbrev pub text_length : Bytes → ℕ
text_length [] = 0
text_length (b ∷ bs) = cond (is_text b) (suc (text_length bs)) 0

-- what a scan from a place on answers, with n lines before it: the number of all lines, or of those before the fault
abbrev pub scanned : ℕ → Lines → Result ℕ ℕ
scanned n (good rs) = Ok (n + length rs)
scanned n (bad k) = Err (n + k)
