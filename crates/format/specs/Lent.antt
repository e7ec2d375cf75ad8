-- What a call answers, and what it leaves, where buffers are lent.
use Rattle.std.specs.Prelude.{ℕ, ◌+◌, Bool, List, ◌++◌, length, take, drop}
use Rattle.format.specs.Bytes.{Bytes}
use Rattle.format.specs.Structure.{Answer, refused, passed, refusal, unless}

-- 11, after all other refusals: the buffers are long enough for a file of so many records
abbrev pub in_room : (ℕ → Bool) → Answer → Answer
in_room enough (refused n i) = refused n i
in_room enough (passed g m n) = refusal 11 (unless (enough n) 0) (passed g m n)

-- a list with xs in the place of as many as they are, from a on
unfoldable pub splice : {A : Type 0} → ℕ → List A → List A → List A
splice a xs l = take a l ++ (xs ++ drop (a + length xs) l)

-- a buffer with new bytes at its front, and those beyond them as they were; a refusal leaves it whole
abbrev pub left_in : Answer → Bytes → Bytes → Bytes
left_in (refused n i) new old = old
left_in (passed g m n) new old = new ++ drop (length new) old
