-- The words of a line put one after the other. Assumes nothing.
use Prim.Native.Nat.{ℕ}
use native.Mathlib.Omega.{arith}
use mathlib.Core.Path.{◌≡◌}
use mathlib.Core.Bool.{Bool}
use mathlib.Core.List.{List, [], ◌∷◌, ◌++◌}
use lib.ListN.{length}
use lib.Seq.{take_all}
use borrow.Author.Tests.{eq-eqb, ne_eqb}
use Rattle.format.specs.Ascii.{ascii}
use Rattle.format.specs.Bytes.{Bytes}
use Rattle.format.specs.Structure.{refused, passed}
use Rattle.rules.specs.Findings.{count_of, lowest_of}
use Rattle.rules.specs.Listing.{figure, lowest_word, record_line, answer_line}
use Rattle.lister.specs.declared.Page.{Page}
use Rattle.lister.specs.Put.{Put}
use Rattle.lister.proofs.Words.{word-then}

-- ---- a record

-- no finding
pub dash : (s : List Bool) (k : ℕ) → k ≡ count_of s → k ≡ 0 → lowest_word s ≡ ascii "-"
dash s k e z = rw (← e, eq-eqb k 0 z)

pub lowest-is : (s : List Bool) (k l : ℕ) → k ≡ count_of s → (k ≡ 0 → ⊥) → l ≡ lowest_of s → lowest_word s ≡ figure l
lowest-is s k l e z q = rw (← e, ne_eqb k 0 z, ← q)

pub record-put : {p₁ p₂ p₃ p₄ p₅ p₆ : Page} (n : ℕ) (kind : Bytes) (v k : ℕ) (s : List Bool)
    → length kind ≡ 3
    → k ≡ count_of s
    → Put (figure n ++ 32 ∷ []) p₁ p₂
    → Put (kind ++ 32 ∷ []) p₂ p₃
    → Put (figure v ++ 32 ∷ []) p₃ p₄
    → Put (figure k ++ 32 ∷ []) p₄ p₅
    → Put (lowest_word s ++ 10 ∷ []) p₅ p₆
    → Put (record_line n kind v s) p₁ p₆
unfolding record_line
record-put n kind v k s three count p q t u w =
    rw (take_all 3 kind (omega arith))
    (word-then (figure n) 32 p (word-then kind 32 q (word-then (figure v) 32 t (word-then (figure (count_of s)) 32 (rw count at u) w))))

-- ---- an answer

pub refused-put : {p₁ p₂ p₃ p₄ : Page} (n i : ℕ)
    → Put (ascii "REFUSED" ++ 32 ∷ []) p₁ p₂
    → Put (figure n ++ 32 ∷ []) p₂ p₃
    → Put (figure i ++ 10 ∷ []) p₃ p₄
    → Put (answer_line (refused n i)) p₁ p₄
unfolding answer_line
refused-put n i p q t = word-then (ascii "REFUSED") 32 p (word-then (figure n) 32 q t)

pub passed-put : {p₁ p₂ p₃ p₄ p₅ p₆ p₇ : Page} (g t r : ℕ)
    → Put (ascii "GROUPS" ++ 32 ∷ []) p₁ p₂
    → Put (figure g ++ 32 ∷ []) p₂ p₃
    → Put (ascii "TRANSACTIONS" ++ 32 ∷ []) p₃ p₄
    → Put (figure t ++ 32 ∷ []) p₄ p₅
    → Put (ascii "RECORDS" ++ 32 ∷ []) p₅ p₆
    → Put (figure r ++ 10 ∷ []) p₆ p₇
    → Put (answer_line (passed g t r)) p₁ p₇
unfolding answer_line
passed-put g t r p q u v w x =
    word-then (ascii "GROUPS") 32 p
    (word-then (figure g) 32 q
    (word-then (ascii "TRANSACTIONS") 32 u
    (word-then (figure t) 32 v
    (word-then (ascii "RECORDS") 32 w x))))
