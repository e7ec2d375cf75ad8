-- The findings as sets, and the level of each.
use Rattle.std.specs.Prelude.{ℕ, zero, suc, ◌+◌, ◌*◌, ◌/◌, ◌%◌, Bool, false, cond, List, [], ◌∷◌, ◌++◌, leb, eqb, replicate}
use Rattle.std.proofs.Math.Option.{Option, none, some}
use Rattle.format.specs.Bytes.{Bytes, is_one_of}
use Rattle.rules.specs.Tables.{Tables}
use Rattle.rules.specs.Header.{is16, is17, is18, is19, is20, is21, is22, is23}
use Rattle.rules.specs.Publisher.{is25, is26, is27, is28, is29, is30, is31, is32, is33, is34, is35, is36, is37}
use Rattle.rules.specs.Writer.{is38, is39, is40, is41, is42}
use Rattle.rules.specs.Other.{is24, is43, is44, is45, is46}

-- ---- a set of findings: whether finding n holds stands at place n

-- the findings 16 to 46 of a record, given the records before it in its transaction
unfoldable pub field_findings : Tables → List Bytes → Bytes → List Bool
field_findings tables before r =
    is16 r
    ∷ is17 tables r
    ∷ is18 r
    ∷ is19 r
    ∷ is20 r
    ∷ is21 tables r
    ∷ is22 r
    ∷ is23 r
    ∷ is24 r
    ∷ is25 before r
    ∷ is26 r
    ∷ is27 r
    ∷ is28 r
    ∷ is29 r
    ∷ is30 r
    ∷ is31 r
    ∷ is32 before r
    ∷ is33 r
    ∷ is34 r
    ∷ is35 r
    ∷ is36 tables r
    ∷ is37 r
    ∷ is38 r
    ∷ is39 r
    ∷ is40 r
    ∷ is41 r
    ∷ is42 r
    ∷ is43 r
    ∷ is44 r
    ∷ is45 r
    ∷ is46 r
    ∷ []

-- the set of a detail: 0 to 15 stand on headers alone
unfoldable pub own_findings : Tables → List Bytes → Bytes → List Bool
own_findings tables before r = replicate 16 false ++ field_findings tables before r

-- as a number: bit n for finding n
unfoldable pub set_of : List Bool → ℕ
set_of [] = 0
set_of (b ∷ bs) = cond b 1 0 + 2 * set_of bs

-- the lowest so many bits of a number, lowest first: whether each is set
unfoldable pub places : ℕ → ℕ → List Bool
places zero n = []
places (suc k) n = eqb (n % 2) 1 ∷ places k (n / 2)

-- how many hold
unfoldable pub count_of : List Bool → ℕ
count_of [] = 0
count_of (b ∷ bs) = cond b 1 0 + count_of bs

-- the lowest that holds; where none does, how many places there are
unfoldable pub lowest_of : List Bool → ℕ
lowest_of [] = 0
lowest_of (b ∷ bs) = cond b 0 (suc (lowest_of bs))

-- ---- levels

-- field defaulted, record rejected, transaction rejected, group rejected
pub data Level : Type 0 where
  FR RR TR GR : Level

-- the one definition from a finding to its level; what is not named here is no finding
unfoldable pub level : ℕ → Option Level
level n =
    cond (is_one_of n (0 ∷ [])) (some GR)
    (cond (is_one_of n (1 ∷ 2 ∷ 3 ∷ 4 ∷ 5 ∷ 6 ∷ 7 ∷ 8 ∷ 9 ∷ 10 ∷ 11 ∷ 12 ∷ 13 ∷ 14 ∷ 15 ∷ [])) (some TR)
    (cond (is_one_of n (16 ∷ 17 ∷ 18 ∷ 21 ∷ 22 ∷ 25 ∷ 26 ∷ 27 ∷ 28 ∷ 29 ∷ 30 ∷ 31 ∷ 32 ∷ 38 ∷ 39 ∷ 41 ∷ 42 ∷ 47 ∷ 48 ∷ [])) (some TR)
    (cond (is_one_of n (24 ∷ 43 ∷ 44 ∷ [])) (some RR)
    (cond (is_one_of n (19 ∷ 20 ∷ 23 ∷ 33 ∷ 34 ∷ 35 ∷ 36 ∷ 37 ∷ 40 ∷ 45 ∷ 46 ∷ [])) (some FR)
    none))))

-- ---- verdicts

-- 0 is accepted
abbrev pub verdict : Level → ℕ
verdict FR = 1
verdict RR = 2
verdict TR = 3
verdict GR = 4

abbrev pub verdict_of : Option Level → ℕ
verdict_of none = 0
verdict_of (some l) = verdict l

abbrev pub larger : ℕ → ℕ → ℕ
larger a b = cond (leb a b) b a

-- the largest verdict of the findings from number n on that hold
abbrev pub worst_from : ℕ → List Bool → ℕ
worst_from n [] = 0
worst_from n (b ∷ bs) = larger (cond b (verdict_of (level n)) 0) (worst_from (suc n) bs)

unfoldable pub worst : List Bool → ℕ
worst bs = worst_from 0 bs
