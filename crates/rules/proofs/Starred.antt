-- The starred values of the scope, as one table with one proof.
use Prim.Native.Nat.{ℕ}
use Prim.Native.String.{String}
use mathlib.Core.Path.{◌≡◌, refl}
use mathlib.Core.Bool.{Bool, true, false}
use mathlib.Core.List.{List, [], ◌∷◌, map}
use Rattle.format.specs.Ascii.{ascii}
use Rattle.format.specs.Bytes.{Bytes}
use Rattle.rules.specs.Values.{is_date, is_duration, is_iswc}
use Rattle.rules.proofs.Made.{◌is◌, header, publisher, writer, found_on}

-- a test, a field's text and whether it is valid; or the details of a work and the findings that each of its records has under the
-- tolerance 6, all of them
data Starred : Type 0 where
  value : (Bytes → Bool) → String → Bool → Starred
  shares : List Bytes → List (List ℕ) → Starred

data Says : Type 0 where
  valid : Bool → Says
  found : List (List ℕ) → Says

computed : Starred → Says
computed (value test text good) = valid (test (ascii text))
computed (shares details sets) = found (found_on 6 (header "NWR" []) details)

said : Starred → Says
said (value test text good) = valid good
said (shares details sets) = found sets

-- publishers and writers have these shares of PR and of nothing else; two publishers, because one may not have more than half
publishers : String → String → List Bytes → List Bytes
publishers pr pr' ds = publisher "SPU" (116 is pr ∷ []) ∷ publisher "SPU" (20 is "02" ∷ 116 is pr' ∷ []) ∷ ds

writers : String → List Bytes
writers pr = writer "SWR" (130 is pr ∷ 138 is "00000" ∷ 146 is "00000" ∷ []) ∷ []

-- all rights to one writer
everything : String → List Bytes
everything share = writer "SWR" (130 is share ∷ 138 is share ∷ 146 is share ∷ []) ∷ []

none : List ℕ
none = []

starred : List Starred
starred =
    value is_iswc "T0345246801" true  -- 1
    ∷ value is_iswc "T0345246802" false  -- 2
    ∷ value is_iswc "T0030749586" true  -- 3, of 002
    ∷ value is_date "20240229" true  -- 4
    ∷ value is_date "19000229" false  -- 5
    ∷ value is_date "20231301" false  -- 6
    ∷ value is_duration "995959" true  -- 7
    ∷ value is_duration "000060" false  -- 8
    ∷ shares (publishers "02503" "02503" (writers "04994")) (none ∷ none ∷ none ∷ none ∷ [])  -- 9: 5006 and 4994
    ∷ shares (publishers "02503" "02504" (writers "04993")) ((1 ∷ 2 ∷ []) ∷ none ∷ none ∷ none ∷ [])  -- 10: 5007 and 4993
    ∷ shares (everything "09994") (none ∷ none ∷ [])  -- 11
    ∷ shares (everything "09993") ((3 ∷ []) ∷ none ∷ [])  -- 12
    ∷ shares (writers "00003") ((3 ∷ []) ∷ none ∷ [])  -- 13
    ∷ []

all-starred : map computed starred ≡ map said starred
unfolding starred computed said none everything writers publishers found_on
all-starred = refl
