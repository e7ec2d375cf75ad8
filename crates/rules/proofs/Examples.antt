-- Worked examples: transactions in which each finding holds at least once, and neighbours in which it does not. All are computed by one
-- proof. Assumes nothing.
use Prim.Native.Nat.{ℕ}
use Prim.Native.String.{String}
use mathlib.Core.Path.{◌≡◌, refl}
use mathlib.Core.List.{List, [], ◌∷◌, map}
use Rattle.format.specs.Bytes.{Bytes}
use Rattle.rules.proofs.Made.{Entry, ◌is◌, made, header, publisher, writer, found_on}

-- ---- records

nwr : List Entry → Bytes
nwr es = header "NWR" es

rec : List Entry → Bytes
rec es = made "REC" 540 (20 is "20240229" ∷ 88 is "000330" ∷ es)

-- half of PR to the publisher, half to the writer, the rest to the publisher
spu : Bytes
spu = publisher "SPU" (116 is "05000" ∷ 124 is "10000" ∷ 132 is "10000" ∷ [])

half : Bytes
half = writer "SWR" (130 is "05000" ∷ 138 is "00000" ∷ 146 is "00000" ∷ [])

-- the same publisher with other text, and a writer with everything
owner : List Entry → Bytes
owner es = publisher "SPU" (116 is "05000" ∷ 124 is "10000" ∷ 132 is "10000" ∷ es)

whole : Bytes
whole = writer "SWR" []

-- an OPU with those shares, and a writer with these
other : List Entry → Bytes
other es = publisher "OPU" (116 is "05000" ∷ 124 is "10000" ∷ 132 is "10000" ∷ es)

second : List Entry → Bytes
second es = writer "SWR" (130 is "00000" ∷ 138 is "00000" ∷ 146 is "00000" ∷ es)

-- ---- what is found

-- tolerance, header, details; the findings of each
data Example : Type 0 where
  within : ℕ → Bytes → List Bytes → List (List ℕ) → Example

computed : Example → List (List ℕ)
computed (within t h ds fs) = found_on t h ds

said : Example → List (List ℕ)
said (within t h ds fs) = fs

nothing : List ℕ
nothing = []

only : ℕ → List ℕ
only n = n ∷ []

-- under the tolerance 6
found : Bytes → List Bytes → List (List ℕ) → Example
found h ds fs = within 6 h ds fs

-- a tolerance, the work's only share, which is a writer's of PR, and what its header has
small : ℕ → String → List ℕ → Example
small t pr fs = within t (nwr []) (second (130 is pr ∷ []) ∷ []) (fs ∷ nothing ∷ [])

examples : List Example
examples =
    -- file A's transaction, and one with a publisher
    found (nwr []) (whole ∷ []) (nothing ∷ nothing ∷ [])
    ∷ found (nwr []) (spu ∷ half ∷ []) (nothing ∷ nothing ∷ nothing ∷ [])
    -- the header and its transaction
    ∷ found (header "REV" []) (whole ∷ []) (only 0 ∷ nothing ∷ [])
    ∷ found (nwr []) (owner (116 is "05007" ∷ []) ∷ writer "SWR" (130 is "04993" ∷ 138 is "00000" ∷ 146 is "00000" ∷ []) ∷ [])
    ((1 ∷ 2 ∷ []) ∷ only 30 ∷ nothing ∷ [])
    ∷ found (nwr []) (owner (124 is "10007" ∷ []) ∷ half ∷ []) ((1 ∷ 3 ∷ []) ∷ only 30 ∷ nothing ∷ [])
    ∷ found (nwr []) (owner (132 is "10007" ∷ []) ∷ half ∷ []) ((1 ∷ 3 ∷ []) ∷ only 30 ∷ nothing ∷ [])
    ∷ found (nwr []) (whole ∷ second (130 is "00007" ∷ []) ∷ []) ((2 ∷ 3 ∷ []) ∷ nothing ∷ nothing ∷ [])
    ∷ found (nwr []) (whole ∷ second (138 is "00007" ∷ []) ∷ []) ((2 ∷ 3 ∷ []) ∷ nothing ∷ nothing ∷ [])
    ∷ found (nwr []) (whole ∷ second (146 is "00007" ∷ []) ∷ []) ((2 ∷ 3 ∷ []) ∷ nothing ∷ nothing ∷ [])
    ∷ found (nwr []) (whole ∷ second (130 is "00006" ∷ 138 is "00006" ∷ 146 is "00006" ∷ []) ∷ []) (nothing ∷ nothing ∷ nothing ∷ [])
    ∷ found (nwr []) (writer "SWR" (130 is "09993" ∷ []) ∷ []) (only 3 ∷ nothing ∷ [])
    ∷ found (nwr []) (writer "SWR" (138 is "09993" ∷ []) ∷ []) (only 3 ∷ nothing ∷ [])
    ∷ found (nwr []) (writer "SWR" (146 is "09993" ∷ []) ∷ []) (only 3 ∷ nothing ∷ [])
    -- 2 lets pass the writers' PR of 0 to t and from 5000 - t on; of 3 the zero is exact, and MR and SR have no lower limit in 2
    ∷ small 0 "00000" nothing
    ∷ small 0 "00001" (2 ∷ 3 ∷ [])
    ∷ small 0 "04999" (2 ∷ 3 ∷ [])
    ∷ small 0 "05000" (only 3)
    ∷ small 1 "00000" nothing
    ∷ small 1 "00001" (only 3)
    ∷ small 1 "00002" (2 ∷ 3 ∷ [])
    ∷ small 1 "04998" (2 ∷ 3 ∷ [])
    ∷ small 1 "04999" (only 3)
    ∷ small 6 "00000" nothing
    ∷ small 6 "00006" (only 3)
    ∷ small 6 "00007" (2 ∷ 3 ∷ [])
    ∷ small 6 "04993" (2 ∷ 3 ∷ [])
    ∷ small 6 "04994" (only 3)
    ∷ found (nwr []) (second (138 is "00007" ∷ []) ∷ []) (only 3 ∷ nothing ∷ [])
    ∷ found (nwr []) (second (146 is "00007" ∷ []) ∷ []) (only 3 ∷ nothing ∷ [])
    ∷ found (nwr []) [] ((4 ∷ 5 ∷ []) ∷ [])
    ∷ found (nwr []) (writer "SWR" (105 is "AR" ∷ []) ∷ []) (only 5 ∷ nothing ∷ [])
    ∷ found (nwr (143 is "MOD" ∷ [])) (whole ∷ []) (only 6 ∷ nothing ∷ [])
    ∷ found (nwr (143 is "ORI" ∷ [])) (whole ∷ writer "OWR" (105 is "TR" ∷ 130 is "00000" ∷ 138 is "00000" ∷ 146 is "00000" ∷ []) ∷ [])
    (only 7 ∷ nothing ∷ nothing ∷ [])
    ∷ found (nwr []) (half ∷ spu ∷ []) (only 8 ∷ nothing ∷ nothing ∷ [])
    ∷ found (nwr (127 is "SER000100" ∷ [])) (whole ∷ []) (only 9 ∷ nothing ∷ [])
    ∷ found (nwr (127 is "SER000100" ∷ [])) (whole ∷ made "IND" 25 [] ∷ []) (nothing ∷ nothing ∷ nothing ∷ [])
    ∷ found (nwr (137 is "MUS" ∷ [])) (writer "SWR" (105 is "CA" ∷ []) ∷ []) (only 10 ∷ nothing ∷ [])
    ∷ found (nwr []) (spu ∷ publisher "OPU" [] ∷ half ∷ []) ((11 ∷ 13 ∷ []) ∷ nothing ∷ nothing ∷ nothing ∷ [])
    ∷ found (nwr []) (spu ∷ publisher "OPU" (77 is "  " ∷ []) ∷ half ∷ []) ((11 ∷ 13 ∷ []) ∷ nothing ∷ only 35 ∷ nothing ∷ [])
    ∷ found (nwr []) (publisher "SPU" [] ∷ whole ∷ []) (only 12 ∷ nothing ∷ nothing ∷ [])
    ∷ found (nwr []) (spu ∷ publisher "SPU" (77 is "AQ" ∷ []) ∷ half ∷ []) (only 14 ∷ nothing ∷ nothing ∷ nothing ∷ [])
    ∷ found (nwr []) (whole ∷ made "VER" 364 (20 is "V" ∷ []) ∷ made "VER" 364 (20 is "V" ∷ []) ∷ [])
    (only 15 ∷ nothing ∷ nothing ∷ nothing ∷ [])
    -- 35's default counts as E for 14; no earlier E is an SPU, and an OPU stands before an SPU
    ∷ found (nwr []) (other (77 is "  " ∷ []) ∷ publisher "SPU" (77 is "AQ" ∷ []) ∷ half ∷ [])
    ((8 ∷ 14 ∷ []) ∷ only 35 ∷ only 32 ∷ nothing ∷ [])
    -- the header's fields
    ∷ found (nwr (20 is " " ∷ 80 is "XX" ∷ 82 is " " ∷ 96 is "T0345246802" ∷ 107 is "19000229" ∷ 127 is "   000060" ∷ [])) (whole ∷ [])
    ((16 ∷ 17 ∷ 18 ∷ 19 ∷ 20 ∷ 21 ∷ 23 ∷ []) ∷ nothing ∷ [])
    ∷ found (nwr (80 is "FR" ∷ 96 is "T0345246801" ∷ 107 is "20240229" ∷ 127 is "JAZ995959" ∷ [])) (whole ∷ []) (nothing ∷ nothing ∷ [])
    ∷ found (nwr (127 is "SER000000" ∷ [])) (whole ∷ made "INS" 75 [] ∷ []) (only 22 ∷ nothing ∷ nothing ∷ [])
    ∷ found (nwr (127 is "XYZ" ∷ [])) (whole ∷ []) (only 21 ∷ nothing ∷ [])
    -- details: 24 is skipped by the order
    ∷ found (nwr []) (whole ∷ made "TER" 24 [] ∷ made "IPA" 153 [] ∷ made "NPA" 350 [] ∷ made "MSG" 185 [] ∷ second [] ∷ [])
    (nothing ∷ nothing ∷ only 24 ∷ only 24 ∷ only 24 ∷ only 24 ∷ nothing ∷ [])
    -- sequence numbers 05, 05, 06; one without two digits, and the one after it
    ∷ found (nwr [])
    (owner (20 is "05" ∷ []) ∷ publisher "SPU" (20 is "05" ∷ 77 is "AM" ∷ []) ∷ publisher "OPU" (20 is "06" ∷ []) ∷ half ∷ [])
    (nothing ∷ only 25 ∷ nothing ∷ nothing ∷ nothing ∷ [])
    ∷ found (nwr []) (owner (20 is "0x" ∷ []) ∷ publisher "OPU" (20 is "01" ∷ []) ∷ half ∷ []) (nothing ∷ only 25 ∷ only 25 ∷ nothing ∷ [])
    ∷ found (nwr []) (owner (22 is " " ∷ 31 is " " ∷ 76 is "Y" ∷ 77 is "XX" ∷ []) ∷ half ∷ [])
    (only 12 ∷ (26 ∷ 27 ∷ 28 ∷ 29 ∷ 31 ∷ []) ∷ nothing ∷ [])
    ∷ found (nwr []) (spu ∷ publisher "SPU" (20 is "02" ∷ 77 is "AQ" ∷ []) ∷ half ∷ []) (only 12 ∷ nothing ∷ only 32 ∷ nothing ∷ [])
    ∷ found (nwr []) (publisher "OPU" (76 is "X" ∷ 79 is "1" ∷ 113 is "044" ∷ 129 is "999" ∷ []) ∷ whole ∷ [])
    (nothing ∷ (33 ∷ 36 ∷ 37 ∷ []) ∷ nothing ∷ [])
    ∷ found (nwr []) (publisher "OPU" (113 is "999" ∷ []) ∷ whole ∷ []) (nothing ∷ only 36 ∷ nothing ∷ [])
    ∷ found (nwr []) (publisher "OPU" (121 is "999" ∷ []) ∷ whole ∷ []) (nothing ∷ only 36 ∷ nothing ∷ [])
    ∷ found (nwr []) (publisher "OPU" (76 is "Y" ∷ []) ∷ whole ∷ []) (nothing ∷ only 34 ∷ nothing ∷ [])
    -- an OPU without a name, and one that is marked as unknown
    ∷ found (nwr []) (publisher "OPU" (31 is " " ∷ []) ∷ whole ∷ []) (nothing ∷ only 27 ∷ nothing ∷ [])
    ∷ found (nwr []) (publisher "OPU" (31 is " " ∷ 76 is "Y" ∷ []) ∷ whole ∷ []) (nothing ∷ nothing ∷ nothing ∷ [])
    -- an OPU with shares: of a type that has none, and of an unknown type, which is E before 31 is judged
    ∷ found (nwr []) (other (77 is "AM" ∷ []) ∷ half ∷ []) (nothing ∷ only 31 ∷ nothing ∷ [])
    ∷ found (nwr []) (other (77 is "XX" ∷ []) ∷ half ∷ []) (nothing ∷ only 35 ∷ nothing ∷ [])
    -- a share that is no number counts 0
    ∷ found (nwr []) (owner (132 is "1000x" ∷ []) ∷ half ∷ []) (nothing ∷ only 30 ∷ nothing ∷ [])
    ∷ found (nwr []) (writer "SWR" (20 is " " ∷ 29 is " " ∷ 105 is "XX" ∷ 130 is "1000x" ∷ []) ∷ [])
    ((5 ∷ []) ∷ (38 ∷ 39 ∷ 41 ∷ 42 ∷ []) ∷ [])
    ∷ found (nwr []) (whole ∷ writer "OWR" (20 is " " ∷ 29 is " " ∷ 105 is "XX" ∷ 130 is "00000" ∷ 138 is "00000" ∷ 146 is "00000" ∷ []) ∷ [])
    (nothing ∷ nothing ∷ only 40 ∷ [])
    ∷ found (nwr []) (whole ∷ made "EWT" 364 [] ∷ made "VER" 364 [] ∷ made "PER" 118 [] ∷ [])
    (nothing ∷ nothing ∷ only 43 ∷ only 43 ∷ only 43 ∷ [])
    ∷ found (nwr [])
    (whole ∷ rec [] ∷ rec (20 is "20231301" ∷ 88 is "      " ∷ []) ∷ rec (20 is "00000000" ∷ 88 is "000060" ∷ 99 is "X" ∷ []) ∷ [])
    (nothing ∷ nothing ∷ nothing ∷ (44 ∷ 45 ∷ 46 ∷ []) ∷ only 46 ∷ [])
    ∷ []

all-examples : map computed examples ≡ map said examples
unfolding examples computed said found_on small found nothing only whole owner other second half spu rec nwr
all-examples = refl
