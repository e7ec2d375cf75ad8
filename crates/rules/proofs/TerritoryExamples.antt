-- Territory tables, right and wrong, and the claims of a transaction over one: worked examples, computed. Assumes nothing.
use Prim.Native.Nat.{ℕ, ◌/◌, ◌%◌, ◌<◌}
use Prim.Native.String.{String}
use mathlib.Core.Path.{◌≡◌, refl}
use mathlib.Core.Bool.{Bool, true, false, and-false}
use mathlib.Core.Option.{Option, none, some}
use mathlib.Core.List.{List, [], ◌∷◌, ◌++◌, map}
use borrow.Author.Tests.{lt-leb}
use lib.Dec.{eqb}
use lib.ListN.{length}
use Rattle.format.specs.Ascii.{ascii}
use Rattle.format.specs.Bytes.{Bytes}
use Rattle.rules.specs.Tables.{entries}
use Rattle.rules.specs.Territories.{territory_size, most_territories, territories_in, no_group, right_territories, names, has_members}
use Rattle.rules.specs.Collection.{is47, is48, share_in, total_in, is_over, first_over}
use Rattle.rules.specs.WithTerritories.{claimed_findings}
use Rattle.rules.specs.Listing.{listing_tables}
use Rattle.rules.proofs.Made.{◌is◌, made, header, publisher, writer, numbers_from, found_on}

-- ---- tables

entry : String → ℕ → Bytes
entry code group = ascii code ++ group % 256 ∷ group / 256 ∷ []

-- the World with Europe and the United States, Europe with France and Germany; Japan in none
table : Bytes
table =
    entry "2136" no_group
    ++ entry "2120" 0
    ++ entry "0250" 1
    ++ entry "0276" 1
    ++ entry "0840" 0
    ++ entry "0392" no_group

data Lent : Type 0 where
  lent : Bytes → Bool → Lent

judged : Lent → Bool
judged (lent bytes b) = right_territories bytes

meant : Lent → Bool
meant (lent bytes b) = b

tables : List Lent
tables =
    lent [] true
    ∷ lent table true
    -- a byte more, a byte less
    ∷ lent (table ++ 32 ∷ []) false
    ∷ lent (entry "2136" no_group ++ ascii "0250" ++ 0 ∷ []) false
    -- France twice, in one group and in two
    ∷ lent (table ++ entry "0250" 1) false
    ∷ lent (table ++ entry "0250" 0) false
    -- a group that is the territory itself, that stands later, that the table lacks
    ∷ lent (table ++ entry "0036" 6) false
    ∷ lent (entry "0250" 1 ++ entry "2120" no_group) false
    ∷ lent (table ++ entry "0036" 65534) false
    ∷ lent (table ++ entry "0036" 5) true
    ∷ []

all-tables : map judged tables ≡ map meant tables
unfolding tables judged meant table entry right_territories territories_in entries
all-tables = refl

-- nor is one with more than 512 entries
too_many : (bytes : Bytes) → most_territories < length bytes / territory_size → right_territories bytes ≡ false
unfolding right_territories
too_many bytes h = rw (lt-leb (length bytes / 6) 512 h, and-false (eqb (length bytes % 6) 0)) refl

-- ---- claims

nwr : Bytes
nwr = header "NWR" []

-- one of two writers
half : Bytes
half = writer "SWR" (130 is "05000" ∷ 138 is "05000" ∷ 146 is "05000" ∷ [])

-- a writer's claim: a mark, a code, and a share of PR, or of all three rights
claim : String → String → String → Bytes
claim mark code pr = made "SWT" 52 (29 is pr ∷ 34 is "00000" ∷ 39 is "00000" ∷ 44 is mark ∷ 45 is code ∷ [])

of_three : String → String → String → String → Bytes
of_three code pr mr sr = made "SWT" 52 (29 is pr ∷ 34 is mr ∷ 39 is sr ∷ 44 is "I" ∷ 45 is code ∷ [])

-- a publisher's, whose fields stand six places later
publishers_claim : String → String → Bytes
publishers_claim code pr = made "SPT" 58 (35 is pr ∷ 40 is "00000" ∷ 45 is "00000" ∷ 50 is "I" ∷ 51 is code ∷ [])

spu : Bytes
spu = publisher "SPU" (116 is "05000" ∷ 124 is "05000" ∷ 132 is "05000" ∷ [])

-- the tolerance and the details; the position of the first territory that is over, and what is found on each record
data Example : Type 0 where
  within : ℕ → List Bytes → Option ℕ → List (List ℕ) → Example

first : Example → Option ℕ
first (within t ds o fs) = first_over (territories_in table) t ds

first_meant : Example → Option ℕ
first_meant (within t ds o fs) = o

found : Example → List (List ℕ)
found (within t ds o fs) =
    map (numbers_from 0) (claimed_findings listing_tables (territories_in table) t (ascii "NWR") (record { header = nwr; details = ds }))

found_meant : Example → List (List ℕ)
found_meant (within t ds o fs) = fs

nothing : List ℕ
nothing = []

only : ℕ → List ℕ
only n = n ∷ []

none-of-five : List (List ℕ)
none-of-five = nothing ∷ nothing ∷ nothing ∷ nothing ∷ nothing ∷ []

examples : List Example
examples =
    -- each half of the World
    within 0 (half ∷ claim "I" "2136" "05000" ∷ half ∷ claim "I" "2136" "05000" ∷ []) none none-of-five
    -- half of the World and a little more of France: over there alone, because of the claim on a group that holds its group
    ∷ within 0 (half ∷ claim "I" "2136" "05000" ∷ half ∷ claim "I" "0250" "05001" ∷ []) (some 2)
    (only 47 ∷ nothing ∷ nothing ∷ nothing ∷ nothing ∷ [])
    -- the tolerance
    ∷ within 1 (half ∷ claim "I" "2136" "05000" ∷ half ∷ claim "I" "0250" "05001" ∷ []) none none-of-five
    -- an exclude of Europe after it: now it fits; before it: the last claim decides
    ∷ within 0 (half ∷ claim "I" "2136" "05000" ∷ claim "E" "2120" "00000" ∷ half ∷ claim "I" "0250" "05001" ∷ []) none
    (nothing ∷ none-of-five)
    ∷ within 0 (half ∷ claim "E" "2120" "00000" ∷ claim "I" "2136" "05000" ∷ half ∷ claim "I" "0250" "05001" ∷ []) (some 2)
    (only 47 ∷ none-of-five)
    -- what an exclude says of shares counts nothing
    ∷ within 0 (half ∷ claim "E" "2136" "10000" ∷ half ∷ claim "I" "0250" "05001" ∷ []) none none-of-five
    -- a claim before any party, which is out of order, is in none
    ∷ within 0 (claim "I" "2136" "10000" ∷ half ∷ half ∷ claim "I" "0250" "05001" ∷ []) none
    (only 8 ∷ nothing ∷ nothing ∷ nothing ∷ nothing ∷ [])
    -- one with 48 hides none before it: for its mark, its share, its code
    ∷ within 0 (half ∷ claim "I" "2136" "05000" ∷ claim "X" "0250" "00000" ∷ half ∷ claim "I" "0250" "05001" ∷ []) (some 2)
    (only 47 ∷ nothing ∷ nothing ∷ only 48 ∷ nothing ∷ nothing ∷ [])
    ∷ within 0 (half ∷ claim "I" "2136" "05000" ∷ claim "E" "0250" "0000x" ∷ half ∷ claim "I" "0250" "05001" ∷ []) (some 2)
    (only 47 ∷ nothing ∷ nothing ∷ only 48 ∷ nothing ∷ nothing ∷ [])
    ∷ within 0 (half ∷ claim "I" "9999" "10001" ∷ half ∷ claim "I" "0250" "05001" ∷ []) none
    (nothing ∷ nothing ∷ only 48 ∷ nothing ∷ nothing ∷ [])
    -- two claims of one party are no sum
    ∷ within 0 (half ∷ claim "I" "2120" "10000" ∷ claim "I" "0250" "10000" ∷ half ∷ claim "I" "0840" "10000" ∷ []) none (nothing ∷ none-of-five)
    -- over in all that the World holds: the first of these that holds none is told
    ∷ within 0 (half ∷ claim "I" "2136" "10001" ∷ half ∷ []) (some 2) (only 47 ∷ nothing ∷ nothing ∷ nothing ∷ [])
    -- MR alone, and SR; one held by no group
    ∷ within 0 (half ∷ of_three "2120" "00000" "05000" "00000" ∷ half ∷ of_three "0276" "00000" "05001" "10000" ∷ []) (some 3)
    (only 47 ∷ nothing ∷ nothing ∷ nothing ∷ nothing ∷ [])
    ∷ within 0 (half ∷ of_three "0392" "00000" "00000" "05000" ∷ half ∷ of_three "0392" "10000" "10000" "05001" ∷ []) (some 5)
    (only 47 ∷ nothing ∷ nothing ∷ nothing ∷ nothing ∷ [])
    -- a publisher and a writer
    ∷ within 0 (spu ∷ publishers_claim "2136" "05000" ∷ half ∷ claim "I" "0840" "05001" ∷ []) (some 4)
    (only 47 ∷ nothing ∷ nothing ∷ nothing ∷ nothing ∷ [])
    ∷ []

all-examples : (map first examples ≡ map first_meant examples) × (map found examples ≡ map found_meant examples)
unfolding examples first first_meant found found_meant nothing only none-of-five nwr half claim of_three publishers_claim spu table entry found_on
    territories_in entries names has_members is47 is48 share_in total_in is_over first_over claimed_findings
all-examples = (refl, refl)
