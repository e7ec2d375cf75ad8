-- Whole files with their outcome, computed: the claims of a check's outcome are not empty. Assumes nothing.
use Prim.Native.Nat.{ℕ, ◌<◌}
use Prim.Native.String.{String}
use mathlib.Core.Path.{◌≡◌, refl}
use mathlib.Core.List.{List, [], ◌∷◌, ◌++◌, map}
use lib.ListN.{length, replicate}
use borrow.Author.Tests.{lt-leb}
use Rattle.format.specs.Ascii.{ascii}
use Rattle.format.specs.Bytes.{Bytes, is_text, decimal, bytes_of, unlines}
use Rattle.format.specs.Cwr22.{rows22, version22}
use Rattle.format.specs.Lines.{lines}
use Rattle.format.specs.Structure.{Answer, refused, passed, judged, structure}
use Rattle.format.specs.Tree.{tree}
use Rattle.format.proofs.Examples.{file_a}
use Rattle.rules.specs.Tables.{Tables, right_table}
use Rattle.rules.specs.Findings.{set_of, count_of, lowest_of, level, worst}
use Rattle.rules.specs.Verdicts.{finding_bytes, rejects, raised, is_stray, group_findings_by, file_findings_by, transaction_verdicts_by, group_verdicts_by, file_verdicts_by}
use Rattle.rules.specs.Outcome.{admission, answer, Outcome, check, short_tolerance}
use Rattle.rules.specs.First.{is_grave, of_each, first_rejected, First, refused_with, nothing, at, first}
use Rattle.rules.specs.Listing.{figure, record_line, answer_line, listed, most_input, listing_tables, listing}
use Rattle.rules.proofs.Made.{◌is◌, made, header, writer, found_on}

-- ---- a file with each of the five verdicts

unfoldable pub opening : String → Bytes
opening number = made "GRH" 28 (4 is "NWR" ∷ 7 is number ∷ [])

unfoldable pub closing : String → Bytes
closing numbers = made "GRT" 37 (4 is numbers ∷ [])

unfoldable pub opens : Bytes
opens = made "HDR" 167 (102 is "2.2002" ∷ [])

unfoldable pub ends : String → Bytes
ends numbers = made "TRL" 24 (4 is numbers ∷ [])

-- an ISWC with a wrong digit is defaulted, SWR is accepted and TER rejected
mild : List Bytes
mild =
    header "NWR" (4 is "0000000000000000" ∷ 96 is "T0345246802" ∷ [])
    ∷ writer "SWR" (4 is "0000000000000001" ∷ [])
    ∷ made "TER" 24 (4 is "0000000000000002" ∷ [])
    ∷ []

unfoldable pub file_b : Bytes
unfolding opens opening mild closing ends
file_b =
    unlines
    (opens
    ∷ opening "00001"
    ∷ mild
    -- no writer CA, A or C: the transaction is rejected
    ++ header "NWR" (4 is "0000000100000000" ∷ [])
    ∷ writer "SWR" (4 is "0000000100000001" ∷ 105 is "AR" ∷ [])
    ∷ closing "000010000000200000007"
    -- a REV in a group for NWR: the group is rejected
    ∷ opening "00002"
    ∷ header "REV" (4 is "0000000000000000" ∷ [])
    ∷ writer "SWR" (4 is "0000000000000001" ∷ [])
    ∷ closing "000020000000100000004"
    ∷ ends "000020000000300000013"
    ∷ [])

-- a set's eight bytes
none : Bytes
none = replicate 8 0

findings_b : Bytes
findings_b =
    none
    ++ none
    -- 19
    ++ (0 ∷ 0 ∷ 8 ∷ 0 ∷ 0 ∷ 0 ∷ 0 ∷ 0 ∷ [])
    ++ none
    -- 24
    ++ (0 ∷ 0 ∷ 0 ∷ 1 ∷ 0 ∷ 0 ∷ 0 ∷ 0 ∷ [])
    -- 5
    ++ (32 ∷ 0 ∷ 0 ∷ 0 ∷ 0 ∷ 0 ∷ 0 ∷ 0 ∷ [])
    ++ none
    ++ none
    ++ none
    -- 0
    ++ (1 ∷ 0 ∷ 0 ∷ 0 ∷ 0 ∷ 0 ∷ 0 ∷ 0 ∷ [])
    ++ none
    ++ none
    ++ none

-- a work with this much of PR
file_of : String → Bytes
file_of pr =
    unlines
    (opens
    ∷ opening "00001"
    ∷ header "NWR" (4 is "0000000000000000" ∷ [])
    ∷ writer "SWR" (4 is "0000000000000001" ∷ 130 is pr ∷ [])
    ∷ closing "000010000000100000004"
    ∷ ends "000010000000100000006"
    ∷ [])

-- which is too little
verdicts_short : Bytes
verdicts_short = 0 ∷ 0 ∷ 3 ∷ 3 ∷ 0 ∷ 0 ∷ []

findings_short : Bytes
findings_short =
    none
    ++ none
    -- 3
    ++ (8 ∷ 0 ∷ 0 ∷ 0 ∷ 0 ∷ 0 ∷ 0 ∷ 0 ∷ [])
    ++ none
    ++ none
    ++ none

-- ---- outcomes

-- tables, tolerance, file and buffers; answer and buffers
data Example : Type 0 where
  checked : Tables → ℕ → Bytes → Bytes → Bytes → Outcome → Example

computed : Example → Outcome
computed (checked tables t f v g o) = check tables t f v g

said : Example → Outcome
said (checked tables t f v g o) = o

-- with the listing's tables
goes : ℕ → Bytes → Bytes → Bytes → Answer → Bytes → Bytes → Example
goes t f v g a v' g' = checked listing_tables t f v g (record { answer = a; verdicts = v'; findings = g' })

-- a refusal leaves the buffers
stops : Tables → ℕ → Bytes → Bytes → Bytes → ℕ → ℕ → Example
stops tables t f v g n i = checked tables t f v g (record { answer = refused n i; verdicts = v; findings = g })

lent : Bytes → Bytes → Bytes → Tables
lent ls ss cs = record { languages = ls; societies = ss; categories = cs }

examples : List Example
examples =
    goes 6 file_a (replicate 6 255) (replicate 48 255) (passed 1 1 6) (replicate 6 0) (replicate 48 0)
    ∷ goes 6 file_b (replicate 13 255 ++ ascii "abc") (replicate 104 255 ++ ascii "de")
    (passed 2 3 13)
    ((0 ∷ 0 ∷ 1 ∷ 0 ∷ 2 ∷ 3 ∷ 3 ∷ 0 ∷ 4 ∷ 4 ∷ 4 ∷ 4 ∷ 0 ∷ []) ++ ascii "abc")
    (findings_b ++ ascii "de")
    -- the short form lets no hundredth pass
    ∷ goes short_tolerance file_a (replicate 6 255) (replicate 48 255) (passed 1 1 6) (replicate 6 0) (replicate 48 0)
    ∷ goes short_tolerance (file_of "09999") (replicate 6 255) (replicate 48 255) (passed 1 1 6) verdicts_short findings_short
    ∷ goes 6 (file_of "09994") (replicate 6 255) (replicate 48 255) (passed 1 1 6) (replicate 6 0) (replicate 48 0)
    ∷ goes 5 (file_of "09994") (replicate 6 255) (replicate 48 255) (passed 1 1 6) verdicts_short findings_short
    -- 1, and before 2
    ∷ stops listing_tables 7 file_a (replicate 6 255) (replicate 48 255) 1 0
    ∷ stops (lent (ascii "E") (ascii "0") (ascii "P")) 7 [] [] [] 1 0
    -- 2: each table, in order, and before the structure
    ∷ stops (lent (ascii "ENF") (ascii "0") (ascii "P")) 6 [] [] [] 2 0
    ∷ stops (lent [] (ascii "0350") (ascii "P")) 0 [] [] [] 2 1
    ∷ stops (lent [] [] (ascii "POPJA")) 0 [] [] [] 2 2
    -- 1,025 entries, and 1,024
    ∷ stops (lent (replicate 2050 65) [] []) 6 [] [] [] 2 0
    ∷ stops (lent [] (replicate 3075 65) []) 6 [] [] [] 2 1
    ∷ stops (lent [] [] (replicate 3075 65)) 6 [] [] [] 2 2
    ∷ stops (lent (replicate 2048 65) (replicate 3072 65) (replicate 3072 65)) 6 [] [] [] 7 0
    -- the structure, before 11: one empty record, and no room for it
    ∷ stops listing_tables 6 (13 ∷ 10 ∷ []) [] [] 6 0
    -- 11: one byte less than a verdict for each record, and than eight bytes of findings
    ∷ stops listing_tables 6 file_a (replicate 5 255) (replicate 48 255) 11 0
    ∷ stops listing_tables 6 file_a (replicate 6 255) (replicate 47 255) 11 0
    ∷ []

-- ---- listings

texts : List String → Bytes
texts [] = []
texts (line ∷ ls) = ascii line ++ 10 ∷ texts ls

-- an input, and what is printed
data Printed : Type 0 where
  prints : Bytes → List String → Printed

printed : Printed → Bytes
printed (prints f ls) = listing f

shown : Printed → Bytes
shown (prints f ls) = texts ls

listings : List Printed
listings =
    prints file_a
    ("GROUPS 1 TRANSACTIONS 1 RECORDS 6"
    ∷ "0 HDR 0 0 -"
    ∷ "1 GRH 0 0 -"
    ∷ "2 NWR 0 0 -"
    ∷ "3 SWR 0 0 -"
    ∷ "4 GRT 0 0 -"
    ∷ "5 TRL 0 0 -"
    ∷ [])
    ∷ prints file_b
    ("GROUPS 2 TRANSACTIONS 3 RECORDS 13"
    ∷ "0 HDR 0 0 -"
    ∷ "1 GRH 0 0 -"
    ∷ "2 NWR 1 1 19"
    ∷ "3 SWR 0 0 -"
    ∷ "4 TER 2 1 24"
    ∷ "5 NWR 3 1 5"
    ∷ "6 SWR 3 0 -"
    ∷ "7 GRT 0 0 -"
    ∷ "8 GRH 4 0 -"
    ∷ "9 REV 4 1 0"
    ∷ "10 SWR 4 0 -"
    ∷ "11 GRT 4 0 -"
    ∷ "12 TRL 0 0 -"
    ∷ [])
    -- six hundredths are let pass, and not seven
    ∷ prints (file_of "09994")
    ("GROUPS 1 TRANSACTIONS 1 RECORDS 6"
    ∷ "0 HDR 0 0 -"
    ∷ "1 GRH 0 0 -"
    ∷ "2 NWR 0 0 -"
    ∷ "3 SWR 0 0 -"
    ∷ "4 GRT 0 0 -"
    ∷ "5 TRL 0 0 -"
    ∷ [])
    ∷ prints (file_of "09993")
    ("GROUPS 1 TRANSACTIONS 1 RECORDS 6"
    ∷ "0 HDR 0 0 -"
    ∷ "1 GRH 0 0 -"
    ∷ "2 NWR 3 1 3"
    ∷ "3 SWR 3 0 -"
    ∷ "4 GRT 0 0 -"
    ∷ "5 TRL 0 0 -"
    ∷ [])
    ∷ prints [] ("REFUSED 7 0" ∷ [])
    ∷ []

-- ---- the first transaction to look at

-- no finding above RR
file_c : Bytes
file_c = unlines (opens ∷ opening "00001" ∷ mild ++ closing "000010000000100000005" ∷ ends "000010000000100000007" ∷ [])

-- and in a second group a REV, which falls with the NWR before it that has no finding
unfoldable pub file_d : Bytes
unfolding opens opening mild closing ends
file_d =
    unlines
    (opens
    ∷ opening "00001"
    ∷ mild
    ++ closing "000010000000100000005"
    ∷ opening "00002"
    ∷ header "NWR" (4 is "0000000000000000" ∷ [])
    ∷ writer "SWR" (4 is "0000000000000001" ∷ [])
    ∷ header "REV" (4 is "0000000100000000" ∷ [])
    ∷ writer "SWR" (4 is "0000000100000001" ∷ [])
    ∷ closing "000020000000200000006"
    ∷ ends "000020000000300000013"
    ∷ [])

-- a tolerance, a file, and what is answered
data Search : Type 0 where
  finds : ℕ → Bytes → First → Search

sought : Search → First
sought (finds t f a) = first listing_tables t f

answered : Search → First
answered (finds t f a) = a

searches : List Search
searches =
    finds 6 file_a nothing
    ∷ finds 6 file_b (at 1)
    ∷ finds 6 file_c nothing
    ∷ finds 6 file_d (at 2)
    ∷ finds 7 file_b (refused_with (refused 1 0))
    ∷ []

all-files : (map computed examples ≡ map said examples) × (map printed listings ≡ map shown listings) × (map sought searches ≡ map answered searches)
unfolding examples computed said goes stops lent findings_b none listings printed shown texts searches sought answered file_a file_b file_c
    file_d file_of verdicts_short findings_short opens mild ends opening closing found_on check answer admission right_table structure judged lines is_text decimal rows22
    version22 tree finding_bytes rejects raised is_stray group_findings_by file_findings_by transaction_verdicts_by group_verdicts_by file_verdicts_by
    set_of bytes_of level worst figure record_line answer_line listed listing count_of lowest_of first is_grave first_rejected of_each
all-files = (refl, refl, refl)

-- more than the program reads
too_long : (f : Bytes) → most_input < length f → listing f ≡ texts ("INPUT TOO LONG" ∷ [])
unfolding listing texts
too_long f h = rw (lt-leb (length f) most_input h)
