-- The catalogue sheet in worked examples, computed: of totals, of whole files, and of the step on sheets that no files have made. Assumes nothing.
use Prim.Native.Nat.{ℕ, suc, ◌-◌}
use Prim.Native.String.{String}
use mathlib.Core.Path.{◌≡◌, refl}
use mathlib.Core.List.{List, [], ◌∷◌, ◌++◌, map}
use lib.IntN.{ℤ, pos, neg_ℤ}
use lib.ListN.{take, drop, replicate}
use Rattle.format.specs.Ascii.{ascii}
use Rattle.format.specs.Bytes.{Bytes, is_text, decimal, unlines}
use Rattle.format.specs.Cwr22.{rows22, version22}
use Rattle.format.specs.Lines.{lines}
use Rattle.format.specs.Structure.{Answer, refused, passed, judged, structure}
use Rattle.format.specs.Tree.{tree}
use Rattle.format.proofs.Examples.{file_a}
use Rattle.rules.specs.Tables.{tables_of, right_table}
use Rattle.rules.specs.Records.{only}
use Rattle.rules.specs.Findings.{level, worst}
use Rattle.rules.specs.Verdicts.{rejects, raised, is_stray, group_findings_by, file_findings_by, transaction_verdicts_by, group_verdicts_by, file_verdicts_by}
use Rattle.rules.specs.Outcome.{admission}
use Rattle.rules.specs.Listing.{listing_tables}
use Rattle.rules.specs.Sheet.{Taken, answer_to, all_transactions, all_findings, all_verdicts, Missed, misses, missed_by, missed}
use Rattle.rules.specs.Sheet.{counts_by_finding, counts_by_verdict, Sheet, sheet_of, with_missed, with_sheet, Added, add}
use Rattle.rules.proofs.Made.{◌is◌, header, publisher, writer, found_on}
use Rattle.rules.proofs.Files.{opening, closing, opens, ends, file_b, file_d}

-- ---- figures

minus : ℕ → ℤ
minus n = neg_ℤ (pos n)

-- transactions, largest shortfall, largest excess, sum
missing : ℕ → ℕ → ℕ → ℤ → Missed
missing n short over sum = record { transactions = n; shortfall = short; excess = over; sum = sum }

none : Missed
none = missing 0 0 0 (pos 0)

-- a finding, and how many records carry it
infix 90 ◌on◌
data Carried : Type 0 where
  ◌on◌ : ℕ → ℕ → Carried

-- all 64, those not named being carried by none
carried : List Carried → List ℕ
carried [] = replicate 64 0
carried ((n on k) ∷ cs) = take n (carried cs) ++ k ∷ drop (suc n) (carried cs)

sheet : ℕ → ℕ → Missed → Missed → Missed → List Carried → List ℕ → Sheet
sheet files stopped pr mr sr findings verdicts =
    record { files = files; refused = stopped; pr = pr; mr = mr; sr = sr; findings = carried findings; verdicts = verdicts }

-- ---- a right's figures from the totals of transactions

data Totals : Type 0 where
  come : List ℕ → Missed → Totals

counted : Totals → Missed
counted (come totals m) = missed_by (only misses totals)

told : Totals → Missed
told (come totals m) = m

totals : List Totals
totals =
    come [] none
    ∷ come (0 ∷ 0 ∷ 0 ∷ []) none
    ∷ come (10000 ∷ 0 ∷ 10000 ∷ []) none
    -- the tolerance does not count
    ∷ come (9999 ∷ []) (missing 1 1 0 (minus 1))
    ∷ come (10001 ∷ []) (missing 1 0 1 (pos 1))
    ∷ come (9994 ∷ 10006 ∷ []) (missing 2 6 6 (pos 0))
    ∷ come (1 ∷ []) (missing 1 9999 0 (minus 9999))
    -- several: -6000, 300 and -1000; -1000, 2500, -1 and 1; only short; only over
    ∷ come (4000 ∷ 10300 ∷ 0 ∷ 9000 ∷ []) (missing 3 6000 300 (minus 6700))
    ∷ come (9000 ∷ 10000 ∷ 12500 ∷ 0 ∷ 9999 ∷ 10001 ∷ []) (missing 4 1000 2500 (pos 1500))
    ∷ come (9000 ∷ 1 ∷ 9999 ∷ []) (missing 3 9999 0 (minus 11000))
    ∷ come (10001 ∷ 30000 ∷ []) (missing 2 0 20000 (pos 20001))
    ∷ []

-- ---- files

-- a record's numbers, of a publisher the chain, and the shares of PR, MR and SR
of_publisher : String → String → String → String → String → String → Bytes
of_publisher type numbers chain pr mr sr = publisher type (4 is numbers ∷ 20 is chain ∷ 116 is pr ∷ 124 is mr ∷ 132 is sr ∷ [])

of_writer : String → String → String → String → String → Bytes
of_writer type numbers pr mr sr = writer type (4 is numbers ∷ 130 is pr ∷ 138 is mr ∷ 146 is sr ∷ [])

work : String → String → Bytes
work type numbers = header type (4 is numbers ∷ [])

-- totals that miss in accepted works and in rejected ones
file_e : Bytes
file_e =
    unlines
    (opens
    ∷ opening "00001"
    -- 9995, 10000 and 0: within the tolerance, so accepted
    ∷ work "NWR" "0000000000000000"
    ∷ of_writer "SWR" "0000000000000001" "09995" "10000" "00000"
    -- 10300, 10500 and 1234: finding 3
    ∷ work "NWR" "0000000100000000"
    ∷ of_publisher "SPU" "0000000100000001" "01" "02000" "05000" "01000"
    ∷ of_publisher "OPU" "0000000100000002" "02" "03000" "04000" "00200"
    ∷ of_writer "SWR" "0000000100000003" "05000" "01000" "00030"
    ∷ of_writer "OWR" "0000000100000004" "00300" "00500" "00004"
    ∷ closing "000010000000200000009"
    ∷ opening "00002"
    -- 7, 0 and 9993: findings 2 and 3, and 0, which rejects the group; on SWR 41, for the share that is no number
    ∷ work "REV" "0000000000000000"
    ∷ of_writer "SWR" "0000000000000001" "00007" "1000x" "09993"
    ∷ closing "000020000000100000004"
    ∷ ends "000020000000300000015"
    ∷ [])

-- 10600, 10000 and 1: findings 2 and 3
file_f : Bytes
file_f =
    unlines
    (opens
    ∷ opening "00001"
    ∷ work "NWR" "0000000000000000"
    ∷ of_writer "SWR" "0000000000000001" "10000" "10000" "00001"
    ∷ of_writer "SWR" "0000000000000002" "00600" "00000" "00000"
    ∷ closing "000010000000100000005"
    ∷ ends "000010000000100000007"
    ∷ [])

-- with the listing's tables
taken : Bytes → Taken
taken f = record { tables = listing_tables; file = f }

-- refused by 2, for its first table, though the file itself is right
wrong : Bytes → Taken
wrong f = record { tables = tables_of (ascii "ENF") [] []; file = f }

-- with tables that have no entry: on a header whose category is then unknown finding 21
bare : Bytes → Taken
bare f = record { tables = tables_of [] [] []; file = f }

-- ---- sheets

data Listed : Type 0 where
  gives : List Taken → Sheet → Listed

computed : Listed → Sheet
computed (gives xs s) = sheet_of xs

said : Listed → Sheet
said (gives xs s) = s

fresh : Sheet
fresh = sheet 0 0 none none none [] (0 ∷ 0 ∷ 0 ∷ 0 ∷ 0 ∷ [])

-- of one file
only_refused : Sheet
only_refused = sheet 1 1 none none none [] (0 ∷ 0 ∷ 0 ∷ 0 ∷ 0 ∷ [])

sheet_e : Sheet
sheet_e =
    sheet 1 0 (missing 3 9993 300 (minus 9698)) (missing 1 0 500 (pos 500)) (missing 2 8766 0 (minus 8773))
    (0 on 1 ∷ 2 on 1 ∷ 3 on 2 ∷ 41 on 1 ∷ [])
    (6 ∷ 0 ∷ 0 ∷ 5 ∷ 4 ∷ [])

-- of A, E, B, F, A without tables, and two that are refused
together : Sheet
together =
    sheet 7 2 (missing 4 9993 600 (minus 9098)) (missing 1 0 500 (pos 500)) (missing 3 9999 0 (minus 18772))
    (0 on 2 ∷ 2 on 2 ∷ 3 on 3 ∷ 5 on 1 ∷ 19 on 1 ∷ 21 on 1 ∷ 24 on 1 ∷ 41 on 1 ∷ [])
    (25 ∷ 1 ∷ 1 ∷ 12 ∷ 8 ∷ [])

sheets : List Listed
sheets =
    gives [] fresh
    ∷ gives (taken file_a ∷ []) (sheet 1 0 none none none [] (6 ∷ 0 ∷ 0 ∷ 0 ∷ 0 ∷ []))
    ∷ gives (bare file_a ∷ []) (sheet 1 0 none none none (21 on 1 ∷ []) (4 ∷ 0 ∷ 0 ∷ 2 ∷ 0 ∷ []))
    -- each of the five verdicts
    ∷ gives (taken file_b ∷ []) (sheet 1 0 none none none (0 on 1 ∷ 5 on 1 ∷ 19 on 1 ∷ 24 on 1 ∷ []) (5 ∷ 1 ∷ 1 ∷ 2 ∷ 4 ∷ []))
    -- finding 0 on one header: the six records of its group, GRH and GRT among them, have verdict 4
    ∷ gives (taken file_d ∷ []) (sheet 1 0 none none none (0 on 1 ∷ 19 on 1 ∷ 24 on 1 ∷ []) (5 ∷ 1 ∷ 1 ∷ 0 ∷ 6 ∷ []))
    -- rejected works count too
    ∷ gives (taken file_e ∷ []) sheet_e
    ∷ gives (taken file_f ∷ [])
    (sheet 1 0 (missing 1 0 600 (pos 600)) none (missing 1 9999 0 (minus 9999)) (2 on 1 ∷ 3 on 1 ∷ []) (4 ∷ 0 ∷ 0 ∷ 3 ∷ 0 ∷ []))
    -- refused: by 2, by 7, and before and after a file that passes
    ∷ gives (wrong file_e ∷ []) only_refused
    ∷ gives (wrong file_e ∷ taken file_a ∷ taken [] ∷ []) (sheet 3 2 none none none [] (6 ∷ 0 ∷ 0 ∷ 0 ∷ 0 ∷ []))
    -- the same file again, all of it once more
    ∷ gives (taken file_f ∷ taken file_f ∷ [])
    (sheet 2 0 (missing 2 0 600 (pos 1200)) none (missing 2 9999 0 (minus 19998)) (2 on 2 ∷ 3 on 2 ∷ []) (8 ∷ 0 ∷ 0 ∷ 6 ∷ 0 ∷ []))
    -- several, in two orders
    ∷ gives (taken file_a ∷ taken file_e ∷ wrong file_e ∷ taken file_b ∷ taken file_f ∷ taken [] ∷ bare file_a ∷ []) together
    ∷ gives (taken [] ∷ taken file_f ∷ bare file_a ∷ taken file_b ∷ taken file_a ∷ wrong file_e ∷ taken file_e ∷ []) together
    ∷ []

-- ---- the step, on a sheet that no files have made

-- so much below 2^64 - 1 and below 2^63 - 1, and above -2^63
top : ℕ → ℕ
top n = 18446744073709551615 - n

high : ℕ → ℤ
high n = pos (9223372036854775807 - n)

low : ℕ → ℤ
low n = minus (9223372036854775808 - n)

-- a right's figures, those of the new file, and what they come to: the ends are reached, and not passed
data Both : Type 0 where
  both : Missed → Missed → Missed → Both

added : Both → Missed
added (both a b m) = with_missed a b

meant : Both → Missed
meant (both a b m) = m

sums : List Both
sums =
    both (missing (top 1) 7 8 (high 1)) (missing 1 6 9 (pos 1)) (missing (top 0) 7 9 (high 0))
    ∷ both (missing (top 0) 7 8 (high 0)) (missing 1 6 9 (pos 1)) (missing (top 0) 7 9 (high 0))
    ∷ both (missing 3 7 8 (low 1)) (missing 1 7 0 (minus 1)) (missing 4 7 8 (low 0))
    ∷ both (missing 3 7 8 (low 0)) (missing 1 9 0 (minus 1)) (missing 4 9 8 (low 0))
    -- and left again
    ∷ both (missing 3 7 8 (low 0)) (missing 1 0 8 (pos 1)) (missing 4 7 8 (low 1))
    ∷ both (missing 3 7 8 (pos 500)) (missing 1 501 0 (minus 501)) (missing 4 501 8 (minus 1))
    ∷ []

-- a sheet, a file, and what is answered and left
data Step : Type 0 where
  goes : Sheet → Taken → Answer → Sheet → Step

after : Step → Added
after (goes s x a u) = add s x

left : Step → Added
left (goes s x a u) = record { answer = a; sheet = u }

-- with so many files, and so many refused: the first has just room for E, in each of the figures that E adds to; the second has none
near : ℕ → ℕ → Sheet
near files stopped =
    sheet files stopped (missing (top 3) 0 20000 (low 9698)) (missing (top 1) 7 0 (high 500)) (missing (top 2) 9000 0 (low 8773))
    (0 on top 1 ∷ 2 on top 1 ∷ 3 on top 2 ∷ 41 on top 1 ∷ 63 on 5 ∷ [])
    (top 6 ∷ top 0 ∷ 2 ∷ top 5 ∷ top 4 ∷ [])

brim : ℕ → ℕ → Sheet
brim files stopped =
    sheet files stopped (missing (top 0) 9993 20000 (low 0)) (missing (top 0) 7 500 (high 0)) (missing (top 0) 9000 0 (low 0))
    (0 on top 0 ∷ 2 on top 0 ∷ 3 on top 0 ∷ 41 on top 0 ∷ 63 on 5 ∷ [])
    (top 0 ∷ top 0 ∷ 2 ∷ top 0 ∷ top 0 ∷ [])

steps : List Step
steps =
    goes fresh (taken file_e) (passed 2 3 15) sheet_e
    ∷ goes fresh (wrong file_e) (refused 2 0) only_refused
    ∷ goes (near 4094 9) (taken file_e) (passed 2 3 15) (brim 4095 9)
    ∷ goes (brim 4095 9) (taken file_e) (passed 2 3 15) (brim 4096 9)
    ∷ goes (brim 4095 (top 1)) (wrong file_e) (refused 2 0) (brim 4096 (top 0))
    ∷ goes (brim 4095 (top 0)) (taken []) (refused 7 0) (brim 4096 (top 0))
    -- 12, and before all else
    ∷ goes (near 4096 9) (taken file_e) (refused 12 0) (near 4096 9)
    ∷ goes (near 4096 9) (wrong file_e) (refused 12 0) (near 4096 9)
    ∷ goes (near (top 0) 9) (taken []) (refused 12 0) (near (top 0) 9)
    ∷ []

all-sheets : (map counted totals ≡ map told totals) × (map computed sheets ≡ map said sheets) × (map added sums ≡ map meant sums) × (map after steps ≡ map left steps)
unfolding minus missing none carried sheet totals counted told of_publisher of_writer work file_a file_b file_d file_e file_f opens opening closing ends
    taken wrong bare computed said fresh only_refused sheet_e together sheets top high low added meant sums steps after left near brim
    found_on answer_to admission right_table structure judged lines is_text decimal rows22 version22 tree
    rejects raised is_stray group_findings_by file_findings_by transaction_verdicts_by group_verdicts_by file_verdicts_by level worst
    all_transactions all_findings all_verdicts missed_by missed counts_by_finding counts_by_verdict sheet_of with_sheet add
all-sheets = (refl, refl, refl, refl)
