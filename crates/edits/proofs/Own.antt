-- The own findings of each kind of record: the others do not hold. Assumes nothing.
use Prim.Native.Nat.{ℕ, ◌-◌}
use Prim.Native.String.{String}
use mathlib.Core.Path.{◌≡◌, refl, sym, ap, ◌∙◌}
use mathlib.Core.Bool.{Bool, true, false, ◌||◌}
use mathlib.Core.List.{List, [], ◌∷◌, ◌++◌}
use lib.ListN.{length, replicate, take}
use Rattle.format.specs.Ascii.{ascii}
use Rattle.format.specs.Bytes.{Bytes, same_bytes}
use Rattle.rules.specs.Tables.{Tables}
use Rattle.rules.specs.Records.{is_type, is_header, is_publisher, is_writer}
use Rattle.rules.specs.Header.{is16, is17, is18, is19, is20, is21, is22, is23}
use Rattle.rules.specs.Publisher.{is25, is26, is27, is28, is29, is30, is31, is32, is33, is34, is35, is36, is37}
use Rattle.rules.specs.Writer.{is38, is39, is40, is41, is42}
use Rattle.rules.specs.Other.{is24, is43, is44, is45, is46}
use Rattle.rules.specs.Findings.{field_findings, own_findings, set_of, worst}
use Rattle.format.proofs.Tests.{by_cases}
use Rattle.findings.specs.Many.{many}
use Rattle.rules.proofs.Bits.{worst-padded}
use Rattle.findings.proofs.Laws.{set-padded}
use Rattle.edits.specs.declared.Found.{Found}
use Rattle.edits.specs.Judged.{Judged}
use Rattle.edits.proofs.Types.{not-other, not_third, or_right}

-- ---- one type rules out the others

-- a record of one type, of one of two, of one of those of finding 24
module _ (r : Bytes) where
  of_one : (t : String) → is_type t r ≡ true → (u : String) → same_bytes (ascii u) (ascii t) ≡ false → is_type u r ≡ false
  of_one t h u = not-other (ascii t) (ascii u) (take 3 r) h

  of_two : (s t : String) → (is_type s r || is_type t r) ≡ true
      → (u : String) → same_bytes (ascii u) (ascii s) ≡ false → same_bytes (ascii u) (ascii t) ≡ false → is_type u r ≡ false
  of_two s t h u = not_third (ascii s) (ascii t) (take 3 r) h (ascii u)

  of_four : is24 r ≡ true → (u : String)
      → same_bytes (ascii u) (ascii "TER") ≡ false
      → same_bytes (ascii u) (ascii "IPA") ≡ false
      → same_bytes (ascii u) (ascii "NPA") ≡ false
      → same_bytes (ascii u) (ascii "MSG") ≡ false
      → is_type u r ≡ false
  unfolding is24
  of_four h u a b c d =
      by_cases (is_type "MSG" r)
      (λ y. of_one "MSG" y u d)
      (λ n.
      let three = or_right (is_type "TER" r || is_type "IPA" r || is_type "NPA" r) (is_type "MSG" r) h n in
      by_cases (is_type "NPA" r)
      (λ y. of_one "NPA" y u c)
      (λ m. of_two "TER" "IPA" (or_right (is_type "TER" r || is_type "IPA" r) (is_type "NPA" r) three m) u a b))

-- ---- a list of findings by the kinds of records that may have them

-- how many findings there are after these
abbrev after : List Bool → ℕ
after bs = many - length bs

-- these findings from 0 on, and none of those after them
abbrev up_to_last : List Bool → List Bool
up_to_last bs = bs ++ replicate (after bs) false

-- a header's findings, finding 24, a publisher's, a writer's, finding 43 and a recording's, in the order of their numbers
abbrev in_order : List Bool → List Bool → List Bool → List Bool → List Bool → List Bool → List Bool
in_order hs d ps ws v cs = replicate 16 false ++ (hs ++ (d ++ (ps ++ (ws ++ (v ++ cs)))))

same-order : (hs1 hs2 d1 d2 ps1 ps2 ws1 ws2 v1 v2 cs1 cs2 : List Bool)
    → hs1 ≡ hs2 → d1 ≡ d2 → ps1 ≡ ps2 → ws1 ≡ ws2 → v1 ≡ v2 → cs1 ≡ cs2
    → in_order hs1 d1 ps1 ws1 v1 cs1 ≡ in_order hs2 d2 ps2 ws2 v2 cs2
same-order hs1 hs2 d1 d2 ps1 ps2 ws1 ws2 v1 v2 cs1 cs2 e1 e2 e3 e4 e5 e6 = rw (e1, e2, e3, e4, e5, e6)

module _ (tables : Tables) (before : List Bytes) (r : Bytes) where
  -- ---- the findings of each kind

  abbrev pub of_header : List Bool
  of_header = is16 r ∷ is17 tables r ∷ is18 r ∷ is19 r ∷ is20 r ∷ is21 tables r ∷ is22 r ∷ is23 r ∷ []

  abbrev pub of24 : List Bool
  of24 = is24 r ∷ []

  abbrev pub of_publisher : List Bool
  of_publisher =
      is25 before r
      ∷ is26 r
      ∷ is27 r
      ∷ is28 r
      ∷ is29 r
      ∷ is30 r
      ∷ is31 r
      ∷ is32 before r
      ∷ is33 r
      ∷ is34 r
      ∷ is35 r
      ∷ is36 tables r
      ∷ is37 r
      ∷ []

  abbrev pub of_writer : List Bool
  of_writer = is38 r ∷ is39 r ∷ is40 r ∷ is41 r ∷ is42 r ∷ []

  abbrev pub of43 : List Bool
  of43 = is43 r ∷ []

  abbrev pub of_recording : List Bool
  of_recording = is44 r ∷ is45 r ∷ is46 r ∷ []

  no_header : is_type "NWR" r ≡ false → is_type "REV" r ≡ false → of_header ≡ replicate 8 false
  unfolding is16 is17 is18 is19 is20 is21 is22 is23
  no_header nwr rev = rw (nwr, rev)

  no-24 : is_type "TER" r ≡ false → is_type "IPA" r ≡ false → is_type "NPA" r ≡ false → is_type "MSG" r ≡ false → of24 ≡ replicate 1 false
  unfolding is24
  no-24 ter ipa npa msg = rw (ter, ipa, npa, msg)

  no-publisher : is_type "SPU" r ≡ false → is_type "OPU" r ≡ false → of_publisher ≡ replicate 13 false
  unfolding is25 is26 is27 is28 is29 is30 is31 is32 is33 is34 is35 is36 is37
  no-publisher spu opu = rw (spu, opu)

  no-writer : is_type "SWR" r ≡ false → is_type "OWR" r ≡ false → of_writer ≡ replicate 5 false
  unfolding is38 is39 is40 is41 is42
  no-writer swr owr = rw (swr, owr)

  no-43 : is_type "EWT" r ≡ false → is_type "VER" r ≡ false → is_type "PER" r ≡ false → of43 ≡ replicate 1 false
  unfolding is43
  no-43 ewt ver per = rw (ewt, ver, per)

  no-recording : is_type "REC" r ≡ false → of_recording ≡ replicate 3 false
  unfolding is44 is45 is46
  no-recording rec = rw rec

  -- ---- and so those of a record, whose kind may have some of them and has none of the others

  all_kinds : {hs d ps ws v cs : List Bool}
      → of_header ≡ hs → of24 ≡ d → of_publisher ≡ ps → of_writer ≡ ws → of43 ≡ v → of_recording ≡ cs
      → own_findings tables before r ≡ in_order hs d ps ws v cs
  unfolding field_findings own_findings
  all_kinds {hs} {d} {ps} {ws} {v} {cs} = same-order of_header hs of24 d of_publisher ps of_writer ws of43 v of_recording cs

  -- so a record is judged by whoever knows the findings of its kind, the first of which is number n
  abbrev JudgedBy : ℕ → List Bool → Type 0
  JudgedBy n kind =
      (bs : List Bool) (f : Found) → bs ≡ kind → f.set ≡ set_of (replicate n false ++ bs) → f.level ≡ worst (replicate n false ++ bs)
      → Judged tables before r f

  judged-by : (n : ℕ) (kind : List Bool) → own_findings tables before r ≡ up_to_last (replicate n false ++ kind) → JudgedBy n kind
  judged-by n kind all bs f found set level =
      let own = replicate n false ++ kind in
      let same = ap (λ (x : List Bool). replicate n false ++ x) found in
      record {
        set = set ∙ ap set_of same ∙ sym (ap set_of all ∙ set-padded own (after own));
        level = level ∙ ap worst same ∙ sym (ap worst all ∙ worst-padded own (after own));
      }

  pub own-header : is_header r ≡ true → JudgedBy 16 of_header
  own-header h =
      let no = of_two r "NWR" "REV" h in
      judged-by 16 of_header
      (all_kinds
      refl
      (no-24 (no "TER" refl refl) (no "IPA" refl refl) (no "NPA" refl refl) (no "MSG" refl refl))
      (no-publisher (no "SPU" refl refl) (no "OPU" refl refl))
      (no-writer (no "SWR" refl refl) (no "OWR" refl refl))
      (no-43 (no "EWT" refl refl) (no "VER" refl refl) (no "PER" refl refl))
      (no-recording (no "REC" refl refl)))

  pub own-24 : is24 r ≡ true → JudgedBy 24 of24
  own-24 h =
      let no = of_four r h in
      judged-by 24 of24
      (all_kinds
      (no_header (no "NWR" refl refl refl refl) (no "REV" refl refl refl refl))
      refl
      (no-publisher (no "SPU" refl refl refl refl) (no "OPU" refl refl refl refl))
      (no-writer (no "SWR" refl refl refl refl) (no "OWR" refl refl refl refl))
      (no-43 (no "EWT" refl refl refl refl) (no "VER" refl refl refl refl) (no "PER" refl refl refl refl))
      (no-recording (no "REC" refl refl refl refl)))

  pub own-publisher : is_publisher r ≡ true → JudgedBy 25 of_publisher
  own-publisher h =
      let no = of_two r "SPU" "OPU" h in
      judged-by 25 of_publisher
      (all_kinds
      (no_header (no "NWR" refl refl) (no "REV" refl refl))
      (no-24 (no "TER" refl refl) (no "IPA" refl refl) (no "NPA" refl refl) (no "MSG" refl refl))
      refl
      (no-writer (no "SWR" refl refl) (no "OWR" refl refl))
      (no-43 (no "EWT" refl refl) (no "VER" refl refl) (no "PER" refl refl))
      (no-recording (no "REC" refl refl)))

  pub own-writer : is_writer r ≡ true → JudgedBy 38 of_writer
  own-writer h =
      let no = of_two r "SWR" "OWR" h in
      judged-by 38 of_writer
      (all_kinds
      (no_header (no "NWR" refl refl) (no "REV" refl refl))
      (no-24 (no "TER" refl refl) (no "IPA" refl refl) (no "NPA" refl refl) (no "MSG" refl refl))
      (no-publisher (no "SPU" refl refl) (no "OPU" refl refl))
      refl
      (no-43 (no "EWT" refl refl) (no "VER" refl refl) (no "PER" refl refl))
      (no-recording (no "REC" refl refl)))

  pub own-version : (is_type "EWT" r || is_type "VER" r) ≡ true → JudgedBy 43 of43
  own-version h =
      let no = of_two r "EWT" "VER" h in
      judged-by 43 of43
      (all_kinds
      (no_header (no "NWR" refl refl) (no "REV" refl refl))
      (no-24 (no "TER" refl refl) (no "IPA" refl refl) (no "NPA" refl refl) (no "MSG" refl refl))
      (no-publisher (no "SPU" refl refl) (no "OPU" refl refl))
      (no-writer (no "SWR" refl refl) (no "OWR" refl refl))
      refl
      (no-recording (no "REC" refl refl)))

  pub own-performer : is_type "PER" r ≡ true → JudgedBy 43 of43
  own-performer h =
      let no = of_one r "PER" h in
      judged-by 43 of43
      (all_kinds
      (no_header (no "NWR" refl) (no "REV" refl))
      (no-24 (no "TER" refl) (no "IPA" refl) (no "NPA" refl) (no "MSG" refl))
      (no-publisher (no "SPU" refl) (no "OPU" refl))
      (no-writer (no "SWR" refl) (no "OWR" refl))
      refl
      (no-recording (no "REC" refl)))

  pub own-recording : is_type "REC" r ≡ true → JudgedBy 44 of_recording
  own-recording h =
      let no = of_one r "REC" h in
      judged-by 44 of_recording
      (all_kinds
      (no_header (no "NWR" refl) (no "REV" refl))
      (no-24 (no "TER" refl) (no "IPA" refl) (no "NPA" refl) (no "MSG" refl))
      (no-publisher (no "SPU" refl) (no "OPU" refl))
      (no-writer (no "SWR" refl) (no "OWR" refl))
      (no-43 (no "EWT" refl) (no "VER" refl) (no "PER" refl))
      refl)

  -- a record of none of these types has none
  pub own-none : is_type "NWR" r ≡ false → is_type "REV" r ≡ false
      → is_type "TER" r ≡ false → is_type "IPA" r ≡ false → is_type "NPA" r ≡ false → is_type "MSG" r ≡ false
      → is_type "SPU" r ≡ false → is_type "OPU" r ≡ false
      → is_type "SWR" r ≡ false → is_type "OWR" r ≡ false
      → is_type "EWT" r ≡ false → is_type "VER" r ≡ false → is_type "PER" r ≡ false
      → is_type "REC" r ≡ false
      → (f : Found) → f.set ≡ 0 → f.level ≡ 0 → Judged tables before r f
  unfolding set_of worst
  own-none nwr rev ter ipa npa msg spu opu swr owr ewt ver per rec f set level =
      judged-by 0 []
      (all_kinds (no_header nwr rev) (no-24 ter ipa npa msg) (no-publisher spu opu) (no-writer swr owr) (no-43 ewt ver per) (no-recording rec))
      [] f refl set level
