-- The sets of findings in a buffer, read from their bytes: enough to tell the first transaction to look at. Assumes nothing.
use Prim.Native.Nat.{ℕ, ◌-◌, ◌*◌, ◌≤◌}
use native.Mathlib.Omega.{arith}
use mathlib.Core.Path.{◌≡◌, refl, sym, ap, ◌∙◌}
use mathlib.Core.Bool.{Bool}
use mathlib.Core.List.{List, [], ◌∷◌, ◌++◌, map, append_assoc}
use lib.Dec.{leb}
use lib.ListN.{length, take, drop, take-append-drop}
use Rattle.format.specs.Bytes.{Bytes, All, bytes_of}
use Rattle.format.specs.Doc.{Group, Transaction}
use Rattle.format.specs.Tree.{Tree}
use Rattle.format.proofs.Logic.{All-append}
use Rattle.rules.specs.Tables.{Tables}
use Rattle.rules.specs.Records.{any}
use Rattle.rules.specs.Findings.{field_findings, own_findings, set_of, places, worst}
use Rattle.rules.specs.Works.{named_type, header_findings, details_from, transaction_findings}
use Rattle.rules.specs.Verdicts.{joined, finding_bytes, group_findings, group_findings_by, file_findings, file_findings_by}
use Rattle.rules.specs.First.{is_grave, of_each, first_at, first_rejected}
use Rattle.rules.specs.Claims.{sets_in}
use Rattle.rules.proofs.Joined.{joined-all}
use Rattle.rules.proofs.Bits.{places-set, worst-padded, places-bytes}
use Rattle.rules.proofs.Found.{first-map, any-map, each_map}

-- ---- no set is too large

abbrev pub Small : ℕ → List (List Bool) → Type 0
Small most = All (λ set. length set ≤ most)

-- 47 findings are told apart without a territory table
module _ (tables : Tables) (t most : ℕ) (fits : 47 ≤ most) where
  abbrev Fits : List Bool → Type 0
  Fits set = length set ≤ most

  small-details : (before ds : List Bytes) → Small most (details_from tables before ds)
  unfolding own_findings field_findings
  small-details before [] = tt
  small-details before (r ∷ rs) = (omega arith, small-details (before ++ r ∷ []) rs)

  small-transaction : (named : Bytes) (x : Transaction) → Small most (transaction_findings tables t named x)
  unfolding transaction_findings header_findings field_findings
  small-transaction named x = (omega arith, small-details [] x.details)

  small-group : (g : Group) → Small most (group_findings tables t g)
  unfolding group_findings_by
  small-group g =
      let f = transaction_findings tables t (named_type g.opening) in
      (omega arith, All-append Fits (joined f g.transactions) ([] ∷ []) (joined-all Fits f (small-transaction _) g.transactions) (omega arith, tt))

  pub small-file : (d : Tree) → Small most (file_findings tables t d)
  unfolding file_findings_by
  small-file d =
      let f = group_findings tables t in
      (omega arith, All-append Fits (joined f d.groups) ([] ∷ []) (joined-all Fits f small-group d.groups) (omega arith, tt))

-- ---- read back

-- a set read from its bytes, which have 64 places, is as grave
grave-read : (set : List Bool) → length set ≤ 64 → is_grave (joined (places 8) (bytes_of 8 (set_of set))) ≡ is_grave set
unfolding is_grave
grave-read set fits =
    ap (λ (s : List Bool). leb 3 (worst s)) (places-bytes 8 (set_of set) ∙ places-set 64 set fits) ∙ ap (leb 3) (worst-padded set (64 - length set))

-- eight bytes at the front
front-8 : (n : ℕ) (rest : Bytes) → (take 8 (bytes_of 8 n ++ rest) ≡ bytes_of 8 n) × (drop 8 (bytes_of 8 n ++ rest) ≡ rest)
unfolding bytes_of
front-8 n rest = (refl, refl)

graves-read : (sets : List (List Bool)) (rest : Bytes) → Small 64 sets
    → map is_grave (sets_in (length sets) (finding_bytes sets ++ rest)) ≡ map is_grave sets
unfolding finding_bytes
graves-read [] rest h = refl
graves-read (set ∷ sets) rest h =
    let after = finding_bytes sets ++ rest in
    rw (append_assoc (bytes_of 8 (set_of set)) (finding_bytes sets) rest, (front-8 (set_of set) after).0, (front-8 (set_of set) after).1, grave-read set h.0)
    (ap (λ (l : List Bool). is_grave set ∷ l) (graves-read sets rest h.1))

-- that is all that counts
graves-decide : (d : Tree) (sets : List (List Bool)) → first_rejected d sets ≡ first_at (any (λ b. b)) (of_each d (map is_grave sets))
unfolding first_rejected
graves-decide d sets =
    sym (ap (first_at (any (λ b. b))) (each_map is_grave d sets)
    ∙ first-map (map is_grave) (any (λ b. b)) (any is_grave) (any-map is_grave (λ b. b) is_grave (λ set. refl)) (of_each d sets))

-- a buffer that begins with the bytes of some sets
module _ (sets : List (List Bool)) (n : ℕ) (buffer : Bytes) (count : length sets ≡ n) (front : take (8 * n) buffer ≡ finding_bytes sets) where
  whole : buffer ≡ finding_bytes sets ++ drop (8 * n) buffer
  whole = sym (take-append-drop (8 * n) buffer) ∙ ap (λ (b : Bytes). b ++ drop (8 * n) buffer) front

  same-graves : Small 64 sets → map is_grave (sets_in n buffer) ≡ map is_grave sets
  same-graves h =
      ap (λ (b : Bytes). map is_grave (sets_in n b)) whole
      ∙ ap (λ (r : ℕ). map is_grave (sets_in r (finding_bytes sets ++ drop (8 * n) buffer))) (sym count)
      ∙ graves-read sets (drop (8 * n) buffer) h

  pub same_first : Small 64 sets → (d : Tree) → first_rejected d (sets_in n buffer) ≡ first_rejected d sets
  same_first h d =
      graves-decide d (sets_in n buffer)
      ∙ ap (λ (l : List Bool). first_at (any (λ b. b)) (of_each d l)) (same-graves h)
      ∙ sym (graves-decide d sets)
