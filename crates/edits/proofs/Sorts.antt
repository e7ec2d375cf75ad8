-- What a row's sort says of its record: the types that it may have, and how long it is. Assumes nothing.
use Prim.Native.Nat.{ℕ, suc}
use Prim.Native.String.{String}
use native.Mathlib.Omega.{arith}
use mathlib.Core.Path.{◌≡◌, refl, sym, ap, ◌∙◌}
use mathlib.Core.Bool.{Bool, true, false, false≢true, ◌||◌, or-false, or-true}
use mathlib.Core.Logic.{◌⊎◌, inl, inr}
use mathlib.Core.List.{List, [], ◌∷◌}
use lib.Dec.{eqb}
use lib.ListN.{length, take, get_or}
use borrow.Author.Tests.{eqb-true, eq-eqb, ne_eqb}
use Rattle.format.specs.Ascii.{ascii}
use Rattle.format.specs.Bytes.{Bytes, same_bytes, among, every}
use Rattle.format.specs.Table.{head, detail}
use Rattle.format.specs.Cwr22.{rows22, cwr22}
use Rattle.format.specs.Checks.{code, cls}
use Rattle.format.proofs.Tests.{by_cases, both, same→eq}
use Rattle.rules.specs.Tables.{Tables}
use Rattle.rules.specs.Records.{is_type, is_publisher, is_writer}
use Rattle.rules.specs.Other.{is24}
use Rattle.rules.specs.Collection.{is_publishers_claim, is_writers_claim}
use Rattle.rules.proofs.Types.{type-is, of_two}
use Rattle.kinds.specs.Rows.{row_for, types_of, sort_of, place_of, same_sort}
use Rattle.kinds.specs.declared.Row.{Row}
use Rattle.kinds.specs.declared.Sort.{Sort}
use Rattle.kinds.specs.declared.Sort.TheVariants.{Nothing, Publisher, Writer, Ewt, Ver, Per, Rec, Instrument, Misplaced, PublishersClaim, WritersClaim}
use Rattle.kinds.proofs.Laws.{sort-is, of-sort, same-sort→eq}
use Rattle.edits.specs.declared.Found.{Found}
use Rattle.edits.specs.Kinds.{PublisherRecord, WriterRecord, VersionRecord, PerformerRecord, RecordingRecord}
use Rattle.edits.specs.Judged.{Judged}
use Rattle.edits.proofs.Types.{clash, same_truth}
use Rattle.edits.proofs.Own.{own-none}

-- what holds of each name holds of a type that is one of them
of-each : (p : Bytes → Bool) (x : Bytes) (names : List Bytes) → every p names ≡ true → among x names ≡ true → p x ≡ true
of-each p x [] h e = absurd (clash (sym e))
of-each p x (n ∷ ns) h e =
    let (here, rest) = both (p n) (every p ns) h in
    by_cases (same_bytes n x)
    (λ y. ap p (sym (same→eq n x y)) ∙ here)
    (λ z. of-each p x ns rest (rw z at e))

head-no-detail : head ≡ detail → ⊥
head-no-detail e = let z : ◌≡◌ {A = ℕ} 2 3 = ap code e in omega arith

module _ (kind : Row) (r : Bytes) (its : kind ≡ row_for (take 3 r)) where
  sort-of : kind.sort ≡ sort_of (take 3 r)
  sort-of = ap (λ (q : Row). q.sort) its ∙ sort-is (take 3 r)

  -- ---- a sort is told by its types

  module _ (s : Sort) (some : same_sort s Nothing ≡ false) where
    no-nothing : s ≡ Nothing → ⊥
    no-nothing e = false≢true (sym some ∙ ap (λ (x : Sort). same_sort x Nothing) e)

    pub one-of : kind.sort ≡ s → among (take 3 r) (types_of s) ≡ true
    one-of e = of-sort (take 3 r) s no-nothing kind its e

    told : every (λ name. same_sort (sort_of name) s) (types_of s) ≡ true → same_sort kind.sort s ≡ among (take 3 r) (types_of s)
    told all =
        same_truth _ _
        (λ e. one-of (same-sort→eq kind.sort s e))
        (λ e. ap (λ (x : Sort). same_sort x s) sort-of ∙ of-each (λ name. same_sort (sort_of name) s) (take 3 r) (types_of s) all e)

  pub sort-publisher : same_sort kind.sort Publisher ≡ is_publisher r
  unfolding sort_of
  sort-publisher = rw or-false at (told Publisher refl refl)

  pub sort-writer : same_sort kind.sort Writer ≡ is_writer r
  unfolding sort_of
  sort-writer = rw or-false at (told Writer refl refl)

  pub sort-ewt : same_sort kind.sort Ewt ≡ is_type "EWT" r
  unfolding sort_of
  sort-ewt = rw or-false at (told Ewt refl refl)

  pub sort-ver : same_sort kind.sort Ver ≡ is_type "VER" r
  unfolding sort_of
  sort-ver = rw or-false at (told Ver refl refl)

  sort-per : same_sort kind.sort Per ≡ is_type "PER" r
  unfolding sort_of
  sort-per = rw or-false at (told Per refl refl)

  sort-rec : same_sort kind.sort Rec ≡ is_type "REC" r
  unfolding sort_of
  sort-rec = rw or-false at (told Rec refl refl)

  pub sort-instrument : same_sort kind.sort Instrument ≡ (is_type "INS" r || is_type "IND" r)
  unfolding sort_of
  sort-instrument = rw or-false at (told Instrument refl refl)

  pub sort-publishers-claim : same_sort kind.sort PublishersClaim ≡ is_publishers_claim r
  unfolding sort_of
  sort-publishers-claim = rw or-false at (told PublishersClaim refl refl)

  pub sort-writers-claim : same_sort kind.sort WritersClaim ≡ is_writers_claim r
  unfolding sort_of
  sort-writers-claim = rw or-false at (told WritersClaim refl refl)

  -- so a record of the sort is of one of its types, and one of another sort is not
  pub of-kind : {s : Sort} {is : Bool} → same_sort kind.sort s ≡ is → kind.sort ≡ s → is ≡ true
  of-kind {s} told e = sym told ∙ ap (λ (x : Sort). same_sort x s) e ∙ eq-eqb (place_of s) (place_of s) refl

  pub of-no-kind : {s : Sort} {is : Bool} → same_sort kind.sort s ≡ is → (kind.sort ≡ s → ⊥) → is ≡ false
  of-no-kind {s} told n = by_cases (same_sort kind.sort s) (λ e. absurd (n (same-sort→eq kind.sort s e))) (λ e. sym told ∙ e)

  pub is-misplaced : kind.sort ≡ Misplaced → is24 r ≡ true
  unfolding is24
  is-misplaced e = four (is_type "TER" r) (is_type "IPA" r) (is_type "NPA" r) (is_type "MSG" r) (one-of Misplaced refl e)
    where
      four : (a b c d : Bool) → (a || (b || (c || (d || false)))) ≡ true → (a || b || c || d) ≡ true
      four true b c d h = refl
      four false true c d h = refl
      four false false true d h = refl
      four false false false true h = refl
      four false false false false h = h

  -- ---- a detail without findings of its own

  not-type : (name : String) (k : Sort) → sort_of (ascii name) ≡ k → (kind.sort ≡ k → ⊥) → is_type name r ≡ false
  not-type name k s n = by_cases (is_type name r) (λ e. absurd (n (sort-of ∙ ap sort_of (type-is name r e) ∙ s))) (λ e. e)

  not-header : (name : String) → cls cwr22 r ≡ detail → cwr22.class (ascii name) ≡ head → is_type name r ≡ false
  not-header name d h =
      by_cases (is_type name r) (λ e. absurd (head-no-detail (sym h ∙ sym (ap cwr22.class (type-is name r e)) ∙ d))) (λ e. e)

  pub none_found : (tables : Tables) (ds : List Bytes) (f : Found) → f.set ≡ 0 → f.level ≡ 0 → cls cwr22 r ≡ detail
      → (kind.sort ≡ Publisher → ⊥) → (kind.sort ≡ Writer → ⊥) → (kind.sort ≡ Ewt → ⊥) → (kind.sort ≡ Ver → ⊥)
      → (kind.sort ≡ Per → ⊥) → (kind.sort ≡ Rec → ⊥) → (kind.sort ≡ Misplaced → ⊥)
      → Judged tables ds r f
  unfolding sort_of rows22
  none_found tables ds f s l d n2 n3 n4 n5 n6 n7 n9 =
      own-none tables ds r
      (not-header "NWR" d refl)
      (not-header "REV" d refl)
      (not-type "TER" Misplaced refl n9)
      (not-type "IPA" Misplaced refl n9)
      (not-type "NPA" Misplaced refl n9)
      (not-type "MSG" Misplaced refl n9)
      (not-type "SPU" Publisher refl n2)
      (not-type "OPU" Publisher refl n2)
      (not-type "SWR" Writer refl n3)
      (not-type "OWR" Writer refl n3)
      (not-type "EWT" Ewt refl n4)
      (not-type "VER" Ver refl n5)
      (not-type "PER" Per refl n6)
      (not-type "REC" Rec refl n7)
      f
      s
      l

  -- ---- lengths

  sized : (name : String) (n : ℕ) → is_type name r ≡ true → (row_for (ascii name)).length ≡ n → length r ≡ kind.length → length r ≡ n
  sized name n e q l = l ∙ ap (λ (k : Row). k.length) its ∙ ap (λ type. (row_for type).length) (type-is name r e) ∙ q

  either-sized : (a b : String) (n : ℕ) → (is_type a r || is_type b r) ≡ true → (row_for (ascii a)).length ≡ n → (row_for (ascii b)).length ≡ n
      → length r ≡ kind.length → length r ≡ n
  either-sized a b n e p q l = l ∙ ap (λ (k : Row). k.length) its ∙ of_two a b r (λ type. (row_for type).length ≡ n) p q e

  pub publisher-here : length r ≡ kind.length → kind.sort ≡ Publisher → PublisherRecord r
  unfolding row_for rows22
  publisher-here l e = let is = of-kind sort-publisher e in (either-sized "SPU" "OPU" 183 is refl refl l, is)

  pub writer-here : length r ≡ kind.length → kind.sort ≡ Writer → WriterRecord r
  unfolding row_for rows22
  writer-here l e = let is = of-kind sort-writer e in (either-sized "SWR" "OWR" 180 is refl refl l, is)

  pub version-here : length r ≡ kind.length → (kind.sort ≡ Ewt) ⊎ (kind.sort ≡ Ver) → VersionRecord r
  unfolding row_for rows22
  version-here l (inl e) = let is = of-kind sort-ewt e in (sized "EWT" 364 is refl l, rw is)
  version-here l (inr e) = let is = of-kind sort-ver e in (sized "VER" 364 is refl l, rw is (or-true (is_type "EWT" r)))

  pub per-here : length r ≡ kind.length → kind.sort ≡ Per → PerformerRecord r
  unfolding row_for rows22
  per-here l e = let is = of-kind sort-per e in (sized "PER" 118 is refl l, is)

  pub rec-here : length r ≡ kind.length → kind.sort ≡ Rec → RecordingRecord r
  unfolding row_for rows22
  rec-here l e = let is = of-kind sort-rec e in (sized "REC" 540 is refl l, is)

  pub publishers-claim-long : length r ≡ kind.length → is_publishers_claim r ≡ true → length r ≡ 58
  unfolding row_for rows22
  publishers-claim-long l is = either-sized "SPT" "OPT" 58 is refl refl l

  pub writers-claim-long : length r ≡ kind.length → is_writers_claim r ≡ true → length r ≡ 52
  unfolding row_for rows22
  writers-claim-long l is = either-sized "SWT" "OWT" 52 is refl refl l
