-- Marks with one record more. Assumes nothing.
use Prim.Native.Nat.{ℕ, suc, ◌+◌}
use Prim.Native.String.{String}
use native.Mathlib.Omega.{arith}
use mathlib.Core.Path.{◌≡◌, refl, sym, ap, ◌∙◌}
use mathlib.Core.Bool.{Bool, true, false, ◌&&◌, ◌||◌, or_comm, false≢true}
use mathlib.Core.List.{List, [], ◌∷◌, ◌++◌}
use lib.Dec.{ltb}
use lib.ListN.{length, length-append}
use borrow.Author.Tests.{ltb-true, ltb-false, lt-ltb, le-ltb}
use Rattle.format.specs.Ascii.{ascii}
use Rattle.format.specs.Bytes.{Bytes, same_bytes, among}
use Rattle.rules.specs.Records.{is_type, is_writer, only, any}
use Rattle.rules.specs.Writer.{designation_in_force}
use Rattle.rules.specs.Writers.{creators, changers, authors}
use Rattle.rules.specs.Works.{several}
use Rattle.rules.proofs.Lists.{only_kept, only-left, any_last}
use Rattle.rules.proofs.Types.{of_two}
use Rattle.format.proofs.Tests.{by_cases}
use Rattle.tally.specs.declared.marks.Marks.{Marks}
use Rattle.tally.specs.Marked.{is_instrument, Marked}

-- ---- more than one of a type

any_some : (p : Bytes → Bool) (ds : List Bytes) → any p ds ≡ ltb 0 (length (only p ds))
any_some p [] = refl
any_some p (d ∷ ds) = by_cases (p d) (λ e. rw e (sym (lt-ltb 0 (suc (length (only p ds))) (omega arith)))) (λ e. rw e (any_some p ds))

two-of : (n : ℕ) → ltb 1 (n + 1) ≡ ltb 0 n
two-of n =
    by_cases (ltb 0 n)
    (λ e. lt-ltb 1 (n + 1) (omega (arith, ltb-true 0 n e)) ∙ sym e)
    (λ e. le-ltb 1 (n + 1) (omega (arith, ltb-false 0 n e)) ∙ sym e)

-- one more of the type, and one of another
module _ (type : String) (ds : List Bytes) (r : Bytes) where
  several-on : is_type type r ≡ true → several type (ds ++ r ∷ []) ≡ any (is_type type) ds
  several-on e =
      ap (λ l. ltb 1 (length l)) (only_kept (is_type type) ds r e)
      ∙ ap (ltb 1) (length-append (only (is_type type) ds) (r ∷ []))
      ∙ two-of (length (only (is_type type) ds))
      ∙ sym (any_some (is_type type) ds)

  several-kept : is_type type r ≡ false → several type (ds ++ r ∷ []) ≡ several type ds
  several-kept e = ap (λ l. ltb 1 (length l)) (only-left (is_type type) ds r e)

-- where there is more than one there is one
any-or-several : (type : String) (ds : List Bytes) → (any (is_type type) ds || several type ds) ≡ any (is_type type) ds
any-or-several type ds = rw (any_some (is_type type) ds) (least (length (only (is_type type) ds)))
  where
    least : (n : ℕ) → (ltb 0 n || ltb 1 n) ≡ ltb 0 n
    least n = by_cases (ltb 0 n) (λ e. rw e) (λ e. rw e (le-ltb 1 n (omega (arith, ltb-false 0 n e))))

-- what is a flag of the record joins the mark
joined : (ds : List Bytes) (r : Bytes) (p : Bytes → Bool) (b c : Bool) → b ≡ any p ds → p r ≡ c → (c || b) ≡ any p (ds ++ r ∷ [])
joined ds r p b c e q = sym (any_last p ds r ∙ rw (q, ← e) (or_comm b c))

several-joined : (type : String) (ds : List Bytes) (r : Bytes) (b bs c : Bool) → b ≡ any (is_type type) ds → bs ≡ several type ds → is_type type r ≡ c
    → ((c && b) || bs) ≡ several type (ds ++ r ∷ [])
several-joined type ds r b bs true e es q = rw (e, es) (any-or-several type ds ∙ sym (several-on type ds r q))
several-joined type ds r b bs false e es q = es ∙ sym (several-kept type ds r q)

named : (names : List Bytes) (r : Bytes) (w b : Bool) → is_writer r ≡ w → (w ≡ true → among (designation_in_force r) names ≡ b)
    → (is_writer r && among (designation_in_force r) names) ≡ (w && b)
named names r true b e q = rw (e, q refl)
named names r false b e q = rw e

-- the marks with a record of which this is known: whether it is a writer and by which designations, an INS or IND, an EWT, a VER
abbrev pub marked : Marks → (w c g a i e v : Bool) → Marks
marked m w c g a i e v =
    record {
      writer = w || m.writer;
      creator = (w && c) || m.creator;
      changer = (w && g) || m.changer;
      author = (w && a) || m.author;
      instrument = i || m.instrument;
      ewt = e || m.ewt;
      ewts = (e && m.ewt) || m.ewts;
      ver = v || m.ver;
      vers = (v && m.ver) || m.vers;
    }

module _ (m : Marks) (ds : List Bytes) (r : Bytes) (h : Marked m ds) where
  marked-on : (w c g a i e v : Bool) → is_writer r ≡ w → is_instrument r ≡ i → is_type "EWT" r ≡ e → is_type "VER" r ≡ v
      → (w ≡ true → among (designation_in_force r) creators ≡ c) → (w ≡ true → among (designation_in_force r) changers ≡ g)
      → (w ≡ true → among (designation_in_force r) authors ≡ a)
      → Marked (marked m w c g a i e v) (ds ++ r ∷ [])
  marked-on w c g a i e v is-w is-i is-e is-v is_c is-g is-a =
      record {
        writer = joined ds r is_writer m.writer w h.writer is-w;
        creator = joined ds r _ m.creator (w && c) h.creator (named creators r w c is-w is_c);
        changer = joined ds r _ m.changer (w && g) h.changer (named changers r w g is-w is-g);
        author = joined ds r _ m.author (w && a) h.author (named authors r w a is-w is-a);
        instrument = joined ds r is_instrument m.instrument i h.instrument is-i;
        ewt = joined ds r (is_type "EWT") m.ewt e h.ewt is-e;
        ewts = several-joined "EWT" ds r m.ewt m.ewts e h.ewt h.ewts is-e;
        ver = joined ds r (is_type "VER") m.ver v h.ver is-v;
        vers = several-joined "VER" ds r m.ver m.vers v h.ver h.vers is-v;
      }

  -- no writer, so no designation is asked for
  pub other-on : (i e v : Bool) → is_writer r ≡ false → is_instrument r ≡ i → is_type "EWT" r ≡ e → is_type "VER" r ≡ v
      → Marked (marked m false false false false i e v) (ds ++ r ∷ [])
  other-on i e v is-w is-i is-e is-v =
      marked-on false false false false i e v is-w is-i is-e is-v (λ q. absurd (false≢true q)) (λ q. absurd (false≢true q))
      (λ q. absurd (false≢true q))

  -- a record of none of the types leaves the marks as they are
  pub unmarked : is_writer r ≡ false → is_instrument r ≡ false → is_type "EWT" r ≡ false → is_type "VER" r ≡ false → Marked m (ds ++ r ∷ [])
  unmarked is-w is-i is-e is-v = other-on false false false is-w is-i is-e is-v

  pub writer-on : (c g a : Bool) → is_writer r ≡ true → among (designation_in_force r) creators ≡ c
      → among (designation_in_force r) changers ≡ g → among (designation_in_force r) authors ≡ a
      → Marked (marked m true c g a false false false) (ds ++ r ∷ [])
  writer-on c g a is-w is_c is-g is-a =
      marked-on true c g a false false false is-w
      (of_two "SWR" "OWR" r (λ t. (same_bytes (ascii "INS") t || same_bytes (ascii "IND") t) ≡ false) refl refl is-w)
      (of_two "SWR" "OWR" r (λ t. same_bytes (ascii "EWT") t ≡ false) refl refl is-w)
      (of_two "SWR" "OWR" r (λ t. same_bytes (ascii "VER") t ≡ false) refl refl is-w)
      (λ _. is_c) (λ _. is-g) (λ _. is-a)
