-- What is claimed of the outcome of a check (specs/Claims) holds. Assumes nothing.
use Prim.Native.Nat.{ℕ, ◌*◌, ◌≤◌}
use native.Mathlib.Omega.{arith}
use mathlib.Core.Path.{◌≡◌, refl, sym, ap, ◌∙◌}
use mathlib.Core.Logic.{◌≢◌}
use mathlib.Core.Bool.{Bool, true, false, false≢true}
use mathlib.Core.List.{[], ◌∷◌}
use lib.ListN.{length}
use lib.Dec.{T, leb, leb→le, le→leb}
use Rattle.format.specs.Bytes.{Bytes, All}
use Rattle.format.specs.Doc.{write}
use Rattle.format.specs.Cwr22.{cwr22}
use Rattle.format.specs.Structure.{Answer, refused, passed, refusal, unless, structure}
use Rattle.format.specs.Lent.{in_room}
use Rattle.format.specs.Claims.{is_structural, Near}
use Rattle.format.proofs.Logic.{is_true, is_T, both, left, right}
use Rattle.format.proofs.Answers.{tested, untested, By, refusal-by, refused-by, structure-by, never_both, later}
use Rattle.format.proofs.Near.{near, unless-within}
use Rattle.format.proofs.Lent.{room-passed, in-room, room-near, room_by, room-later, left-front, left-beyond, left-length}
use Rattle.format.proofs.At22.{demand3-22, nearby-22}
use Rattle.rules.specs.Tables.{Tables, language_size, society_size, category_size, right_table}
use Rattle.rules.specs.Territories.{right_territories}
use Rattle.rules.specs.Values.{largest_tolerance}
use Rattle.rules.specs.Verdicts.{finding_bytes, file_findings, file_verdicts}
use Rattle.rules.specs.Outcome.{lent_right, enough, admission, answer, content, check, short_tolerance}
use Rattle.rules.specs.WithTerritories.{admission_with}
use Rattle.rules.specs.Claims.{InOrder, Checks}
use Rattle.rules.proofs.Joined.{length-findings}
use Rattle.rules.proofs.Each.{pairs-counted, verdicts-each, findings-each}

-- ---- 1 to 10, before any buffer is looked at

-- the tolerance and the tables are in order
pub record Orderly (tables : Tables) (t : ℕ) : Type 0 where
  pub tolerance : t ≤ largest_tolerance
  pub languages : right_table language_size tables.languages ≡ true
  pub societies : right_table society_size tables.societies ≡ true
  pub categories : right_table category_size tables.categories ≡ true

module _ (tables : Tables) (t : ℕ) (rest : Answer) where
  -- then what follows decides
  lent-orderly : Orderly tables t → lent_right tables t rest ≡ rest
  lent-orderly o =
      untested 1 0 (leb t largest_tolerance) _ (le→leb t largest_tolerance o.tolerance)
      ∙ untested 2 _ (right_table language_size tables.languages) _ (is_T _ o.languages)
      ∙ untested 2 _ (right_table society_size tables.societies) _ (is_T _ o.societies)
      ∙ untested 2 _ (right_table category_size tables.categories) _ (is_T _ o.categories)

  -- and nothing passes else
  pub lent-passed : (k m n : ℕ) → lent_right tables t rest ≡ passed k m n → Orderly tables t × (rest ≡ passed k m n)
  lent-passed k m n e =
      let (tolerance, e1) = tested 1 0 (leb t largest_tolerance) _ k m n e in
      let (languages, e2) = tested 2 _ (right_table language_size tables.languages) _ k m n e1 in
      let (societies, e3) = tested 2 _ (right_table society_size tables.societies) _ k m n e2 in
      let (categories, e4) = tested 2 _ (right_table category_size tables.categories) _ k m n e3 in (
        record {
          tolerance = leb→le t largest_tolerance tolerance;
          languages = is_true _ languages;
          societies = is_true _ societies;
          categories = is_true _ categories;
        },
        e4,
      )

module _ (tables : Tables) (t : ℕ) (f : Bytes) where
  -- the structure decides
  pub orderly : Orderly tables t → admission tables t f ≡ structure cwr22 f
  unfolding admission
  orderly = lent-orderly tables t (structure cwr22 f)

  -- nothing is let in else, and what is has the structure's numbers
  pub admitted : (k m n : ℕ) → admission tables t f ≡ passed k m n → Orderly tables t × (structure cwr22 f ≡ passed k m n)
  unfolding admission
  admitted = lent-passed tables t (structure cwr22 f)

  -- nor with a territory table, which is then right too
  pub admitted-with : (table : Bytes) (k m n : ℕ) → admission_with tables table t f ≡ passed k m n
      → Orderly tables t × (right_territories table ≡ true) × (structure cwr22 f ≡ passed k m n)
  unfolding admission_with
  admitted-with table k m n e =
      let (o, after) = lent-passed tables t (refusal 13 (unless (right_territories table) 0) (structure cwr22 f)) k m n e in
      let (right, s) = tested 13 0 (right_territories table) (structure cwr22 f) k m n after in
      (o, is_true _ right, s)

  -- a refusal on structure is the structure's
  pub admission-structural : (n i : ℕ) → admission tables t f ≡ refused n i → T (is_structural n) → structure cwr22 f ≡ refused n i
  unfolding admission
  admission-structural n i e s =
      let after = later n i s in
      after 2 _ (right_table category_size tables.categories) _ (λ x. x)
      (after 2 _ (right_table society_size tables.societies) _ (λ x. x)
      (after 2 _ (right_table language_size tables.languages) _ (λ x. x)
      (after 1 0 (leb t largest_tolerance) _ (λ x. x) e)))

  -- a place is at most 2, or it is the structure's
  pub admission-near : Near (admission tables t f)
  unfolding admission
  admission-near =
      near 1 _ _ (unless-within (leb t largest_tolerance) 0 (omega arith))
      (near 2 _ _ (unless-within (right_table language_size tables.languages) _ (omega arith))
      (near 2 _ _ (unless-within (right_table society_size tables.societies) _ (omega arith))
      (near 2 _ _ (unless-within (right_table category_size tables.categories) _ (omega arith))
      (nearby-22 f).0)))

-- ---- and 11

-- it alone comes after what the admission says
pub room-else : (room : ℕ → Bool) (b a : Answer) → in_room room b ≡ a → a ≢ refused 11 0 → b ≡ a
room-else room (refused n i) a e h = e
room-else room (passed g m n) a e h = go (room n) e
  where
    go : (b : Bool) → refusal 11 (unless b 0) (passed g m n) ≡ a → passed g m n ≡ a
    go true q = q
    go false q = absurd (h (sym q))

module _ (tables : Tables) (t : ℕ) (f v g : Bytes) where
  abbrev given : Answer
  given = answer tables t f (length v) (length g)

  -- with all in order the structure decides
  pub in_order : InOrder tables t f v g → given ≡ structure cwr22 f
  unfolding answer
  in_order o =
      let lent : Orderly tables t =
      record { tolerance = o.tolerance; languages = o.languages; societies = o.societies; categories = o.categories } in
      ap (in_room (enough (length v) (length g))) (orderly tables t f lent) ∙ in-room (enough (length v) (length g)) (structure cwr22 f) room
    where
      room : (k m n : ℕ) → structure cwr22 f ≡ passed k m n → T (enough (length v) (length g) n)
      room k m n e =
          let same = pairs-counted f k m n e in
          both (leb n (length v)) (leb (8 * n) (length g))
          (le→leb n (length v) (rw same at o.in_v))
          (le→leb (8 * n) (length g) (rw same at o.in_f))

  structural : (n i : ℕ) → given ≡ refused n i → T (is_structural n) → structure cwr22 f ≡ refused n i
  unfolding answer
  structural n i e s = admission-structural tables t f n i (room-later n i s (enough (length v) (length g)) (admission tables t f) e) s

  given-near : Near given
  unfolding answer
  given-near = room-near (enough (length v) (length g)) (admission tables t f) (admission-near tables t f)

  module _ (k m n : ℕ) (e : given ≡ passed k m n) where
    -- nothing passes unless it is let in, with the same numbers, and has room
    pub passed-admitted : (admission tables t f ≡ passed k m n) × T (enough (length v) (length g) n)
    unfolding answer
    passed-admitted = room-passed (enough (length v) (length g)) (admission tables t f) k m n e

    -- so all is in order and the structure passes
    pub passed-order : InOrder tables t f v g × (structure cwr22 f ≡ passed k m n)
    passed-order =
        let (let-in, room) = passed-admitted in
        let (o, s) = admitted tables t f k m n let-in in
        let same = pairs-counted f k m n s in (
          record {
            tolerance = o.tolerance;
            languages = o.languages;
            societies = o.societies;
            categories = o.categories;
            in_v = rw same (leb→le n (length v) (left (leb n (length v)) (leb (8 * n) (length g)) room));
            in_f = rw same (leb→le (8 * n) (length g) (right (leb n (length v)) (leb (8 * n) (length g)) room));
          },
          s,
        )

    -- so many bytes go into the buffers, and they have room
    verdicts-count : length (file_verdicts tables t (content f)) ≡ n
    verdicts-count = verdicts-each f k m n passed-order.1 tables t

    sets-count : length (file_findings tables t (content f)) ≡ n
    sets-count = findings-each f k m n passed-order.1 tables t

    findings-count : length (finding_bytes (file_findings tables t (content f))) ≡ 8 * n
    findings-count = length-findings (file_findings tables t (content f)) ∙ ap (λ r. 8 * r) sets-count

    verdicts-fit : length (file_verdicts tables t (content f)) ≤ length v
    verdicts-fit = rw (verdicts-count, ← pairs-counted f k m n passed-order.1) passed-order.0.in_v

    findings-fit : length (finding_bytes (file_findings tables t (content f))) ≤ length g
    findings-fit = rw (findings-count, ← pairs-counted f k m n passed-order.1) passed-order.0.in_f

-- ---- by which numbers a call is refused: by 1 where the tolerance is too large, and else by 2 to 10, and 11

module _ (P : ℕ → Type 0) where
  test_by : (n i : ℕ) (b : Bool) (a : Answer) → (b ≡ false → P n) → By P a → By P (refusal n (unless b i) a)
  test_by n i true a p h = h
  test_by n i false a p h = p refl

  module _ (tables : Tables) (t : ℕ) (p1 : leb t largest_tolerance ≡ false → P 1) (p2 : P 2) where
    pub lent_by : (rest : Answer) → By P rest → By P (lent_right tables t rest)
    lent_by rest h =
        test_by 1 0 (leb t largest_tolerance) _ p1
        (refusal-by P 2 (unless (right_table language_size tables.languages) _) _ p2
        (refusal-by P 2 (unless (right_table society_size tables.societies) _) _ p2
        (refusal-by P 2 (unless (right_table category_size tables.categories) _) rest p2 h)))

  module _ (tables : Tables) (t : ℕ) (f : Bytes) (p1 : leb t largest_tolerance ≡ false → P 1)
      (rest : All P (2 ∷ 3 ∷ 4 ∷ 5 ∷ 6 ∷ 7 ∷ 8 ∷ 9 ∷ 10 ∷ [])) where
    pub admission-by : By P (admission tables t f)
    unfolding admission
    admission-by = lent_by tables t p1 rest.0 (structure cwr22 f) (structure-by cwr22 P rest.1 f)

    answer-by : (v g : ℕ) → P 11 → By P (answer tables t f v g)
    unfolding answer
    answer-by v g p11 = room_by P (enough v g) (admission tables t f) p11 admission-by

-- the short form's tolerance is not too large
not-by-1 : (tables : Tables) (f : Bytes) (v g : ℕ) → By (λ n. n ≢ 1) (answer tables short_tolerance f v g)
not-by-1 tables f v g =
    answer-by (λ n. n ≢ 1) tables short_tolerance f (λ e. absurd (false≢true (sym e))) (omega arith) v g (omega arith)

by-1-to-11 : (tables : Tables) (t : ℕ) (f : Bytes) (v g : ℕ) → By (λ n. (1 ≤ n) × (n ≤ 11)) (answer tables t f v g)
by-1-to-11 tables t f v g = answer-by (λ n. (1 ≤ n) × (n ≤ 11)) tables t f (λ e. (omega arith, omega arith)) (omega arith) v g (omega arith)

-- ---- the claims

pub checks : Checks
unfolding check
checks = record {
  exactly = λ tables t f v g o l. (
    λ (k, m, n, e). ((demand3-22.exactly f).0 (k, m, n, sym (in_order tables t f v g o) ∙ e)).1,
    λ c. let (k, m, n, e) = (demand3-22.exactly f).1 (l, c) in (k, m, n, in_order tables t f v g o ∙ e),
  );
  else_refused = λ tables t f v g o l. (
    λ (n, i, e) c. let (k, m, r, p) = (demand3-22.exactly f).1 (l, c) in never_both n i k m r (sym (in_order tables t f v g o) ∙ e) p,
    λ h. let (n, i, e, _) = (demand3-22.else_refused f l).1 h in (n, i, in_order tables t f v g o ∙ e),
  );
  never_otherwise = λ tables t f v g n i e s. demand3-22.never_otherwise f (n, i, structural tables t f v g n i e s, s);
  counts = λ tables t d v g o l w. in_order tables t (write d) v g o ∙ demand3-22.counts d w l;
  no_other = λ tables t f v g (k, m, n, e).
      let (o, p) = passed-order tables t f v g k m n e in
      (o, ((demand3-22.exactly f).0 (k, m, n, p)).0);
  untouched = λ tables t f v g n i e. rw e (refl, refl);
  entries = λ tables t f v g k m n e.
      rw e (
        left-front k m n n (file_verdicts tables t (content f)) v (verdicts-count tables t f v g k m n e),
        left-front k m n (8 * n) (finding_bytes (file_findings tables t (content f))) g (findings-count tables t f v g k m n e),
      );
  one_each = λ tables t f v g k m n e. (verdicts-count tables t f v g k m n e, sets-count tables t f v g k m n e);
  beyond = λ tables t f v g k m n e.
      rw e (
        left-beyond k m n n (file_verdicts tables t (content f)) v (verdicts-count tables t f v g k m n e),
        left-beyond k m n (8 * n) (finding_bytes (file_findings tables t (content f))) g (findings-count tables t f v g k m n e),
      );
  as_long = λ tables t f v g. (left-length _ _ v (verdicts-fit tables t f v g), left-length _ _ g (findings-fit tables t f v g));
  short_form = λ tables f v g i e. refused-by (λ n. n ≢ 1) 1 i (not-by-1 tables f (length v) (length g)) e refl;
  numbers = λ tables t f v g n i. refused-by (λ k. (1 ≤ k) × (k ≤ 11)) n i (by-1-to-11 tables t f (length v) (length g));
  near = given-near;
}
