-- The answer of a check and what it left in the two buffers make the listing. Assumes nothing.
use Prim.Native.Nat.{ℕ, ◌*◌, ◌<◌, ◌≤◌}
use native.Mathlib.Omega.{arith}
use mathlib.Core.Path.{◌≡◌, refl, sym, ap, ◌∙◌}
use mathlib.Core.Bool.{true, false≢true}
use mathlib.Core.List.{[], ◌∷◌, ◌++◌}
use lib.ListN.{length, drop}
use borrow.Author.Tests.{le-leb, lt-leb}
use Rattle.format.specs.Ascii.{ascii}
use Rattle.format.specs.Bytes.{Bytes}
use Rattle.format.specs.Lines.{lines}
use Rattle.format.specs.Structure.{Answer, refused, passed, most_records}
use Rattle.format.specs.Numbering.{records_in}
use Rattle.format.specs.Lent.{left_in}
use Rattle.rules.specs.Tables.{Tables}
use Rattle.rules.specs.Values.{largest_tolerance}
use Rattle.rules.specs.Verdicts.{finding_bytes, file_findings, file_verdicts}
use Rattle.rules.specs.Outcome.{Outcome, answer, content, check}
use Rattle.rules.specs.Listing.{answer_line, record_lines, listed_after, listed, most_input, listing_tables, listing}
use Rattle.rules.specs.Claims.{InOrder}
use Rattle.rules.proofs.Each.{records-counted}
use Rattle.rules.proofs.Outcomes.{passed-order, checks}
use Rattle.admission.proofs.Fit.{Fit}
use Rattle.transactions.specs.Walk.{rest_at, Room}
use Rattle.answers.specs.Numbers.{is_passed}
use Rattle.cwr.proofs.Outcomes.{fit, splice_front}
use Rattle.lister.specs.Promises.{Listed}
use Rattle.lister.specs.declared.Page.{Page}
use Rattle.lister.specs.Put.{Put}
use Rattle.lister.specs.Read.{Listable, lines_from}
use Rattle.lister.proofs.Back.{listed_back}
use Rattle.lister.proofs.Small.{small-file}

-- ---- any file

-- a check of f with buffers v₀ and g₀ answered a, and left v and g
module _ (tables : Tables) (t : ℕ) (f v₀ g₀ : Bytes) (a : Answer) (v g : Bytes)
    (is : record { answer = a; verdicts = v; findings = g } ≡ check tables t f v₀ g₀) where
  is-answer : a ≡ (check tables t f v₀ g₀).answer
  is-answer = ap (λ (o : Outcome). o.answer) is

  told : a ≡ answer tables t f (length v₀) (length g₀)
  unfolding check
  told = is-answer

  left-v : v ≡ left_in a (file_verdicts tables t (content f)) v₀
  unfolding check
  left-v = ap (λ (o : Outcome). o.verdicts) is ∙ rw (← told)

  left-g : g ≡ left_in a (finding_bytes (file_findings tables t (content f))) g₀
  unfolding check
  left-g = ap (λ (o : Outcome). o.findings) is ∙ rw (← told)

  in_room : (b : Answer) → b ≡ answer tables t f (length v₀) (length g₀) → is_passed b ≡ true
      → InOrder tables t f v₀ g₀ × Fit f × Room (length (rest_at f 0)) (length v₀) (length g₀)
  in_room (refused n i) e p = absurd (false≢true p)
  in_room (passed k m n) e p = fit tables t f v₀ g₀ e

  pub can-list : is_passed a ≡ true → Listable f v g
  can-list e =
      let (_, h, room) = in_room a told e in
      let same = checks.as_long tables t f v₀ g₀ in
      record {
        here = h.here;
        in_v = omega (arith, room.in_v, same.0, ap (λ (o : Outcome). length o.verdicts) is);
        in_g = omega (arith, room.in_f, same.1, ap (λ (o : Outcome). length o.findings) is);
      }

  -- the lines that the buffers give are those of the definition
  abbrev text : Bytes
  text = record_lines 0 (records_in (lines f)) (file_verdicts tables t (content f)) (file_findings tables t (content f))

  same_lines : (k m n : ℕ) → a ≡ passed k m n → lines_from v g 0 (records_in (lines f)) ≡ text
  same_lines k m n e =
      let (order, right) = passed-order tables t f v₀ g₀ k m n (sym told ∙ e) in
      let (each-v, each-g) = checks.one_each tables t f v₀ g₀ k m n (sym is-answer ∙ e) in
      let all = sym (records-counted f k m n right) in
      rw (left-v, left-g, e)
      (listed_back (records_in (lines f)) (file_verdicts tables t (content f)) (file_findings tables t (content f)) _ _
      (each-v ∙ all) (each-g ∙ all) (small-file tables t (content f)))

  pub is-listed : length v₀ ≡ most_records → length g₀ ≡ 8 * most_records
      → answer_line a ++ listed_after a (lines_from v g 0 (records_in (lines f))) ≡ listed tables t f
  unfolding listed
  is-listed in-v in_g = go a refl ∙ rw (← in-v, ← in_g, ← told)
    where
      go : (b : Answer) → a ≡ b
          → answer_line b ++ listed_after b (lines_from v g 0 (records_in (lines f))) ≡ answer_line b ++ listed_after b text
      go (refused n i) q = refl
      go (passed k m n) q = ap (λ (x : Bytes). answer_line (passed k m n) ++ x) (same_lines k m n q)

-- ---- an input of any length

-- text that is put first on a page
front : {x : Bytes} {p q : Page} → p.at ≡ 0 → Put x p q → (q.at ≡ length x) × (q.out.now ≡ x ++ drop q.at p.out.now)
front {x} {p} {q} start h =
    let whole : q.at ≡ length x = omega (arith, h.after) in
    (whole, h.text ∙ rw (start, whole) (splice_front x p.out.now))

pub short-listed : {p q : Page} (f : Bytes) → length f ≤ most_input → p.at ≡ 0 → Put (listed listing_tables largest_tolerance f) p q
    → Listed f p.out.now q.at q.out.now
unfolding listing
short-listed f h start k = rw (le-leb (length f) most_input h) (front start k)

pub long-listed : {p q : Page} (f : Bytes) → most_input < length f → p.at ≡ 0 → Put (ascii "INPUT TOO LONG" ++ 10 ∷ []) p q
    → Listed f p.out.now q.at q.out.now
unfolding listing
long-listed f h start k = rw (lt-leb (length f) most_input h) (front start k)
