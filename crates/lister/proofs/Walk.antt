-- What a walk over the records keeps: the lines that are written, and those that are still to come, are the lines of all. Assumes nothing.
use Prim.Native.Nat.{ℕ, suc, ◌+◌, ◌-◌, ◌*◌, ◌<◌, ◌≤◌}
use native.Mathlib.Numerals.{add-one}
use native.Mathlib.Omega.{arith}
use mathlib.Core.Path.{◌≡◌, refl, sym, ap, ◌∙◌}
use mathlib.Core.Bool.{Bool, true}
use mathlib.Core.List.{List, [], ◌∷◌, ◌++◌, append_assoc, append-nil}
use lib.ListN.{length, take, drop, get_or, drop_of_length-le}
use lib.Seq.{take-take, drop-drop, drop-cons}
use Rattle.format.specs.Bytes.{Bytes}
use Rattle.format.specs.Cwr22.{cwr22}
use Rattle.format.specs.Lines.{lines}
use Rattle.format.specs.Checks.{check6, Along}
use Rattle.format.specs.Numbering.{records_in}
use Rattle.rules.specs.Findings.{places}
use Rattle.rules.specs.Listing.{record_line}
use Rattle.text.specs.Words.{word_of}
use Rattle.lines.specs.Scan.{text_length}
use Rattle.structure.specs.Rest.{is_good}
use Rattle.structure.proofs.Here.{record_at, fits, here-three, records-here, fine-after, all_after}
use Rattle.lister.specs.declared.Page.{Page}
use Rattle.lister.specs.Put.{Room, Put, Adds}
use Rattle.lister.specs.Read.{Listable, first_set, line_at, lines_from}
use Rattle.lister.proofs.Words.{nothing_put, then}

-- the records of a file from a byte on
abbrev rest_at : Bytes → ℕ → List Bytes
rest_at f i = records_in (lines (drop i f))

pub record Going (f v g : Bytes) (p q : Page) (i n : ℕ) : Type 0 where
  pub within : i ≤ length f
  pub fine : is_good (lines (drop i f)) ≡ true
  pub all : Along (check6 cwr22) (rest_at f i)
  pub in_v : n + length (rest_at f i) ≤ length v
  pub in_g : 8 * (n + length (rest_at f i)) ≤ length g
  pub done : Bytes
  pub put : Put done p q
  pub owed : done ++ lines_from v g n (rest_at f i) ≡ lines_from v g 0 (records_in (lines f))
  pub few : q.at ≤ p.at + 10 * i

-- ---- the first of some lines

-- of a record only the type is listed
by-type : (n : ℕ) (r : Bytes) (v : ℕ) (s : List Bool) → record_line n (take 3 r) v s ≡ record_line n r v s
unfolding record_line
by-type n r v s = rw (take-take 3 3 r (omega arith))

first-line : (v g : Bytes) (n : ℕ) (r : Bytes) (rs : List Bytes) → n < length v
    → lines_from v g n (r ∷ rs) ≡ record_line n r (get_or v n 0) (first_set (drop (8 * n) g)) ++ lines_from v g (n + 1) rs
unfolding lines_from
first-line v g n r rs h =
    let e : 8 * (n + 1) ≡ 8 * n + 8 = omega arith in
    rw (drop-cons v n 0 h, e, ← drop-drop 8 (8 * n) g, add-one)

-- and as it was put
pub line-put : {p q : Page} (f : Bytes) (i n : ℕ) (v g : Bytes) (x w : ℕ)
    → x ≡ word_of (take (8 * n + 8 - 8 * n) (drop (8 * n) g)) → w ≡ get_or v n 0
    → Put (record_line n (take (i + 3 - i) (drop i f)) w (places 64 x)) p q → Put (line_at f i n v g) p q
line-put f i n v g x w is_set is-verdict h =
    let eight : 8 * n + 8 - 8 * n ≡ 8 = omega arith in
    let three : i + 3 - i ≡ 3 = omega arith in
    rw (is_set, eight, is-verdict, three) at h

-- ---- start and end

pub going_start : (f v g : Bytes) (p : Page) → Listable f v g → Room (10 * length f) p → Going f v g p p 0 0
going_start f v g p l room =
    record {
      within = omega arith;
      fine = l.here.good;
      all = l.here.typed;
      in_v = omega (arith, l.in_v);
      in_g = omega (arith, l.in_g);
      done = [];
      put = nothing_put p (omega arith);
      owed = refl;
      few = omega arith;
    }

pub going_end : {f v g : Bytes} {p q : Page} {i n : ℕ} → Going f v g p q i n → length f ≤ i
    → Put (lines_from v g 0 (records_in (lines f))) p q
unfolding lines lines_from
going_end {f} {v} {g} G h =
    let e : G.done ≡ lines_from v g 0 (records_in (lines f)) = sym (append-nil G.done) ∙ (rw (drop_of_length-le f h) at G.owed) in
    rw e at G.put

-- ---- one record more

module _ {f v g : Bytes} {p q : Page} {i n : ℕ} (G : Going f v g p q i n) (here : i < length f) where
  -- its three bytes of type, and CR LF
  pub five-bytes : i + 5 ≤ length f
  five-bytes = omega (arith, here-three f i here G.fine G.all, fits f i here G.fine)

  one_more : length (rest_at f i) ≡ suc (length (rest_at f (i + text_length (drop i f) + 2)))
  one_more = ap length (records-here f i here G.fine)

  pub verdict-there : n < length v
  verdict-there = omega (arith, one_more, G.in_v)

  pub set_there : 8 * (n + 1) ≤ length g
  set_there = omega (arith, one_more, G.in_g)

  pub next-within : i + text_length (drop i f) + 2 ≤ length f
  next-within = fits f i here G.fine

  -- the line of this record, and the lines after it
  split : lines_from v g n (rest_at f i) ≡ line_at f i n v g ++ lines_from v g (n + 1) (rest_at f (i + text_length (drop i f) + 2))
  split =
      ap (lines_from v g n) (records-here f i here G.fine)
      ∙ first-line v g n (record_at f i) (rest_at f (i + text_length (drop i f) + 2)) verdict-there
      ∙ ap (λ (l : Bytes). l ++ lines_from v g (n + 1) (rest_at f (i + text_length (drop i f) + 2))) same_line
    where
      set : List Bool
      set = first_set (drop (8 * n) g)

      same_line : record_line n (record_at f i) (get_or v n 0) set ≡ line_at f i n v g
      same_line =
          sym (by-type n (record_at f i) (get_or v n 0) set)
          ∙ ap (λ (t : Bytes). record_line n t (get_or v n 0) set)
          (take-take 3 (text_length (drop i f)) (drop i f) (here-three f i here G.fine G.all))

  pub going_on : (j : ℕ) → j ≡ i + text_length (drop i f) → (r : Page) → Adds 48 (line_at f i n v g) q r → Going f v g p r (j + 2) (n + 1)
  going_on j e r w =
      rw e
      record {
        within = next-within;
        fine = fine-after f i here G.fine;
        all = all_after f i here G.fine G.all;
        in_v = omega (arith, one_more, G.in_v);
        in_g = omega (arith, one_more, G.in_g);
        done = G.done ++ line_at f i n v g;
        put = then G.put w.0;
        owed = append_assoc G.done (line_at f i n v g) _ ∙ ap (λ (l : Bytes). G.done ++ l) (sym split) ∙ G.owed;
        few = omega (arith, G.few, w.1, here-three f i here G.fine G.all);
      }
