-- Laws of a buffer that is written line by line, and of a line with its numbers. Assumes nothing.
use Prim.Native.Nat.{ℕ, ◌+◌, ◌-◌, ◌≤◌, ◌<◌}
use native.Mathlib.Omega.{arith}
use mathlib.Core.Path.{◌≡◌, refl, sym, ap, ◌∙◌}
use mathlib.Core.Bool.{true}
use mathlib.Core.List.{List, [], ◌∷◌, ◌++◌, map, append_assoc, append-nil}
use lib.ListN.{length, take, drop, drop_of_length-le, length-append, take-append-drop}
use lib.Seq.{length-take-le, take-append-le, drop-append-le, take_at}
use borrow.Rule.Slice.PartMut.{put_mid, same_len_mid, mid_len, Post-is, drop_put}
use Rattle.format.specs.Bytes.{Bytes, unlines, put}
use Rattle.format.specs.Table.{Class, start, at, width}
use Rattle.format.specs.Cwr22.{cwr22}
use Rattle.format.specs.Lines.{lines}
use Rattle.format.specs.Checks.{Counts, none_counted, count, expected, cut, cls, check6, Along}
use Rattle.format.specs.Numbering.{number, held, records_in, numbered_file}
use Rattle.format.proofs.Slots.{overwritten}
use Rattle.kinds.specs.Rows.{class_in, row_for, shape_of}
use Rattle.kinds.specs.declared.Class.TheVariants.{Unknown}
use Rattle.kinds.specs.declared.Row.{Row}
use Rattle.kinds.specs.declared.Shape.{Shape}
use Rattle.lines.specs.Scan.{text_length}
use Rattle.counts.specs.Counting.{counts_in}
use Rattle.structure.specs.Rest.{is_good}
use Rattle.structure.specs.Walk.{Bounded, Next}
use Rattle.structure.specs.declared.standing.Stand.{Stand}
use Rattle.structure.proofs.Turns.{bounded-start, bounded-on}
use Rattle.structure.proofs.Cursor.{to_end}
use Rattle.structure.proofs.Here.{record_at, fits, here-three, long, records-here, fine-after, all_after, line-here, row-size, row-numbers, row_is}
use Rattle.numbering.specs.Fill.{Sized}

-- ---- a buffer with ys in the place of what stood from i to e

module _ (out ys : Bytes) (i e : ℕ) (h : i ≤ e) (g : e ≤ length out) (l : length ys ≡ e - i) where
  written : take e (put_mid i (e - i) out ys) ≡ take i out ++ ys
  written =
      let q : length (take i out ++ ys) ≡ e = simp (length-append, length-take-le i out (omega arith), l) (omega arith) in
      rw (← append_assoc (take i out) ys (drop (e - i) (drop i out))) (take_at (take i out ++ ys) _ e q)

  length-written : length (put_mid i (e - i) out ys) ≡ length out
  length-written = same_len_mid i (e - i) out ys (l ∙ sym (mid_len i e out g))

  rest-kept : (o : Bytes) → drop i out ≡ drop i o → drop e (put_mid i (e - i) out ys) ≡ drop e o
  rest-kept o q = drop_put i e out ys h g l ∙ sym (Post-is i e out h) ∙ ap (drop (e - i)) q ∙ Post-is i e o h

-- ---- the numbers of a line do not reach its CR LF

line-numbered : (r : Bytes) (c : Class) (x : Bytes) → at c + width c ≤ length r
    → take (at c) (r ++ 13 ∷ 10 ∷ []) ++ x ++ drop (at c + width c) (r ++ 13 ∷ 10 ∷ []) ≡ put (start c) x (cut c r) ++ 13 ∷ 10 ∷ []
line-numbered r c x h =
    let k : at c ≤ length r = omega arith in
    rw (take-append-le (at c) r (13 ∷ 10 ∷ []) k, drop-append-le (at c + width c) r (13 ∷ 10 ∷ []) h, overwritten (at c) (width c) x r k)
    (sym (append_assoc (take (at c) r ++ x) (drop (at c + width c) r) (13 ∷ 10 ∷ [])))

-- one numbered line more in front, and one fewer to write
owed-turn : (front ys : Bytes) (n : Counts) (r : Bytes) (rs : List Bytes) (all : Bytes)
    → ys ≡ put (start (cls cwr22 r)) (expected n (cls cwr22 r)) (cut (cls cwr22 r) r) ++ 13 ∷ 10 ∷ []
    → front ++ unlines (number n (map (held cwr22) (r ∷ rs))) ≡ all
    → (front ++ ys) ++ unlines (number (count n (cls cwr22 r)) (map (held cwr22) rs)) ≡ all
owed-turn front ys n r rs all w e =
    let u = unlines (number (count n (cls cwr22 r)) (map (held cwr22) rs)) in
    let p = put (start (cls cwr22 r)) (expected n (cls cwr22 r)) (cut (cls cwr22 r) r) in
    append_assoc front ys u ∙ ap (λ (x : Bytes). front ++ (x ++ u)) w ∙ ap (λ (x : Bytes). front ++ x) (append_assoc p (13 ∷ 10 ∷ []) u) ∙ e

-- ---- what the walk keeps: the buffer's front and the numbered rest are the numbered file, and what lies after is as it was

pub record Filling (f old : Bytes) (out : Bytes) (s : Stand) : Type 0 where
  pub bounded : Bounded f s
  pub fine : is_good (lines (drop s.at f)) ≡ true
  pub all : Along (check6 cwr22) (records_in (lines (drop s.at f)))
  pub same : length out ≡ length old
  pub owed : take s.at out ++ unlines (number (counts_in s.counts) (map (held cwr22) (records_in (lines (drop s.at f))))) ≡ numbered_file cwr22 f
  pub kept : drop s.at out ≡ drop s.at old

pub filling-start : (f old : Bytes) → Sized f → (s : Stand) → (s.at ≡ 0) × (s.class ≡ Unknown) → counts_in s.counts ≡ none_counted → Filling f old old s
unfolding numbered_file
filling-start f old sized s e n =
    record {
      bounded = bounded-start f s e;
      fine = rw e.0 sized.fine;
      all = rw e.0 sized.typed;
      same = refl;
      owed = rw (e.0, n);
      kept = refl;
    }

pub filling-end : {f old out : Bytes} {s : Stand} → Filling f old out s → length f ≤ s.at → out ≡ numbered_file cwr22 f ++ drop (length f) old
unfolding lines
filling-end {f} {old} {out} {s} F h =
    let e : s.at ≡ length f = omega (arith, F.bounded.inside) in
    let front : take s.at out ≡ numbered_file cwr22 f = sym (append-nil (take s.at out)) ∙ (rw (drop_of_length-le f h) at F.owed) in
    sym (take-append-drop s.at out) ∙ rw (front, F.kept, e)

-- three bytes stand there, at the least
pub three_bytes : {f old out : Bytes} {s : Stand} → Filling f old out s → s.at < length f → s.at + 3 ≤ length f
three_bytes {f} {s = s} F here = omega (arith, here-three f s.at here F.fine F.all, fits f s.at here F.fine)

module _ {f old out : Bytes} {s : Stand} (F : Filling f old out s) (here : s.at < length f)
    {shape : Shape} (found : shape ≡ shape_of (row_for (take 3 (take (length f - s.at) (drop s.at f))))) where
  abbrev row : Row
  row = row_for (take 3 (drop s.at f))

  its : shape ≡ shape_of row
  its = found ∙ ap (λ (r : Bytes). shape_of (row_for (take 3 r))) (to_end f s.at)

  placed : shape.class ≡ row.class
  placed = ap (λ (x : Shape). x.class) its

  pub size : shape.length ≡ text_length (drop s.at f)
  size = ap (λ (x : Shape). x.length) its ∙ row-size f s.at here F.fine F.all row refl

  -- the end of its line, of whose length the code has the number n
  pub ends : {n : ℕ} → n ≡ shape.length → s.at + n + 2 ≤ length f
  ends e = rw (e, size) (fits f s.at here F.fine)

  numbers_fit : at (class_in shape.class) + width (class_in shape.class) ≤ length (record_at f s.at)
  numbers_fit = rw placed (row-numbers f s.at here F.fine F.all row refl)

  pub room : at (class_in shape.class) + width (class_in shape.class) ≤ shape.length
  room = omega (arith, numbers_fit, long f s.at here F.fine, size)

  class-here : class_in shape.class ≡ cls cwr22 (record_at f s.at)
  class-here = ap class_in placed ∙ row_is f s.at here F.fine F.all row refl

  -- the bytes written, and after them the numbered rest
  module _ (e : ℕ) (q : e ≡ s.at + shape.length + 2) (ys : Bytes)
      (w : ys
      ≡ take (at (class_in shape.class)) (take (e - s.at) (drop s.at f))
      ++ expected (counts_in s.counts) (class_in shape.class)
      ++ drop (at (class_in shape.class) + width (class_in shape.class)) (take (e - s.at) (drop s.at f))) where
    next_here : e ≡ s.at + text_length (drop s.at f) + 2
    next_here = q ∙ ap (λ (n : ℕ). s.at + n + 2) size

    line : ys
        ≡ put (start (cls cwr22 (record_at f s.at)))
        (expected (counts_in s.counts) (cls cwr22 (record_at f s.at)))
        (cut (cls cwr22 (record_at f s.at)) (record_at f s.at))
        ++ 13 ∷ 10 ∷ []
    line =
        let n : e - s.at ≡ text_length (drop s.at f) + 2 = omega (arith, next_here) in
        let whole = rw (n, line-here f s.at here F.fine) at w in
        whole
        ∙ line-numbered (record_at f s.at) (class_in shape.class) (expected (counts_in s.counts) (class_in shape.class)) numbers_fit
        ∙ rw class-here

    owed-on : (take s.at out ++ ys)
        ++ unlines (number (count (counts_in s.counts) (class_in shape.class)) (map (held cwr22) (records_in (lines (drop e f)))))
        ≡ numbered_file cwr22 f
    owed-on =
        rw (class-here, next_here)
        (owed-turn (take s.at out) ys (counts_in s.counts) (record_at f s.at)
        (records_in (lines (drop (s.at + text_length (drop s.at f) + 2) f))) (numbered_file cwr22 f) line
        (rw (records-here f s.at here F.fine) at F.owed))

    pub filling-on : length f ≤ length out → length ys ≡ e - s.at → (next : Stand) → Next s shape.length shape.class next
        → Filling f old (put_mid s.at (e - s.at) out ys) next
    filling-on g l next x =
        record {
          bounded = bounded-on f s shape.length shape.class next F.bounded (ends refl) x;
          fine = rw (there, next_here) (fine-after f s.at here F.fine);
          all = rw (there, next_here) (all_after f s.at here F.fine F.all);
          same = length-written out ys s.at e inside fit l ∙ F.same;
          owed = rw (there, x.counts, written out ys s.at e inside fit l) owed-on;
          kept = rw there (rest-kept out ys s.at e inside fit l old F.kept);
        }
      where
        there : next.at ≡ e
        there = x.at ∙ sym q

        inside : s.at ≤ e
        inside = omega (arith, q)

        fit : e ≤ length out
        fit = omega (arith, q, ends refl)
