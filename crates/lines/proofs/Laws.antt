-- Laws of text, of CR LF pairs and of lines, over plain lists and places in them. Assumes nothing.
use Rattle.std.specs.Prelude.{Result, Ok, Err}
use mathlib.Core.Path.{◌≡◌, refl, sym, ap, ◌∙◌}
use mathlib.Core.Bool.{Bool, true, false, ◌&&◌, cond, and-true, and_assoc, and_comm, and_self_left, and-eq-true_iff, false≢true}
use mathlib.Core.List.{[], ◌∷◌, ◌++◌, append-nil}
use Prim.Native.Nat.{ℕ, suc, ◌+◌, ◌-◌, ◌<◌, ◌≤◌}
use native.Mathlib.Numerals.{add-one}
use native.Mathlib.Omega.{arith}
use borrow.Author.Tests.{eqb-true}
use lib.Dec.{T, eqb}
use lib.ListN.{length, get_or, take, drop, drop_of_length-le, length-drop, take-append-drop}
use lib.Seq.{take-suc, take-add, drop-drop}
use Rattle.format.specs.Bytes.{Bytes, every, is_text, Text, begins_pair}
use Rattle.format.specs.Lines.{Lines, good, bad, lines}
use Rattle.format.proofs.Lines.{onto, lines_cons, lines_left, lines-fault}
use Rattle.lines.specs.Scan.{text_length, scanned}

-- ---- a test of every byte

pub every-text : (r : Bytes) → every is_text r ≡ true → Text r
every-text [] e = tt
every-text (b ∷ r) e = let h = (and-eq-true_iff (is_text b) (every is_text r)).0 e in (rw h.0 tt, every-text r h.1)

module _ (p : ℕ → Bool) where
  every_append : (xs ys : Bytes) → every p (xs ++ ys) ≡ (every p xs && every p ys)
  every_append [] ys = refl
  every_append (x ∷ xs) ys = rw (every_append xs ys, and_assoc)

  every-split : (n : ℕ) (l : Bytes) → every p l ≡ (every p (take n l) && every p (drop n l))
  every-split n l = ap (every p) (sym (take-append-drop n l)) ∙ every_append (take n l) (drop n l)

  -- one byte more
  pub every-next : (l : Bytes) (k : ℕ) → k < length l → (every p (take k l) && p (get_or l k 0)) ≡ every p (take (k + 1) l)
  every-next l k h = rw (add-one, take-suc l k 0, every_append, and-true)

  -- one block more, beside what else was seen
  pub every-block : (l : Bytes) (i k : ℕ) (seen : Bool)
      → (every p (take i l) && seen && every p (take k (drop i l))) ≡ (every p (take (i + k) l) && seen)
  every-block l i k seen = rw (and_assoc, and_comm seen (every p (take k (drop i l))), take-add, every_append, and_assoc)

  -- the bytes before i and those from e on, which may overlap, are all
  pub every-overlap : (l : Bytes) (e i : ℕ) → e ≤ i → (every p (take i l) && every p (drop e l)) ≡ every p l
  every-overlap l e i h =
      let over : e + (i - e) ≡ i = omega arith in
      rw (← over, take-add, every_append, every-split e l, and_assoc, every-split (i - e) (drop e l), and_self_left)

-- ---- the text that a list starts with

pub text-front : (t : Bytes) → Text (take (text_length t) t)
text-front [] = tt
text-front (b ∷ t) = go (is_text b) (λ h. h) (text-front t)
  where
    go : (x : Bool) → (T x → T (is_text b)) → Text (take (text_length t) t)
        → Text (take (cond x (suc (text_length t)) 0) (b ∷ t))
    go true h q = (h tt, q)
    go false h q = tt

-- the byte after it, if there is one, is not text
pub text-stops : (t : Bytes) (b : ℕ) (f : Bytes) → drop (text_length t) t ≡ b ∷ f → is_text b ≡ false
text-stops [] b f e = cc
text-stops (a ∷ t) b f e = go (is_text a) refl (text-stops t b f) e
  where
    go : (x : Bool) → is_text a ≡ x → (drop (text_length t) t ≡ b ∷ f → is_text b ≡ false)
        → drop (cond x (suc (text_length t)) 0) (a ∷ t) ≡ b ∷ f → is_text b ≡ false
    go true h further q = further q
    go false h further q = cc

-- how much text a list starts with, by its first byte
pub length-stops : (b : ℕ) (t : Bytes) → is_text b ≡ false → text_length (b ∷ t) ≡ 0
length-stops b t e = rw e

pub length-goes : (b : ℕ) (t : Bytes) → is_text b ≡ true → text_length (b ∷ t) ≡ text_length t + 1
length-goes b t e = rw e (omega arith)

pub length-most : (t : Bytes) → text_length t ≤ length t
length-most [] = omega arith
length-most (b ∷ t) = go (is_text b) (length-most t)
  where
    go : (x : Bool) → text_length t ≤ length t → cond x (suc (text_length t)) 0 ≤ suc (length t)
    go true h = omega arith
    go false h = omega arith

-- ---- CR LF pairs

pub pair-split : (t : Bytes) → begins_pair t ≡ true → t ≡ 13 ∷ 10 ∷ drop 2 t
pair-split [] e = absurd (false≢true e)
pair-split (b ∷ []) e = absurd (false≢true ((and-eq-true_iff (eqb b 13) false).0 e).1)
pair-split (b ∷ c ∷ t) e =
    let h = (and-eq-true_iff (eqb b 13) (eqb c 10)).0 e in rw (eqb-true b 13 h.0, eqb-true c 10 h.1)

-- a pair after l bytes
pub pair-after : (l : ℕ) (t : Bytes) → begins_pair (drop l t) ≡ true → t ≡ take l t ++ 13 ∷ 10 ∷ drop (l + 2) t
pair-after l t e = sym (take-append-drop l t) ∙ ap (λ x. take l t ++ x) (pair-split (drop l t) e ∙ rw drop-drop)

module _ (f : Bytes) (i : ℕ) where
  pub pair_fits : begins_pair (drop i f) ≡ true → i + 2 ≤ length f
  pair_fits e = omega (arith, length-drop i f, ap length (pair-split (drop i f) e))

-- ---- lines

-- a line in front: text of l bytes and a CR LF pair
pub line_first : (l : ℕ) (t : Bytes) → Text (take l t) → begins_pair (drop l t) ≡ true
    → lines t ≡ onto (take l t ∷ []) (lines (drop (l + 2) t))
line_first l t h e = ap lines (pair-after l t e) ∙ lines_cons (take l t) (drop (l + 2) t) h

-- text up to the end
text-left : (t : Bytes) → 0 < length t → Text t → lines t ≡ bad 0
text-left [] h q = absurd (omega arith)
text-left (b ∷ t) h q = lines_left b t q

-- no CR LF pair after the text
pub line-fault : (t : Bytes) → 0 < length t → begins_pair (drop (text_length t) t) ≡ false → lines t ≡ bad 0
line-fault t h e = go (drop (text_length t) t) refl
  where
    split : (d : Bytes) → drop (text_length t) t ≡ d → take (text_length t) t ++ d ≡ t
    split d q = rw (← q) (take-append-drop (text_length t) t)

    go : (d : Bytes) → drop (text_length t) t ≡ d → lines t ≡ bad 0
    go [] q = text-left t h (rw (sym (append-nil (take (text_length t) t)) ∙ split [] q) at (text-front t))
    go (b ∷ f) q =
        ap lines (sym (split (b ∷ f) q))
        ∙ lines-fault (take (text_length t) t) b f (text-front t) (text-stops t b f q) (rw q at e)

-- ---- a scan over the lines of a file

scanned-onto : (n : ℕ) (r : Bytes) (x : Lines) → scanned n (onto (r ∷ []) x) ≡ scanned (n + 1) x
scanned-onto n r (good rs) = ap Ok (omega arith)
scanned-onto n r (bad k) = ap Err (omega arith)

-- what a scan keeps: the lines from i on, with n before them, decide its answer
abbrev pub Decides : Bytes → ℕ → ℕ → Result ℕ ℕ → Type 0
Decides f i n answer = (i ≤ length f) × (n ≤ i) × (scanned n (lines (drop i f)) ≡ answer)

module _ (f : Bytes) (i n : ℕ) (answer : Result ℕ ℕ) (inv : Decides f i n answer) where
  pub scan-end : length f ≤ i → Ok n ≡ answer
  unfolding lines
  scan-end h = rw (← inv.2, drop_of_length-le f) (ap Ok (omega arith))

  -- where the text from i on ends at j
  module _ (j : ℕ) (e : j ≡ i + text_length (drop i f)) where
    rest-is : drop (text_length (drop i f)) (drop i f) ≡ drop j f
    rest-is = rw (e, drop-drop)

    pub scan-on : begins_pair (drop j f) ≡ true → Decides f (j + 2) (n + 1) answer
    scan-on h =
        let rest : i + (text_length (drop i f) + 2) ≡ j + 2 = omega arith in
        let first = line_first (text_length (drop i f)) (drop i f) (text-front (drop i f)) (rw rest-is h) in
        (pair_fits f j h, omega arith, rw (← inv.2, first, scanned-onto, drop-drop, rest))

    pub scan-fault : i < length f → begins_pair (drop j f) ≡ false → Err n ≡ answer
    scan-fault h q =
        let fault = line-fault (drop i f) (omega (arith, length-drop i f)) (rw rest-is q) in
        rw (← inv.2, fault) (ap Err (omega arith))
