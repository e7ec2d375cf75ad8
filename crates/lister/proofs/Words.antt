-- Words put one after the other, and the zeros before a number. Assumes nothing.
use Prim.Native.Nat.{ℕ, zero, suc, ◌+◌, ◌-◌, ◌<◌, ◌≤◌}
use native.Mathlib.Omega.{arith}
use mathlib.Core.Path.{◌≡◌, refl, sym, ap, ◌∙◌}
use mathlib.Core.Bool.{cond}
use mathlib.Core.List.{[], ◌∷◌, ◌++◌, append_assoc}
use lib.ListN.{length, take, drop, set, length-append, length-drop}
use lib.Dec.{eqb}
use lib.Seq.{length-take-le}
use borrow.Author.Tests.{eq-eqb, ne_eqb}
use Rattle.format.proofs.Tests.{by_cases}
use borrow.Rule.Slice.PartMut.{put_mid}
use Rattle.format.specs.Bytes.{Bytes, decimal}
use Rattle.structure.proofs.Cursor.{to_end}
use Rattle.rules.specs.Listing.{without_zeros, figure}
use Rattle.format.specs.Lent.{splice}
use Rattle.buffers.proofs.Splice.{splice-nil, set-splice, part-splice, length-splice, splice-on}
use Rattle.lister.specs.declared.Page.{Page}
use Rattle.lister.specs.Put.{Room, Put, Adds}

-- ---- text put on a page

pub nothing_put : (p : Page) → p.at ≤ length p.out.now → Put [] p p
nothing_put p h = record { fits = omega arith; text = sym (splice-nil p.at p.out.now); after = omega arith; same_reference = refl }

pub length-put : {x : Bytes} {p q : Page} → Put x p q → length q.out.now ≡ length p.out.now
length-put {x} {p} h = ap length h.text ∙ length-splice p.at x p.out.now h.fits

-- more after it
pub then : {x y : Bytes} {p q r : Page} → Put x p q → Put y q r → Put (x ++ y) p r
then {x} {y} {p} h k =
    record {
      fits = omega (arith, length-append x y, k.fits, h.after, length-put h);
      text = k.text ∙ rw (h.text, h.after) (splice-on p.at x p.out.now h.fits y);
      after = k.after ∙ omega (arith, length-append x y, h.after);
      same_reference = k.same_reference ∙ h.same_reference;
    }

-- more after a word and the byte that ends it
pub word-then : {y : Bytes} {p q r : Page} (w : Bytes) (x : ℕ) → Put (w ++ x ∷ []) p q → Put y q r → Put (w ++ x ∷ y) p r
word-then {y = y} w x h k = rw (append_assoc w (x ∷ []) y) at (then h k)

-- a text that is not long
pub adds : {n : ℕ} {x : Bytes} {p q : Page} → length x ≤ n → Put x p q → Adds n x p q
adds most h = (h, omega (arith, most, h.after), length-put h)

-- a word that was copied into its part of the buffer, and a byte stored after it
pub word-put : (w ys : Bytes) (x : ℕ) (p q : Page) → Room (length w + 1) p → ys ≡ w
    → q.out.now ≡ set (put_mid p.at (p.at + length w - p.at) p.out.now ys) (p.at + length w) x
    → q.at ≡ p.at + length w + 1 → q.out.ghost_name ≡ p.out.ghost_name → Adds (length w + 1) (w ++ x ∷ []) p q
word-put w ys x p q room same is after name =
    let a = p.at in
    let e = a + length w in
    let out = p.out.now in
    let first : put_mid a (e - a) out ys ≡ splice a w out = rw same (part-splice a (e - a) w out (omega arith)) in
    let inside : e < length (splice a w out) = omega (arith, room, length-splice a w out (omega (arith, room))) in
    let long : length (w ++ x ∷ []) ≡ length w + 1 = omega (arith, length-append w (x ∷ [])) in
    adds (omega (arith, long))
    record {
      fits = omega (arith, room, long);
      text = is ∙ rw first (set-splice e x (splice a w out) inside ∙ splice-on a w out (omega (arith, room)) (x ∷ []));
      after = omega (arith, after, long);
      same_reference = name;
    }

-- ---- zeros before a number

-- how many zeros stand at the front
abbrev pub lead : Bytes → ℕ
lead [] = 0
lead (b ∷ bs) = cond (eqb b 48) (suc (lead bs)) 0

pub lead-stops : (b : ℕ) (bs : Bytes) → (b ≡ 48 → ⊥) → lead (b ∷ bs) ≡ 0
lead-stops b bs h = rw (ne_eqb b 48 h) refl

pub lead-goes : (b : ℕ) (bs : Bytes) → b ≡ 48 → lead (b ∷ bs) ≡ lead bs + 1
lead-goes b bs h = rw (eq-eqb b 48 h) (omega arith)

lead-most : (l : Bytes) → lead l ≤ length l
lead-most [] = omega arith
lead-most (b ∷ bs) = by_cases (eqb b 48) (λ e. rw e (omega (arith, lead-most bs))) (λ e. rw e (omega arith))

-- those before the last digit are left out
before-last : (d : Bytes) (n : ℕ) → length d ≡ suc n → drop (lead (take n d)) d ≡ without_zeros d
before-last [] n e = absurd (omega (arith, e))
before-last (b ∷ []) zero e = refl
before-last (b ∷ []) (suc n) e = absurd (omega (arith, e))
before-last (b ∷ c ∷ bs) zero e = absurd (omega (arith, e))
before-last (b ∷ c ∷ bs) (suc n) e =
    by_cases (eqb b 48) (λ q. rw q (before-last (c ∷ bs) n (omega (arith, e)))) (λ q. rw q refl)

pub left-out : (d : Bytes) (last k : ℕ) → last ≡ length d - 1 → k ≡ lead (take last d) → drop k d ≡ without_zeros d
left-out [] last k e is = let none : last ≡ 0 = omega (arith, e) in rw (is, none) refl
left-out (b ∷ bs) last k e is = rw is (before-last (b ∷ bs) last (omega (arith, e)))

pub left-most : (d : Bytes) (last k : ℕ) → last ≡ length d - 1 → k ≡ lead (take last d) → k ≤ length d
left-most d last k e is = omega (arith, is, lead-most (take last d), length-take-le last d (omega (arith, e)))

-- the digits that are left, of n, were put
pub digits-put : {p q : Page} (d : Bytes) (n k x : ℕ) → length d ≡ n → drop k d ≡ without_zeros d
    → Put (take (n - k) (drop k d) ++ x ∷ []) p q → Put (without_zeros d ++ x ∷ []) p q
digits-put d n k x long e h = rw (to_end d k, e) at (rw (← long) at h)

pub digits-most : (d : Bytes) (n k : ℕ) → length d ≡ n → length (take (n - k) (drop k d)) ≤ length d
digits-most d n k long = rw (← long, to_end d k, length-drop) (omega arith)

pub figure-put : {p q : Page} (n x : ℕ) (d : Bytes) → d ≡ decimal 10 n → Put (without_zeros d ++ x ∷ []) p q
    → Put (figure n ++ x ∷ []) p q
unfolding figure
figure-put n x d e h = rw e at h
