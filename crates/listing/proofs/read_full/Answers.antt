use Rattle.std.proofs.Common.{◌≡◌, ℕ, ◌+◌, ◌-◌, ◌≤◌, List, ◌++◌, rules, length, take, sym, ap, ◌∙◌, subst, le_refl, drop_at, length-take-le}
use Rattle.std.proofs.lemmas.Slice.{take-put_mid_below}
use Rattle.std.specs.Io.KnownBytes.{Consumes}
use Rattle.std.proofs.KnownBytes.{Consumes-trans}
use borrow.Rule.Slice.PartMut.{put_mid, post_of}
use lib.Seq.{take-add, take-append-le}
use Rattle.listing.proofs.read_full.Goals as goal

-- the first a and k bytes of a buffer whose middle, from a on, was written
take-written : (a m k : ℕ) (xs ys : List ℕ) → a ≤ length xs → k ≤ length ys → take a xs ++ take k ys ≡ take (a + k) (put_mid a m xs ys)
take-written a m k xs ys within fits =
    let after = post_of a m xs in
    let front = take-put_mid_below a m xs ys a (le_refl a) within in
    let part = ap (take k) (drop_at (take a xs) (ys ++ after) a (length-take-le a xs within)) ∙ take-append-le k ys after fits in
    ap (λ l. l ++ take k ys) (sym front) ∙ ap (λ l. take a (put_mid a m xs ys) ++ l) (sym part) ∙ sym (take-add a k (put_mid a m xs ys))

pub loop-n-preserved : goal.loop-n-preserved
loop-n-preserved g c =
    let at = c.loop-n.n in
    let before = c.loop-n.invariant in
    let read = c.in-Ok.ensures in
    let joined = take-written at (length c.loop-n.buf - at) c.in-Ok.k c.loop-n.buf c.read.new.buf before.1 read.bound.0 in
    (search rules, search rules, subst (Consumes _ _) joined (Consumes-trans _ _ _ _ _ before.2 read.bytes.0))
