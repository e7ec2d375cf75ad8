-- What numbering promises, over any edition's table. Assumes nothing.
use Prim.Native.Nat.{ℕ}
use mathlib.Core.Path.{◌≡◌, refl, sym, ap, ◌∙◌, subst}
use mathlib.Core.Logic.{◌↔◌}
use mathlib.Core.List.{List, map}
use lib.ListN.{length, length-map}
use Rattle.format.specs.Bytes.{Bytes, pairs}
use Rattle.format.specs.Doc.{Doc, write, written}
use Rattle.format.specs.Table.{Table}
use Rattle.format.specs.WellFormed.{Loose, items, WellFormed}
use Rattle.format.specs.Lines.{good, lines}
use Rattle.format.specs.Structure.{passed, structure}
use Rattle.format.specs.Numbering.{records_in, held, placed, numbering, numbered_file}
use Rattle.format.specs.Claims.{Limits, lengths, Unnumbered, Fillable, Numberable, Numbers}
use Rattle.format.proofs.Lines.{lines-good, lines-pairs}
use Rattle.format.proofs.Passes.{loose-held, same_length, records-loose}
use Rattle.format.proofs.Answers.{Read, file-judged, file-read, placed-answer, answer-placed}
use Rattle.format.proofs.Written.{number-items}
use Rattle.format.proofs.Demand3.{doc_of, records-tree, records-wellformed, loose-placed, loose-doc, loose-counted, loose-lines}
use Rattle.format.proofs.Demand3.{written-loose, write-lines, write-passes, passes-content, passes-limits, content-passes}

module _ (𝕋 : Table) where
  -- ---- a file that has some content

  module _ (f : Bytes) (d : Doc) (w : WellFormed 𝕋 d) (u : Unnumbered d f) where
    is-lines : lines f ≡ good u.0
    is-lines = rw (← u.2) (loose-lines 𝕋 d w u.0 u.1)

    answers : Limits f → numbering 𝕋 f ≡ lengths d
    unfolding numbering
    answers l =
        file-judged (placed 𝕋) f u.0 is-lines l
        ∙ placed-answer 𝕋 u.0 (loose-placed 𝕋 d w u.0 u.1)
        ∙ loose-counted 𝕋 d w u.0 u.1

    bytes : numbered_file 𝕋 f ≡ write d
    unfolding numbered_file write
    bytes = rw (is-lines, loose-held 𝕋 (items d) u.0 w.right u.1, number-items d)

    as_long : length (write d) ≡ length f
    unfolding write
    as_long = same_length 𝕋 (items d) (written d) u.0 w.right (written-loose 𝕋 d w) u.1 ∙ ap length u.2

    as_many : pairs (write d) ≡ pairs f
    as_many =
        lines-pairs (write d) (written d) (write-lines 𝕋 d w)
        ∙ sym (length-map (written d) (held 𝕋))
        ∙ ap length (loose-held 𝕋 (items d) (written d) w.right (written-loose 𝕋 d w) ∙ sym (loose-held 𝕋 (items d) u.0 w.right u.1))
        ∙ length-map u.0 (held 𝕋)
        ∙ sym (lines-pairs f u.0 is-lines)

    content-found : doc_of 𝕋 u.0 ≡ d
    content-found = loose-doc 𝕋 d w u.0 u.1

  -- ---- a file that is numbered has some content

  read : (f : Bytes) (g m n : ℕ) → numbering 𝕋 f ≡ passed g m n → Read (placed 𝕋) f g m n
  unfolding numbering
  read f g m n e = file-read (placed 𝕋) f g m n e

  content : (f : Bytes) (g m n : ℕ) → numbering 𝕋 f ≡ passed g m n → Fillable 𝕋 f
  content f g m n e =
      let r = read f g m n e in
      let h = lines-good f r.rs r.is-lines in
      let p = answer-placed 𝕋 r.rs g m n r.is-judged in
      let l = subst (λ ss. Loose ss r.rs) (sym (records-tree 𝕋 r.rs p).same) (records-loose 𝕋 r.rs h.1 p.six) in
      (doc_of 𝕋 r.rs, records-wellformed 𝕋 r.rs h.1 p, (r.rs, l, h.0))

  -- ---- the promises

  written-unnumbered : (d : Doc) → WellFormed 𝕋 d → Unnumbered d (write d)
  unfolding write
  written-unnumbered d w = (written d, written-loose 𝕋 d w, refl)

  same-records : (f : Bytes) (a b : List Bytes) → lines f ≡ good a → lines f ≡ good b → a ≡ b
  same-records f a b p q = cc

  exactly : (f : Bytes) → Numberable 𝕋 f ↔ (Limits f × Fillable 𝕋 f)
  exactly f = (
    λ (g, m, n, e). ((read f g m n e).limits, content f g m n e),
    λ (l, c). (_, _, _, answers f c.0 c.1 c.2 l),
  )

  only : (f : Bytes) (d e : Doc) → WellFormed 𝕋 d → WellFormed 𝕋 e → Unnumbered d f → Unnumbered e f → d ≡ e
  only f d e v w p q =
      sym (content-found f d v p)
      ∙ ap (doc_of 𝕋) (same-records f p.0 q.0 (is-lines f d v p) (is-lines f e w q))
      ∙ content-found f e w q

  else_same : (f : Bytes) → Numberable 𝕋 f → (d : Doc) × WellFormed 𝕋 d × Unnumbered d f × Unnumbered d (numbered_file 𝕋 f)
  else_same f (g, m, n, e) = let (d, w, u) = content f g m n e in (d, w, u, rw (bytes f d w u) (written-unnumbered d w))

  -- whatever stands in the number positions, the records of a content are its held ones
  held-records : (f : Bytes) (d : Doc) → WellFormed 𝕋 d → Unnumbered d f → map (held 𝕋) (records_in (lines f)) ≡ items d
  held-records f d w u = rw (is-lines f d w u) (loose-held 𝕋 (items d) u.0 w.right u.1)

  outside : (f : Bytes) → Numberable 𝕋 f → map (held 𝕋) (records_in (lines (numbered_file 𝕋 f))) ≡ map (held 𝕋) (records_in (lines f))
  outside f p = let (d, w, u, v) = else_same f p in held-records (numbered_file 𝕋 f) d w v ∙ sym (held-records f d w u)

  passes : (f : Bytes) (g m n : ℕ) → numbering 𝕋 f ≡ passed g m n → structure 𝕋 (numbered_file 𝕋 f) ≡ passed g m n
  passes f g m n e =
      let (d, w, u) = content f g m n e in
      let l = (read f g m n e).limits in
      rw (bytes f d w u) (write-passes 𝕋 d w (rw (as_long f d w u) l.0, rw (as_many f d w u) l.1) ∙ sym (answers f d w u l) ∙ e)

  same : (f : Bytes) (g m n : ℕ) → structure 𝕋 f ≡ passed g m n → (numbering 𝕋 f ≡ passed g m n) × (numbered_file 𝕋 f ≡ f)
  same f g m n e =
      let (d, w, q) = passes-content 𝕋 f g m n e in
      let l = passes-limits 𝕋 f g m n e in
      let u = subst (Unnumbered d) q (written-unnumbered d w) in
      (answers f d w u l ∙ sym (content-passes 𝕋 f l (d, w, q)) ∙ e, bytes f d w u ∙ q)

  pub numbers : Numbers 𝕋
  numbers =
      record {
        exactly = exactly;
        only = only;
        writes = λ f d l w u. (answers f d w u l, bytes f d w u);
        else_same = else_same;
        outside = outside;
        as_long = λ f p. let (d, w, u) = content f p.0 p.1 p.2 p.3 in ap length (bytes f d w u) ∙ as_long f d w u;
        passes = passes;
        same = same;
        twice = λ f g m n e. same (numbered_file 𝕋 f) g m n (passes f g m n e);
      }
