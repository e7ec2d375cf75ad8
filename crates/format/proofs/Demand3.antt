-- Demand 3 over any edition's table. Assumes nothing.
use Prim.Native.Nat.{ℕ}
use mathlib.Core.Path.{◌≡◌, sym, ap, ◌∙◌, subst, refl}
use mathlib.Core.Logic.{◌↔◌}
use mathlib.Core.List.{List, [], ◌∷◌, map}
use lib.ListN.{length, take-append-drop}
use lib.Dec.{T}
use Rattle.format.specs.Bytes.{Bytes, All, Text, unlines, pairs}
use Rattle.format.specs.Doc.{Doc, write, written}
use Rattle.format.specs.Table.{hdr, unknown, Table}
use Rattle.format.specs.WellFormed.{Item, item, Held, Loose, items, WellFormed}
use Rattle.format.specs.Lines.{good, lines}
use Rattle.format.specs.Checks.{none_counted, count_from, cls, check7, Along}
use Rattle.format.specs.Structure.{Answer, refused, passed, first_record, counts_of, judged, structure}
use Rattle.format.specs.Numbering.{held, number, records_in}
use Rattle.format.specs.Claims.{Limits, Content, lengths, PassesStructure, RefusedOnStructure, Demand3}
use Rattle.format.proofs.Lines.{lines-unlines, lines-good, pairs-unlines}
use Rattle.format.proofs.Passes.{Places, counted, loose-held, loose-text, loose-typed, number-loose, number-ok8}
use Rattle.format.proofs.Passes.{number-ok9, records-held, records-numbered, records-places, places-records, records-counted}
use Rattle.format.proofs.Tree.{build, build-items, Shaped, places-tree, tree_places, is→eq}
use Rattle.format.proofs.Written.{counted-items, number-items}
use Rattle.format.proofs.Answers.{Placed, Accepted, judged-answer, answer-judged, file-judged}
use Rattle.format.proofs.Answers.{file-read, never_both, Structural, structure-structural, structural-limits}

first_item : List Item → Bytes
first_item [] = []
first_item (item c s ∷ ss) = s

module _ (𝕋 : Table) where
  -- ---- from the records of a file to its content

  unfoldable pub doc_of : List Bytes → Doc
  doc_of rs = build (map (held 𝕋) rs)

  pub records-tree : (rs : List Bytes) → Placed 𝕋 rs → Shaped (map (held 𝕋) rs) (doc_of rs)
  unfolding doc_of
  records-tree rs p = places-tree (map (held 𝕋) rs) (records-places 𝕋 unknown rs p.seven)

  -- HDR has no numbers to cut out
  first-uncut : (rs : List Bytes) → Along (check7 𝕋) rs → first_item (map (held 𝕋) rs) ≡ first_record rs
  unfolding first_item
  first-uncut [] p = refl
  first-uncut (r ∷ rs) p = rw (← is→eq hdr (cls 𝕋 r) p.0, take-append-drop 3 r)

  pub records-wellformed : (rs : List Bytes) → All Text rs → Placed 𝕋 rs → WellFormed 𝕋 (doc_of rs)
  unfolding first_item items
  records-wellformed rs h p =
      let t = records-tree rs p in
      record {
        some_groups = t.some_groups;
        some_transactions = t.some_transactions;
        right = subst (All (Held 𝕋)) (sym t.same) (records-held 𝕋 rs h p.six);
        version = subst (λ (b : Bytes). T (𝕋.version b)) (sym (first-uncut rs p.seven) ∙ sym (ap first_item t.same)) p.ten;
      }

  pub records-renumbered : (rs : List Bytes) → Placed 𝕋 rs → number none_counted (map (held 𝕋) rs) ≡ written (doc_of rs)
  records-renumbered rs p = ap (number none_counted) (sym (records-tree rs p).same) ∙ number-items (doc_of rs)

  records-written : (rs : List Bytes) → All Text rs → Accepted 𝕋 rs → written (doc_of rs) ≡ rs
  records-written rs h a =
      sym (records-renumbered rs a.in_place) ∙ records-numbered 𝕋 none_counted rs h a.in_place.six a.eight a.nine

  -- ---- from a content to the records that are written

  module _ (d : Doc) (w : WellFormed 𝕋 d) where
    -- whatever stands in the number positions, the content's records are right by 6, 7 and 10
    pub loose-placed : (rs : List Bytes) → Loose (items d) rs → Placed 𝕋 rs
    unfolding first_item items
    loose-placed rs l =
        let e = loose-held 𝕋 (items d) rs w.right l in
        let p = places-records 𝕋 unknown rs (subst (Places unknown) (sym e) (tree_places d w.some_groups w.some_transactions)) in
        record {
          six = loose-typed 𝕋 (items d) rs w.right l;
          seven = p;
          ten = subst (λ (b : Bytes). T (𝕋.version b)) (sym (ap first_item e) ∙ first-uncut rs p) w.version;
        }

    -- and the content is found in them
    pub loose-doc : (rs : List Bytes) → Loose (items d) rs → doc_of rs ≡ d
    unfolding doc_of
    loose-doc rs l = rw (loose-held 𝕋 (items d) rs w.right l) (build-items d)

    pub loose-counted : (rs : List Bytes) → Loose (items d) rs → counts_of (count_from 𝕋 none_counted rs) ≡ lengths d
    loose-counted rs l =
        ap counts_of (records-counted 𝕋 none_counted rs ∙ ap (counted none_counted) (loose-held 𝕋 (items d) rs w.right l)) ∙ counted-items d

    pub loose-lines : (rs : List Bytes) → Loose (items d) rs → lines (unlines rs) ≡ good rs
    loose-lines rs l = lines-unlines rs (loose-text 𝕋 (items d) rs w.right l)

    pub written-loose : Loose (items d) (written d)
    written-loose = rw (number-items d) at (number-loose none_counted (items d))

    written-accepted : Accepted 𝕋 (written d)
    written-accepted =
        record {
          in_place = loose-placed (written d) written-loose;
          eight = rw (number-items d) at (number-ok8 𝕋 none_counted (items d) w.right);
          nine = rw (number-items d) at (number-ok9 𝕋 none_counted (items d) w.right);
        }

    pub write-lines : lines (write d) ≡ good (written d)
    unfolding write
    write-lines = loose-lines (written d) written-loose

    pub write-pairs : pairs (write d) ≡ length (written d)
    unfolding write
    write-pairs = pairs-unlines (written d) (loose-text 𝕋 (items d) (written d) w.right written-loose)

    pub write-passes : Limits (write d) → structure 𝕋 (write d) ≡ lengths d
    unfolding structure
    write-passes l =
        file-judged (judged 𝕋) (write d) (written d) write-lines l
        ∙ judged-answer 𝕋 (written d) written-accepted
        ∙ loose-counted (written d) written-loose

    doc_of-write : doc_of (records_in (lines (write d))) ≡ d
    doc_of-write = rw write-lines (loose-doc (written d) written-loose)

  -- ---- the four parts of the demand

  pub passes-limits : (f : Bytes) (g m n : ℕ) → structure 𝕋 f ≡ passed g m n → Limits f
  unfolding structure
  passes-limits f g m n e = (file-read (judged 𝕋) f g m n e).limits

  module _ (f : Bytes) (rs : List Bytes) (is-lines : lines f ≡ good rs) where
    pub passes-accepted : (g m n : ℕ) → structure 𝕋 f ≡ passed g m n → Accepted 𝕋 rs
    unfolding structure
    passes-accepted g m n e = answer-judged 𝕋 rs g m n (sym (file-judged (judged 𝕋) f rs is-lines (passes-limits f g m n e)) ∙ e)

    pub accepted-content : Accepted 𝕋 rs → WellFormed 𝕋 (doc_of rs) × (write (doc_of rs) ≡ f)
    unfolding write
    accepted-content a =
        let h = lines-good f rs is-lines in
        (records-wellformed rs h.1 a.in_place, ap unlines (records-written rs h.1 a) ∙ h.0)

  pub passes-content : (f : Bytes) (g m n : ℕ) → structure 𝕋 f ≡ passed g m n → Content 𝕋 f
  unfolding structure
  passes-content f g m n e =
      let r = file-read (judged 𝕋) f g m n e in
      let (w, b) = accepted-content f r.rs r.is-lines (answer-judged 𝕋 r.rs g m n r.is-judged) in
      (doc_of r.rs, w, b)

  pub content-passes : (f : Bytes) → Limits f → (c : Content 𝕋 f) → structure 𝕋 f ≡ lengths c.0
  content-passes f l c = rw (← c.2) (write-passes c.0 c.1 (rw c.2 l))

  exactly : (f : Bytes) → PassesStructure 𝕋 f ↔ (Limits f × Content 𝕋 f)
  exactly f = (
    λ (g, m, n, e). (passes-limits f g m n e, passes-content f g m n e),
    λ (l, c). (_, _, _, content-passes f l c),
  )

  only : (d e : Doc) → WellFormed 𝕋 d → WellFormed 𝕋 e → write d ≡ write e → d ≡ e
  only d e v w q = sym (doc_of-write d v) ∙ ap (λ f. doc_of (records_in (lines f))) q ∙ doc_of-write e w

  else_refused : (f : Bytes) → Limits f → RefusedOnStructure 𝕋 f ↔ (Content 𝕋 f → ⊥)
  else_refused f l = (
    λ (n, i, e, _) c. never_both n i _ _ _ e (content-passes f l c),
    λ none-such. go none-such (structure 𝕋 f) refl (structure-structural 𝕋 f l),
  )
    where
      go : (Content 𝕋 f → ⊥) → (a : Answer) → structure 𝕋 f ≡ a → Structural a → RefusedOnStructure 𝕋 f
      go none-such (refused n i) e k = (n, i, e, k)
      go none-such (passed g m n) e k = absurd (none-such (passes-content f g m n e))

  never_otherwise : (f : Bytes) → RefusedOnStructure 𝕋 f → Content 𝕋 f → ⊥
  unfolding structure
  never_otherwise f (n, i, e, s) c =
      let (d, w, q) = c in
      let l = structural-limits (judged 𝕋) f (written d) (rw q at (write-lines d w)) n i e s in
      never_both n i _ _ _ e (content-passes f l c)

  pub demand3 : Demand3 𝕋
  demand3 =
      record {
        exactly = exactly;
        only = only;
        else_refused = else_refused;
        never_otherwise = never_otherwise;
        counts = write-passes;
      }
