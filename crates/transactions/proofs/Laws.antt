-- The sets of a transaction's details, and where the walk over them ends. Assumes nothing.
use Prim.Native.Nat.{◌≤◌}
use mathlib.Core.Path.{◌≡◌, sym, ap, ◌∙◌}
use mathlib.Core.Bool.{Bool, true, false, false≢true, not, ◌||◌}
use mathlib.Core.List.{List, [], ◌∷◌, ◌++◌, append_assoc, append-nil}
use lib.ListN.{drop}
use lib.Dec.{eqb}
use denote.Enum.Bare.{sameb}
use Rattle.format.specs.Bytes.{Bytes}
use Rattle.format.specs.Table.{detail}
use Rattle.format.specs.Checks.{is}
use Rattle.format.proofs.Logic.{is_T}
use Rattle.format.proofs.Tests.{by_cases}
use Rattle.format.proofs.Tree.{is→eq}
use Rattle.kinds.specs.contracts.Class as TheClass
use Rattle.kinds.specs.declared.Class.{Class}
use Rattle.kinds.specs.declared.Class.TheVariants.{Detail}
use Rattle.kinds.specs.Rows.{class_in}
use Rattle.kinds.proofs.Laws.{in-class, same-detail}
use Rattle.rules.specs.Tables.{Tables}
use Rattle.rules.specs.Findings.{own_findings, worst_from, worst}
use Rattle.rules.specs.Works.{details_from}
use Rattle.rules.specs.Verdicts.{rejects}
use Rattle.rules.proofs.Verdicts.{larger-zero}
use Rattle.headers.proofs.Laws.{later-worst, later-rejects}

-- ---- sets of details

module _ (tables : Tables) where
  pub details-append : (b ds es : List Bytes) → details_from tables b (ds ++ es) ≡ details_from tables b ds ++ details_from tables (b ++ ds) es
  details-append b [] es = rw (append-nil b)
  details-append b (d ∷ ds) es =
      ap (λ l. own_findings tables b d ∷ l)
      (details-append (b ++ d ∷ []) ds es ∙ ap (λ l. details_from tables (b ++ d ∷ []) ds ++ details_from tables l es) (append_assoc b (d ∷ []) ds))

-- a record's own findings do not have 0, so that 3 is the largest verdict that they can have, and then one rejects the transaction
late-worst : (bs : List Bool) → worst (false ∷ bs) ≡ worst_from 1 bs
unfolding worst
late-worst bs = larger-zero (worst_from 1 bs)

late-rejects : (bs : List Bool) → rejects (false ∷ bs) ≡ eqb (worst (false ∷ bs)) 3
unfolding rejects
late-rejects bs = later-rejects 0 bs ∙ sym (ap (λ n. eqb n 3) (late-worst bs))

module _ (tables : Tables) (b : List Bytes) (r : Bytes) where
  pub own-worst : worst (own_findings tables b r) ≤ 3
  unfolding own_findings
  own-worst = let bs = drop 1 (own_findings tables b r) in rw (late-worst bs) (later-worst 0 bs)

  pub own-rejects : rejects (own_findings tables b r) ≡ eqb (worst (own_findings tables b r)) 3
  unfolding own_findings
  own-rejects = late-rejects (drop 1 (own_findings tables b r))

-- ---- where the walk over details ends

-- no detail stands here, or the walk stops
pub none_left : (k : Class) (differs stop : Bool) → differs ≡ not (sameb TheClass.the_type k Detail) → (differs || stop) ≡ true
    → stop ≡ false → k ≡ Detail → ⊥
none_left k differs stop d e s is = false≢true (rw (s, d, is) at e)

pub is-detail : (k : Class) (differs stop : Bool) → differs ≡ not (sameb TheClass.the_type k Detail) → (differs || stop) ≡ false
    → k ≡ Detail
is-detail k differs stop d e =
    by_cases (is detail (class_in k))
    (λ q. in-class k Detail (sym (is→eq detail (class_in k) (is_T (is detail (class_in k)) q))))
    (λ q. absurd (false≢true (sym (rw (d, same-detail k, q) at e))))
