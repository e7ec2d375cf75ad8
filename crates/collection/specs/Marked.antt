-- Internal: what the claims of a file's transactions change in the two buffers that the check without territories has filled. Findings 47 and
-- 48 are set in the eight bytes of a record, and the verdicts of a transaction with one of them are raised.
use Rattle.std.specs.Prelude.{ℕ, suc, ◌+◌, ◌*◌, ◌/◌, ◌%◌, Bool, cond, List, [], ◌∷◌, length, take, drop, get_or, set}
use Rattle.format.specs.Bytes.{Bytes}
use Rattle.format.specs.Cwr22.{cwr22}
use Rattle.format.specs.Lent.{splice}
use Rattle.format.specs.Tree.{span, is_head, is_detail}
use Rattle.rules.specs.Records.{any}
use Rattle.rules.specs.Findings.{TR, verdict}
use Rattle.rules.specs.Verdicts.{raised}
use Rattle.rules.specs.Territories.{Territory}
use Rattle.rules.specs.Collection.{is47, is48}

-- finding 47 of record i: the highest bit of its sixth byte
abbrev pub with47 : ℕ → Bytes → Bytes
with47 i g = set g (8 * i + 5) (get_or g (8 * i + 5) 0 % 128 + 128)

-- finding 48: the lowest of its seventh
abbrev pub with48 : ℕ → Bytes → Bytes
with48 i g = set g (8 * i + 6) (get_or g (8 * i + 6) 0 / 2 * 2 + 1)

-- no verdict of the n records from record i on stays below that of TR, where they are rejected
unfoldable pub raised_if : Bool → ℕ → ℕ → Bytes → Bytes
raised_if rejected i n v = splice i (raised (cond rejected (verdict TR) 0) (take n (drop i v))) v

module _ (territories : List Territory) where
  -- the details from record i on
  abbrev pub marked48 : ℕ → List Bytes → Bytes → Bytes
  marked48 i [] g = g
  marked48 i (r ∷ rs) g = marked48 (suc i) rs (cond (is48 territories r) (with48 i g) g)

  module _ (t : ℕ) where
    -- a transaction whose header is record i, with these details
    abbrev pub marked_t : ℕ → List Bytes → Bytes → Bytes
    marked_t i ds g = cond (is47 territories t ds) (with47 i (marked48 (suc i) ds g)) (marked48 (suc i) ds g)

    abbrev pub raised_t : ℕ → List Bytes → Bytes → Bytes
    raised_t i ds v = raised_if (is47 territories t ds) i (suc (length ds)) (raised_if (any (is48 territories) ds) i (suc (length ds)) v)

    -- the transactions among the records from record i on
    unfoldable pub marked_from : ℕ → List Bytes → Bytes → Bytes
    marked_from i [] g = g
    marked_from i (r ∷ rs) g = marked_from (suc i) rs (cond (is_head cwr22 r) (marked_t i (span (is_detail cwr22) rs) g) g)

    unfoldable pub raised_from : ℕ → List Bytes → Bytes → Bytes
    raised_from i [] v = v
    raised_from i (r ∷ rs) v = raised_from (suc i) rs (cond (is_head cwr22 r) (raised_t i (span (is_detail cwr22) rs) v) v)
