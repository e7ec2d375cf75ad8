-- No place of a refusal, with a territory table, passes the file's size limit. Assumes nothing.
use Prim.Native.Nat.{ℕ, suc, ◌+◌, ◌≤◌}
use native.Mathlib.Omega.{arith}
use mathlib.Core.Path.{◌≡◌, refl}
use mathlib.Core.Bool.{Bool, true, false, cond, ◌&&◌}
use mathlib.Core.Option.{Option, none, some}
use mathlib.Core.List.{List, [], ◌∷◌}
use lib.Dec.{leb, ltb}
use lib.ListN.{length}
use Rattle.format.specs.Bytes.{Bytes}
use Rattle.format.specs.Cwr22.{cwr22}
use Rattle.format.specs.Lines.{lines}
use Rattle.format.specs.Structure.{Answer, refused, passed, refusal, most_bytes}
use Rattle.format.specs.Numbering.{records_in}
use Rattle.format.specs.Tree.{span, is_head, is_detail}
use Rattle.format.specs.Lent.{in_room}
use Rattle.format.specs.Claims.{Near}
use Rattle.format.proofs.Near.{near, unless-within}
use Rattle.format.proofs.Lent.{room-near, room-passed}
use Rattle.format.proofs.At22.{nearby-22}
use Rattle.rules.specs.Tables.{Tables, language_size, society_size, category_size, right_table}
use Rattle.rules.specs.Values.{largest_tolerance}
use Rattle.rules.specs.Records.{only}
use Rattle.rules.specs.Collection.{is_claim}
use Rattle.rules.specs.Territories.{right_territories}
use Rattle.rules.specs.WithTerritories.{admission_with, crowded_from, in_list, answer_with}
use Rattle.rules.proofs.Each.{records-counted}
use Rattle.rules.proofs.Outcomes.{admitted-with}

-- the place of 14 is a record's
abbrev AtMost : ℕ → Option ℕ → Type 0
AtMost k none = Unit {0}
AtMost k (some i) = i ≤ k

crowded-place : (c i k : ℕ) (rs : List Bytes) → i + length rs ≤ k → AtMost k (crowded_from c i rs)
crowded-place c i k [] h = tt
crowded-place c i k (r ∷ rs) h =
    go (is_head cwr22 r && ltb c (length (only is_claim (span (is_detail cwr22) rs)))) (crowded_from c (suc i) rs)
    (crowded-place c (suc i) k rs (omega arith))
  where
    go : (b : Bool) (o : Option ℕ) → AtMost k o → AtMost k (cond b (some i) o)
    go true o w = omega arith
    go false o w = w

list-near : (c : ℕ) (rs : List Bytes) (a : Answer) → Near a → ((k m n : ℕ) → a ≡ passed k m n → length rs ≡ n) → Near (in_list c rs a)
list-near c rs (refused n i) h count = h
list-near c rs (passed g m n) h count =
    go (crowded_from c 0 rs) (crowded-place c 0 most_bytes rs (omega (arith, h, count g m n refl)))
  where
    go : (o : Option ℕ) → AtMost most_bytes o → Near (refusal 14 o (passed g m n))
    go none w = h
    go (some i) w = w

module _ (tables : Tables) (table : Bytes) (t : ℕ) (f : Bytes) where
  admission-with-near : Near (admission_with tables table t f)
  unfolding admission_with
  admission-with-near =
      near 1 _ _ (unless-within (leb t largest_tolerance) 0 (omega arith))
      (near 2 _ _ (unless-within (right_table language_size tables.languages) _ (omega arith))
      (near 2 _ _ (unless-within (right_table society_size tables.societies) _ (omega arith))
      (near 2 _ _ (unless-within (right_table category_size tables.categories) _ (omega arith))
      (near 13 _ _ (unless-within (right_territories table) 0 (omega arith))
      (nearby-22 f).0))))

  pub with-near : (room : ℕ → Bool) (c : ℕ) → Near (answer_with tables table t f room c)
  unfolding answer_with
  with-near room c =
      list-near c (records_in (lines f)) (in_room room (admission_with tables table t f))
      (room-near room (admission_with tables table t f) admission-with-near)
      (λ k m n e.
      let (let-in, _) = room-passed room (admission_with tables table t f) k m n e in
      records-counted f k m n (admitted-with tables t f table k m n let-in).2)
