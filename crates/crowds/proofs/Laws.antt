-- The walk as its loop keeps it. Assumes nothing.
use Prim.Native.Nat.{ℕ, ◌+◌, ◌-◌, ◌≤◌, ◌<◌}
use native.Mathlib.Omega.{arith}
use mathlib.Core.Path.{◌≡◌, refl, sym, ap, ◌∙◌, subst}
use mathlib.Core.Bool.{Bool, true, false, cond, ◌||◌}
use mathlib.Core.Option.{none, some}
use mathlib.Core.List.{List, ◌∷◌}
use lib.Dec.{eqb}
use lib.ListN.{length, take, drop}
use Rattle.format.specs.Bytes.{Bytes}
use Rattle.format.specs.Table.{Class, detail, unknown}
use Rattle.format.specs.Cwr22.{cwr22}
use Rattle.format.specs.Checks.{is, cls}
use Rattle.format.specs.Tree.{is_detail}
use Rattle.rules.specs.Collection.{is_claim}
use Rattle.rules.specs.WithTerritories.{crowded_from}
use Rattle.kinds.specs.declared.Row.{Row}
use Rattle.kinds.specs.Rows.{class_in, row_for, of_claim}
use Rattle.kinds.proofs.Laws.{class-is}
use Rattle.edits.proofs.Sorts.{sort-publishers-claim, sort-writers-claim}
use Rattle.structure.specs.Cursor.{Here, First}
use Rattle.structure.proofs.Here.{record_at, records-here}
use Rattle.structure.proofs.Cursor.{first, three-left, nothing_left}
use Rattle.transactions.specs.Walk.{rest_at, tail_of, Position}
use Rattle.crowds.specs.declared.Walk.{Walk}
use Rattle.crowds.specs.Crowded.{passed}
use Rattle.crowds.proofs.Counting.{decided, one_more, too_many, nothing-more, nothing-counted}

-- the rest of the file f, of m records, and the count so far decide
pub record Decides (f : Bytes) (m room : ℕ) (w : Walk) : Type 0 where
  pub class : Class
  pub position : Position f m w.at w.index class (rest_at f w.at)
  pub met : w.claims ≤ w.index
  pub rest : decided room w.header w.claims w.index (rest_at f w.at) ≡ crowded_from room 0 (rest_at f 0)

-- and not too many claims were met
abbrev pub Inv : (f : Bytes) (m room : ℕ) (w : Walk) → Type 0
Inv f m room w = Decides f m room w × (w.claims ≤ room)

pub begins : (f : Bytes) (room : ℕ) → Here f 0 unknown (rest_at f 0)
    → Inv f (length (rest_at f 0)) room (record { at = 0; index = 0; header = 0; claims = 0 })
begins f room here = (
  record {
    class = unknown;
    position = record { here = here; left = omega arith };
    met = omega arith;
    rest = nothing-counted room 0 0 (rest_at f 0) here.placed;
  },
  omega arith,
)

-- a count grows by one at most
still-met : (b c : Bool) {n i : ℕ} → n ≤ i → cond b (cond c (n + 1) n) 0 ≤ i + 1
still-met true true h = omega arith
still-met true false h = omega arith
still-met false c h = omega arith

module _ {f : Bytes} {m room : ℕ} {w : Walk} (inv : Inv f m room w) where
  abbrev stands : Position f m w.at w.index inv.0.class (rest_at f w.at)
  stands = inv.0.position

  -- at the end
  pub ends : length f ≤ w.at → none ≡ crowded_from room 0 (rest_at f 0)
  ends e =
      sym (nothing-more room w.header w.claims w.index (rest_at f w.at) inv.1 (nothing_left stands.here e)) ∙ inv.0.rest

  -- a record stands here
  module _ (more : w.at < length f) where
    abbrev r : Bytes
    r = record_at f w.at

    abbrev rs : List Bytes
    rs = tail_of (rest_at f w.at)

    left : rest_at f w.at ≡ r ∷ rs
    left = let e = records-here f w.at more stands.here.good in e ∙ ap (λ l. r ∷ tail_of l) (sym e)

    here : Here f w.at inv.0.class (r ∷ rs)
    here = subst (Here f w.at inv.0.class) left stands.here

    pub three : w.at + 3 ≤ length f
    three = three-left here

    pub numbered : w.index < m
    numbered = omega (arith, stands.left, ap length left)

    module _ {row : Row} (its : row ≡ row_for (take 3 (drop w.at f))) where
      front : First f w.at inv.0.class row r rs
      front = first here row its

      pub fits : w.at + row.length + 2 ≤ length f
      fits = front.ends

      next : rest_at f (w.at + row.length + 2) ≡ rs
      next = front.next.left

      detail-told : is detail (class_in row.class) ≡ is_detail cwr22 r
      detail-told = ap (λ (q : Row). is detail (class_in q.class)) front.own ∙ ap (is detail) (class-is r)

      claim-told : (of_claim row.sort) ≡ is_claim r
      claim-told = rw (sort-publishers-claim row r front.own, sort-writers-claim row r front.own)

      after-it : Decides f m room (passed row w)
      unfolding passed
      after-it = record {
        class = cls cwr22 r;
        position = record { here = rw next front.next; left = omega (arith, ap length next, ap length left, stands.left) };
        met = still-met (is detail (class_in row.class)) (of_claim row.sort) inv.0.met;
        rest =
            one_more room w.header w.claims w.index r rs inv.1 front.next.placed _ _ _ _ detail-told claim-told (omega arith) next
            ∙ ap (decided room w.header w.claims w.index) (sym left)
            ∙ inv.0.rest;
      }

      -- the walk has passed it
      module _ {v : Walk} (past : v ≡ passed row w) where
        pub one_on : Decides f m room v
        one_on = subst (Decides f m room) (sym past) after-it

        pub nearer : length f - v.at < length f - w.at
        unfolding passed
        nearer = omega (arith, ap (λ (q : Walk). q.at) past)

-- too many
pub crowded : {f : Bytes} {m room : ℕ} {w : Walk} → Decides f m room w → room < w.claims → some w.header ≡ crowded_from room 0 (rest_at f 0)
crowded {f} {room = room} {w} d less = sym (too_many room w.header w.claims w.index (rest_at f w.at) less) ∙ d.rest
