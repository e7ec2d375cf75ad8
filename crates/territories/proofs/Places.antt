-- The codes from the k-th on, as a loop meets them. Assumes nothing.
use Prim.Native.Nat.{ℕ, ◌+◌, ◌-◌, ◌<◌, ◌≤◌}
use mathlib.Core.Path.{◌≡◌, sym, ap, ◌∙◌}
use mathlib.Core.Bool.{true, false, ◌&&◌, ◌||◌}
use mathlib.Core.List.{List, []}
use native.Mathlib.Numerals.{add-one}
use native.Mathlib.Omega.{arith}
use lib.Dec.{ltb, eqb}
use lib.ListN.{length, drop, get_or, set, drop_of_length-le, length-drop}
use lib.Seq.{drop-cons, get_or-set_same, get_or-set_other, get_or-drop}
use borrow.Author.Tests.{ltb-true, ltb-false, lt-ltb, le-ltb, eqb-true, eqb-false}
use Rattle.format.specs.Bytes.{Bytes, same_bytes, among}
use Rattle.format.proofs.Tests.{by_cases, same→eq}
use Rattle.rules.specs.Territories.{Territory, territory_of, no_group, any_twice, groups_earlier}
use Rattle.territories.specs.Positions.{place_of, groups_of, slot_of, Hinted}
use Rattle.territories.proofs.Laws.{place_is, among-place}
use Rattle.territories.proofs.Entries.{map_at}

module _ (c : Bytes) (cs : List Bytes) (k : ℕ) where
  pub place_here : k < length cs → same_bytes (get_or cs k []) c ≡ true → k ≡ k + place_of c (drop k cs)
  place_here h t = rw (drop-cons cs k [] h, t) (omega arith)

  pub place-on : k < length cs → same_bytes (get_or cs k []) c ≡ false → k + 1 + place_of c (drop (k + 1) cs) ≡ k + place_of c (drop k cs)
  place-on h t = rw (drop-cons cs k [] h, t, add-one k) (omega arith)

  pub place_end : length cs ≤ k → k ≡ k + place_of c (drop k cs)
  place_end h = rw (drop_of_length-le cs h) (omega arith)

-- ---- hints, of the first k codes

abbrev pub HintedTo : ℕ → List Bytes → List ℕ → Type 0
HintedTo k cs hints = (j : ℕ) → j < k → j ≤ get_or hints (slot_of (get_or cs j [])) 0

pub hint-on : (cs : List Bytes) (hints : List ℕ) (k at : ℕ) → HintedTo k cs hints → at ≡ slot_of (get_or cs k []) → at < length hints
    → HintedTo (k + 1) cs (set hints at k)
hint-on cs hints k at so_far e h j l =
    by_cases (eqb (slot_of (get_or cs j [])) at)
    (λ t. rw (eqb-true _ at t, get_or-set_same hints at k 0 h) (omega arith))
    (λ t.
    let other = eqb-false (slot_of (get_or cs j [])) at t in
    rw (get_or-set_other hints at (slot_of (get_or cs j [])) k 0 other)
    (so_far j
    (by_cases (eqb j k)
    (λ same. absurd (other (ap (λ i. slot_of (get_or cs i [])) (eqb-true j k same) ∙ sym e)))
    (λ apart. let differ = eqb-false j k apart in by_cases (ltb j k) (ltb-true j k) (λ more. absurd (differ (omega (arith, ltb-false j k more))))))))

-- ---- a code that stands again

-- among those from a position on
pub again-from : (c : Bytes) (cs : List Bytes) (from : ℕ) → from ≤ length cs → ltb (from + place_of c (drop from cs)) (length cs) ≡ among c (drop from cs)
again-from c cs from h = rw (among-place c (drop from cs), length-drop from cs) (shifted (place_of c (drop from cs)))
  where
    shifted : (p : ℕ) → ltb (from + p) (length cs) ≡ ltb p (length cs - from)
    shifted p =
        by_cases (ltb p (length cs - from))
        (λ t. lt-ltb (from + p) (length cs) (omega (arith, ltb-true p (length cs - from) t)) ∙ sym t)
        (λ t. le-ltb (from + p) (length cs) (omega (arith, ltb-false p (length cs - from) t)) ∙ sym t)

-- none that has its slot comes later
pub not-again : (cs : List Bytes) (hints : List ℕ) → Hinted cs hints → (k : ℕ) → k < length cs → get_or hints (slot_of (get_or cs k [])) 0 ≡ k
    → among (get_or cs k []) (drop (k + 1) cs) ≡ false
not-again cs hints hinted k h e = by_cases (among code later) (λ t. absurd (never (ltb-true _ _ (sym (among-place code later) ∙ t)))) (λ t. t)
  where
    code : Bytes
    code = get_or cs k []

    later : List Bytes
    later = drop (k + 1) cs

    never : place_of code later < length later → ⊥
    never l =
        let j = k + 1 + place_of code later in
        let itself : get_or cs j [] ≡ code = sym (get_or-drop (k + 1) cs (place_of code later) []) ∙ same→eq _ code (place_is code later l) in
        let within : j < length cs = omega (arith, length-drop (k + 1) cs) in
        let held : j ≤ get_or hints (slot_of (get_or cs j [])) 0 = hinted j within in
        let same : get_or hints (slot_of (get_or cs j [])) 0 ≡ k = ap (λ s. get_or hints (slot_of s) 0) itself ∙ e in
        omega arith

module _ (cs : List Bytes) (k : ℕ) (h : k < length cs) where
  next-code : any_twice (drop k cs) ≡ (among (get_or cs k []) (drop (k + 1) cs) || any_twice (drop (k + 1) cs))
  next-code = rw (drop-cons cs k [] h, add-one k)

  pub twice-stop : among (get_or cs k []) (drop (k + 1) cs) ≡ true → true ≡ any_twice (drop k cs)
  twice-stop t = rw (next-code, t)

  pub twice-on : among (get_or cs k []) (drop (k + 1) cs) ≡ false → any_twice (drop (k + 1) cs) ≡ any_twice (drop k cs)
  twice-on t = rw (next-code, t)

-- ---- groups

module _ (xs : List Territory) (k g : ℕ) (h : k < length xs) (e : g ≡ get_or (groups_of xs) k no_group) where
  next-group : groups_earlier k (drop k xs) ≡ ((eqb g no_group || ltb g k) && groups_earlier (k + 1) (drop (k + 1) xs))
  next-group =
      rw (e, map_at (λ (x : Territory). x.group) xs k no_group (territory_of []) h, drop-cons xs k (territory_of []) h, add-one k)

  pub groups-stop : (eqb g no_group || ltb g k) ≡ false → false ≡ groups_earlier k (drop k xs)
  groups-stop t = rw (next-group, t)

  pub groups-on : (eqb g no_group || ltb g k) ≡ true → groups_earlier (k + 1) (drop (k + 1) xs) ≡ groups_earlier k (drop k xs)
  groups-on t = rw (next-group, t)
