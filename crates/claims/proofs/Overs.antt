-- Which positions hold another, and the first territory that is over. Assumes nothing.
use Prim.Native.Nat.{ℕ, zero, suc, ◌+◌, ◌-◌, ◌<◌, ◌≤◌}
use native.Mathlib.Omega.{arith}
use native.Mathlib.Nat.{zero-add}
use mathlib.Core.Path.{◌≡◌, sym, ap, ◌∙◌}
use mathlib.Core.Bool.{Bool, true, false, not, ◌&&◌, ◌||◌, or_assoc, or-false}
use mathlib.Core.Option.{Option, none, some}
use mathlib.Core.List.{List, [], ◌∷◌, append-nil}
use lib.Dec.{eqb}
use lib.ListN.{length, get_or, drop, replicate, get_or-replicate}
use lib.Seq.{drop-cons, drop-length}
use Rattle.format.specs.Bytes.{Bytes}
use Rattle.format.proofs.Tests.{by_cases}
use Rattle.rules.specs.Values.{full_share}
use Rattle.rules.specs.Records.{any}
use Rattle.rules.specs.Totals.{Right, PR, MR, SR, exceeds}
use Rattle.rules.specs.Territories.{Territory, territory_of, territories_in, no_group, names, has_members}
use Rattle.rules.specs.Collection.{is_over, over_from, first_over}
use Rattle.territories.specs.Positions.{groups_of}
use Rattle.territories.proofs.Entries.{map_at}
use Rattle.rules.proofs.Names.{length-names}
use Rattle.claims.specs.declared.Claim.{Claim}
use Rattle.claims.specs.declared.Taken.{Taken}
use Rattle.claims.specs.Entries.{entries_from, comes_to, is_over_in, is_over_at, first_from, over_in}
use Rattle.claims.specs.Work.{current, closed, Counted, Held}
use Rattle.claims.proofs.Totals.{comes-to-total}

-- ---- positions that hold another: those of the territories before the j-th are marked

abbrev holds : ℕ → Territory → Bool
holds i x = eqb x.group i

abbrev pub Holding : List Territory → ℕ → List Bool → Type 0
Holding T j held = (length held ≡ 512) × ((i : ℕ) → i < 512 → (get_or held i false || any (holds i) (drop j T)) ≡ has_members T i)

module _ (T : List Territory) where
  pub holding-none : (held : List Bool) → length held ≡ 512 → held ≡ replicate 512 false → Holding T 0 held
  unfolding has_members
  holding-none held long e = (long, λ i h. rw (e, get_or-replicate 512 i false false h))

  pub holding-on : (j : ℕ) (held next : List Bool) (group : ℕ) → j < length T → group ≡ get_or (groups_of T) j no_group → Holding T j held
      → length next ≡ 512 → ((i : ℕ) → i < 512 → get_or next i false ≡ (get_or held i false || eqb group i)) → Holding T (j + 1) next
  holding-on j held next group h g was long with_it = (
    long,
    λ i l.
        let x = get_or T j (territory_of []) in
        let one : j + 1 ≡ suc j = omega arith in
        let its : group ≡ x.group = g ∙ map_at (λ (y : Territory). y.group) T j no_group (territory_of []) h in
        let all = was.1 i l in
        rw (with_it i l, one, its) (or_assoc (get_or held i false) (eqb x.group i) (any (holds i) (drop (suc j) T))
        ∙ ap (λ (xs : List Territory). get_or held i false || any (holds i) xs) (sym (drop-cons T j (territory_of []) h)) ∙ all),
  )

  pub holding-all : (held : List Bool) → Holding T (length T) held → Held T held
  holding-all held was i l =
      sym (or-false (get_or held i false)) ∙ ap (λ (xs : List Territory). get_or held i false || any (holds i) xs) (sym (drop-length T)) ∙ was.1 i l

-- ---- the first that is over

-- one that passes, and one that does not
pub first-here : (p : ℕ → Bool) (j k : ℕ) → 0 < k → p j ≡ true → first_from p j k ≡ j
first-here p j zero h e = absurd (omega arith)
first-here p j (suc k) h e = rw e

pub first_on : (p : ℕ → Bool) (j n : ℕ) → j < n → p j ≡ false → first_from p (j + 1) (n - (j + 1)) ≡ first_from p j (n - j)
first_on p j n h e =
    let next : n - j ≡ suc (n - (j + 1)) = omega arith in
    let one : j + 1 ≡ suc j = omega arith in
    rw (next, e, ← one)

module _ (table : Bytes) (es : List Claim) (last : ℕ) (work : List Taken) (counted : Counted table es last work) where
  abbrev T : List Territory
  T = territories_in table

  total : (j : ℕ) → j < length T → (r : Right) → closed work j r + current work j r ≡ comes_to T r j 0 0 es
  total j h r = rw (append-nil es) at ((counted.stands j h r).rest [])

  is-over : (t j : ℕ) → j < length T → (b : Bool)
      → b ≡ (exceeds t full_share (closed work j PR + current work j PR)
      || exceeds t full_share (closed work j MR + current work j MR)
      || exceeds t full_share (closed work j SR + current work j SR))
      → b ≡ is_over_in T t es j
  is-over t j h b e = e ∙ rw (total j h PR, total j h MR, total j h SR)

  -- as it is tested
  pub tested : (t j : ℕ) (h : j < length T) (held : List Bool) (b x : Bool) → length T ≤ 512 → Held T held
      → b ≡ (exceeds t full_share (closed work j PR + current work j PR)
      || exceeds t full_share (closed work j MR + current work j MR)
      || exceeds t full_share (closed work j SR + current work j SR))
      → (not (get_or held j false) && b) ≡ x → is_over_at T t es j ≡ x
  tested t j h held b x few marked e q = rw (← marked j (omega arith), ← is-over t j h b e) q

pub over-start : (table : Bytes) (t : ℕ) (es : List Claim) (n : ℕ) → n ≡ length (territories_in table)
    → first_from (is_over_at (territories_in table) t es) 0 (n - 0) ≡ over_in table t es
unfolding over_in
over-start table t es n e = let z : n - 0 ≡ length (territories_in table) = omega arith in rw z

-- ---- as the rules have it

abbrev pub or_all : ℕ → Option ℕ → ℕ
or_all n none = n
or_all n (some i) = i

module _ (T : List Territory) (t : ℕ) (ds : List Bytes) where
  over-alike : (j : ℕ) → is_over_in T t (entries_from T 0 ds) j ≡ is_over T t (get_or (names T) j []) ds
  unfolding is_over
  over-alike j = rw (comes-to-total T PR j ds, comes-to-total T MR j ds, comes-to-total T SR j ds)

  first_alike : (i : ℕ) (rest : List (List Bytes)) → ((k : ℕ) → get_or rest k [] ≡ get_or (names T) (i + k) [])
      → first_from (is_over_at T t (entries_from T 0 ds)) i (length rest) ≡ or_all (i + length rest) (over_from T t i rest ds)
  first_alike i [] same = omega arith
  first_alike i (ns ∷ rest) same =
      let here : ns ≡ get_or (names T) i [] = same 0 ∙ ap (λ (k : ℕ). get_or (names T) k []) (omega arith) in
      let next : i + suc (length rest) ≡ suc i + length rest = omega arith in
      by_cases (not (has_members T i) && is_over T t ns ds)
      (λ e. rw (over-alike i, ← here, e))
      (λ e.
      rw (over-alike i, ← here, e, next)
      (first_alike (suc i) rest (λ k. same (suc k) ∙ ap (λ (n : ℕ). get_or (names T) n []) (let z : i + suc k ≡ suc i + k = omega arith in z))))

pub over_first : (table : Bytes) (t : ℕ) (ds : List Bytes)
    → over_in table t (entries_from (territories_in table) 0 ds) ≡ or_all (length (territories_in table)) (first_over (territories_in table) t ds)
unfolding over_in first_over
over_first table t ds =
    let T = territories_in table in
    rw (← length-names T)
    (first_alike T t ds 0 (names T) (λ k. ap (λ (n : ℕ). get_or (names T) n []) (sym (zero-add k)))
    ∙ ap (λ (n : ℕ). or_all n (over_from T t 0 (names T) ds)) (zero-add (length (names T))))
