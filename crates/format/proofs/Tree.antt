-- The list of held records against the tree of groups and transactions: places are right exactly on the lists of trees, and the tree
-- is found again. Assumes nothing.
use mathlib.Core.Path.{◌≡◌, refl, sym, ap, ◌∙◌, subst}
use mathlib.Core.Bool.{◌||◌}
use mathlib.Core.List.{List, [], ◌∷◌, ◌++◌, map, append_assoc}
use lib.Dec.{T, eqb→eq}
use Rattle.format.specs.Bytes.{Bytes, All}
use Rattle.format.specs.Doc.{Doc, Group, Transaction}
use Rattle.format.specs.Table.{Class, hdr, grh, head, detail, grt, trl, unknown}
use Rattle.format.specs.WellFormed.{Item, item, items_t, items_g, items, NotEmpty}
use Rattle.format.specs.Checks.{code, class_at, is, may_follow}
use Rattle.format.proofs.Logic.{or_elim}
use Rattle.format.proofs.Passes.{Places}

-- ---- the tree of a list: built from its end

pub data Tail : Type 0 where
  tail : List Bytes → List Transaction → Bytes → List Group → Bytes → Tail

abbrev onto : Class → Bytes → Tail → Tail
onto detail s (tail ds ts t gs z) = tail (s ∷ ds) ts t gs z
onto head s (tail ds ts t gs z) = tail [] (record { header = s; details = ds } ∷ ts) t gs z
onto grt s (tail ds ts t gs z) = tail [] [] s gs z
onto grh s (tail ds ts t gs z) = tail [] [] [] (record { opening = s; transactions = ts; closing = t } ∷ gs) z
onto trl s (tail ds ts t gs z) = tail [] [] [] [] s
onto hdr s (tail ds ts t gs z) = tail [] [] [] [] []
onto unknown s (tail ds ts t gs z) = tail [] [] [] [] []

abbrev back : List Item → Tail
back [] = tail [] [] [] [] []
back (item c s ∷ ss) = onto c s (back ss)

abbrev under : Bytes → Tail → Doc
under s (tail ds ts t gs z) = record { header = s; groups = gs; trailer = z }

abbrev pub build : List Item → Doc
build [] = under [] (back [])
build (item c s ∷ ss) = under s (back ss)

-- ---- the tree is found again: no two trees have one list

module _ (t : Bytes) (gs : List Group) (z : Bytes) (ss : List Item) where
  back-details : (ds : List Bytes) (ts : List Transaction) → back ss ≡ tail [] ts t gs z → back (map (item detail) ds ++ ss) ≡ tail ds ts t gs z
  back-details [] ts e = e
  back-details (d ∷ ds) ts e = rw (back-details ds ts e)

module _ (t : Bytes) (gs : List Group) (z : Bytes) (ss : List Item) where
  back-transactions : (ts : List Transaction) → back ss ≡ tail [] [] t gs z → back (items_t ts ++ ss) ≡ tail [] ts t gs z
  back-transactions [] e = e
  back-transactions (x ∷ xs) e =
      ap (λ l. onto head x.header (back l)) (append_assoc (map (item detail) x.details) (items_t xs) ss)
      ∙ ap (onto head x.header) (back-details t gs z (items_t xs ++ ss) x.details xs (back-transactions xs e))

back-groups : (gs : List Group) (z : Bytes) → back (items_g gs ++ item trl z ∷ []) ≡ tail [] [] [] gs z
back-groups [] z = refl
back-groups (g ∷ gs) z =
    ap (λ l. onto grh g.opening (back l)) (append_assoc (items_t g.transactions) (item grt g.closing ∷ items_g gs) (item trl z ∷ []))
    ∙ ap (onto grh g.opening)
    (back-transactions g.closing gs z (item grt g.closing ∷ (items_g gs ++ item trl z ∷ [])) g.transactions
    (ap (onto grt g.closing) (back-groups gs z)))

pub build-items : (d : Doc) → build (items d) ≡ d
unfolding items
build-items d = rw (back-groups d.groups d.trailer)

-- ---- right places make a tree

abbrev FullG : List Group → Type 0
FullG gs = All (λ (g : Group). NotEmpty g.transactions) gs

-- what stands after a record of that class
abbrev Ok : Class → Tail → List Item → Type 0
Ok hdr (tail ds ts t gs z) ss = (items_g gs ++ item trl z ∷ [] ≡ ss) × NotEmpty gs × FullG gs
Ok grh (tail ds ts t gs z) ss = (items_t ts ++ item grt t ∷ (items_g gs ++ item trl z ∷ []) ≡ ss) × NotEmpty ts × FullG gs
Ok head (tail ds ts t gs z) ss = (map (item detail) ds ++ (items_t ts ++ item grt t ∷ (items_g gs ++ item trl z ∷ [])) ≡ ss) × FullG gs
Ok detail (tail ds ts t gs z) ss = (map (item detail) ds ++ (items_t ts ++ item grt t ∷ (items_g gs ++ item trl z ∷ [])) ≡ ss) × FullG gs
Ok grt (tail ds ts t gs z) ss = (items_g gs ++ item trl z ∷ [] ≡ ss) × FullG gs
Ok trl (tail ds ts t gs z) ss = [] ≡ ss
Ok unknown (tail ds ts t gs z) ss = Unit {0}

-- one record in front
hdr-grh : (s : Bytes) (b : Tail) (ss : List Item) → Ok grh b ss → Ok hdr (onto grh s b) (item grh s ∷ ss)
hdr-grh s (tail ds ts t gs z) ss k = (rw (append_assoc, k.0), tt, (k.1, k.2))

grt-grh : (s : Bytes) (b : Tail) (ss : List Item) → Ok grh b ss → Ok grt (onto grh s b) (item grh s ∷ ss)
grt-grh s (tail ds ts t gs z) ss k = (rw (append_assoc, k.0), (k.1, k.2))

grt-trl : (s : Bytes) (b : Tail) (ss : List Item) → Ok trl b ss → Ok grt (onto trl s b) (item trl s ∷ ss)
grt-trl s (tail ds ts t gs z) ss k = (rw k, tt)

grh-head : (s : Bytes) (b : Tail) (ss : List Item) → Ok head b ss → Ok grh (onto head s b) (item head s ∷ ss)
grh-head s (tail ds ts t gs z) ss k = (rw (append_assoc, k.0), tt, k.1)

in_head : (s : Bytes) (b : Tail) (ss : List Item) → Ok head b ss → Ok head (onto head s b) (item head s ∷ ss)
in_head s (tail ds ts t gs z) ss k = (rw (append_assoc, k.0), k.1)

in-detail : (s : Bytes) (b : Tail) (ss : List Item) → Ok detail b ss → Ok head (onto detail s b) (item detail s ∷ ss)
in-detail s (tail ds ts t gs z) ss k = (rw k.0, k.1)

in-grt : (s : Bytes) (b : Tail) (ss : List Item) → Ok grt b ss → Ok head (onto grt s b) (item grt s ∷ ss)
in-grt s (tail ds ts t gs z) ss k = (rw k.0, k.1)

as-detail : (b : Tail) (ss : List Item) → Ok head b ss → Ok detail b ss
as-detail (tail ds ts t gs z) ss k = k

any : (b : Tail) (ss : List Item) → Ok unknown b ss
any (tail ds ts t gs z) ss = tt

pub class-code : (c : Class) → class_at (code c) ≡ c
class-code hdr = refl
class-code grh = refl
class-code head = refl
class-code detail = refl
class-code grt = refl
class-code trl = refl
class-code unknown = refl

pub is→eq : (c d : Class) → T (is c d) → c ≡ d
is→eq c d t = sym (class-code c) ∙ ap class_at (eqb→eq (code c) (code d) t) ∙ class-code d

module _ (P : Class → Type 0) where
  pub by_one : (c e : Class) → T (is c e) → P c → P e
  by_one c e t = subst P (is→eq c e t)

  pub by_two : (c d e : Class) → T (is c e || is d e) → P c → P d → P e
  by_two c d e t p q = or_elim (is c e) (is d e) t (λ u. by_one c e u p) (λ u. by_one d e u q)

  pub by_three : (c d f e : Class) → T (is c e || is d e || is f e) → P c → P d → P f → P e
  by_three c d f e t p q r = or_elim (is c e || is d e) (is f e) t (λ u. by_two c d e u p q) (λ u. by_one f e u r)

in_group : (c : Class) (s : Bytes) (b : Tail) (ss : List Item) → T (may_follow head c) → Ok c b ss → Ok head (onto c s b) (item c s ∷ ss)
in_group c s b ss a =
    by_three (λ e. Ok e b ss → Ok head (onto e s b) (item e s ∷ ss)) head detail grt c a (in_head s b ss) (in-detail s b ss) (in-grt s b ss)

joins : (p c : Class) (s : Bytes) (b : Tail) (ss : List Item) → T (may_follow p c) → Ok c b ss → Ok p (onto c s b) (item c s ∷ ss)
joins hdr c s b ss a = by_one (λ e. Ok e b ss → Ok hdr (onto e s b) (item e s ∷ ss)) grh c a (hdr-grh s b ss)
joins grh c s b ss a = by_one (λ e. Ok e b ss → Ok grh (onto e s b) (item e s ∷ ss)) head c a (grh-head s b ss)
joins head c s b ss a = in_group c s b ss a
joins detail c s b ss a = λ k. as-detail (onto c s b) (item c s ∷ ss) (in_group c s b ss a k)
joins grt c s b ss a = by_two (λ e. Ok e b ss → Ok grt (onto e s b) (item e s ∷ ss)) grh trl c a (grt-grh s b ss) (grt-trl s b ss)
joins trl c s b ss a = absurd a
joins unknown c s b ss a = λ _. any (onto c s b) (item c s ∷ ss)

follows-ok : (p : Class) (ss : List Item) → Places p ss → Ok p (back ss) ss
follows-ok hdr [] h = absurd h
follows-ok grh [] h = absurd h
follows-ok head [] h = absurd h
follows-ok detail [] h = absurd h
follows-ok grt [] h = absurd h
follows-ok trl [] h = refl
follows-ok unknown [] h = tt
follows-ok p (item c s ∷ ss) h = joins p c s (back ss) ss h.0 (follows-ok c ss h.1)

pub record Shaped (ss : List Item) (d : Doc) : Type 0 where
  pub same : items d ≡ ss
  pub some_groups : NotEmpty d.groups
  pub some_transactions : All (λ (g : Group). NotEmpty g.transactions) d.groups

pub places-tree : (ss : List Item) → Places unknown ss → Shaped ss (build ss)
unfolding items
places-tree [] h = absurd h
places-tree (item c s ∷ ss) h =
    by_one (λ e. Places e ss → Shaped (item e s ∷ ss) (under s (back ss))) hdr c h.0 (λ k. go (back ss) (follows-ok hdr ss k)) h.1
  where
    go : (b : Tail) → Ok hdr b ss → Shaped (item hdr s ∷ ss) (under s b)
    go (tail ds ts t gs z) k = record { same = rw k.0; some_groups = k.1; some_transactions = k.2 }

-- ---- a tree's list has right places

as-head : (ss : List Item) → Places head ss → Places detail ss
as-head [] h = h
as-head (item c s ∷ ss) h = h

places-details : (ds : List Bytes) (ss : List Item) → Places head ss → Places head (map (item detail) ds ++ ss)
places-details [] ss h = h
places-details (d ∷ ds) ss h = (tt, as-head (map (item detail) ds ++ ss) (places-details ds ss h))

-- after any record that a header may follow
module _ (p : Class) (a : T (may_follow p head)) where
  places-header : (x : Transaction) (xs : List Transaction) (ss : List Item) → Places head (items_t xs ++ ss) → Places p (items_t (x ∷ xs) ++ ss)
  places-header x xs ss h = (a, rw (append_assoc (map (item detail) x.details) (items_t xs) ss) (places-details x.details (items_t xs ++ ss) h))

places-transactions : (ts : List Transaction) (ss : List Item) → Places head ss → Places head (items_t ts ++ ss)
places-transactions [] ss h = h
places-transactions (x ∷ xs) ss h = places-header head tt x xs ss (places-transactions xs ss h)

places-opened : (ts : List Transaction) (ss : List Item) → NotEmpty ts → Places head ss → Places grh (items_t ts ++ ss)
places-opened [] ss n h = absurd n
places-opened (x ∷ xs) ss n h = places-header grh tt x xs ss (places-transactions xs ss h)

-- after any record that a GRH may follow
module _ (p : Class) (a : T (may_follow p grh)) where
  places-group : (g : Group) (gs : List Group) (ss : List Item) → NotEmpty g.transactions → Places grt (items_g gs ++ ss)
      → Places p (items_g (g ∷ gs) ++ ss)
  places-group g gs ss n h =
      let closed = item grt g.closing in
      (a, rw (append_assoc (items_t g.transactions) (closed ∷ items_g gs) ss) (places-opened g.transactions (closed ∷ (items_g gs ++ ss)) n (tt, h)))

places-groups : (gs : List Group) (z : Bytes) → FullG gs → Places grt (items_g gs ++ item trl z ∷ [])
places-groups [] z f = (tt, tt)
places-groups (g ∷ gs) z f = places-group grt tt g gs (item trl z ∷ []) f.0 (places-groups gs z f.1)

after-hdr : (gs : List Group) (z : Bytes) → NotEmpty gs → FullG gs → Places hdr (items_g gs ++ item trl z ∷ [])
after-hdr [] z n f = absurd n
after-hdr (g ∷ gs) z n f = places-group hdr tt g gs (item trl z ∷ []) f.0 (places-groups gs z f.1)

pub tree_places : (d : Doc) → NotEmpty d.groups → All (λ (g : Group). NotEmpty g.transactions) d.groups → Places unknown (items d)
unfolding items
tree_places d n f = (tt, after-hdr d.groups d.trailer n f)
