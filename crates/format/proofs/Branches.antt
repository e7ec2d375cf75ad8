-- The tree of a file's records (specs/Tree): its leaves are the records again, and with the number positions cut out it is the content that
-- demand 3 speaks of. Then the laws of a walk: where a transaction and a group end, what is left is the tree of what is left. Assumes nothing.
use mathlib.Core.Path.{◌≡◌, refl, sym, ap, ◌∙◌, subst}
use mathlib.Core.Bool.{Bool, true, false}
use mathlib.Core.List.{List, [], ◌∷◌, ◌++◌, map, append_assoc, map-append}
use lib.ListN.{length-map}
use Rattle.format.specs.Bytes.{Bytes, All}
use Rattle.format.specs.Doc.{Doc, Group, Transaction, records_t, transactions_of, records_of, write}
use Rattle.format.specs.Table.{Class, detail, grt, trl, unknown, Table}
use Rattle.format.specs.WellFormed.{Item, item, items_t, items_g, items, WellFormed}
use Rattle.format.specs.Checks.{cls, cut, check7, AlongFrom, Along}
use Rattle.format.specs.Tree.{span, after, last_of, is_detail, is_inside, transactions_in, groups_in}
use Rattle.format.specs.Tree.{tree, records_in_t, records_in_g, leaves, cut_t, cut_g, numberless}
use Rattle.format.specs.Numbering.{held}
use Rattle.format.specs.Claims.{lengths, Grows}
use Rattle.format.proofs.Logic.{All-append}
use Rattle.format.proofs.Passes.{Places}
use Rattle.format.proofs.Tree.{build, build-items, Shaped, places-tree}
use Rattle.format.proofs.Demand3.{doc_of, passes-accepted, accepted-content, passes-limits, content-passes}

-- ---- spans

-- p fails at the front
abbrev pub Stops : (Bytes → Bool) → List Bytes → Type 0
Stops p [] = Unit {0}
Stops p (r ∷ rs) = p r ≡ false

module _ (p : Bytes → Bool) where
  pub span-all : (xs ys : List Bytes) → All (λ r. p r ≡ true) xs → Stops p ys → span p (xs ++ ys) ≡ xs
  span-all [] [] h s = refl
  span-all [] (y ∷ ys) h s = rw s
  span-all (x ∷ xs) ys h s = rw (h.0, span-all xs ys h.1 s)

  pub after_all : (xs ys : List Bytes) → All (λ r. p r ≡ true) xs → Stops p ys → after p (xs ++ ys) ≡ ys
  after_all [] [] h s = refl
  after_all [] (y ∷ ys) h s = rw s
  after_all (x ∷ xs) ys h s = rw (h.0, after_all xs ys h.1 s)

last_end : (xs : List Bytes) (z : Bytes) → last_of (xs ++ z ∷ []) ≡ z
last_end [] z = refl
last_end (x ∷ []) z = refl
last_end (x ∷ y ∷ xs) z = last_end (y ∷ xs) z

module _ (𝕋 : Table) where
  -- ---- a tree is found again from its leaves, if each of them has the class of its place

  abbrev Own : Item → Type 0
  Own (item c s) = cls 𝕋 s ≡ c

  own-details : (ds : List Bytes) (rest : List Item) → All Own (map (item detail) ds ++ rest) → All (λ r. cls 𝕋 r ≡ detail) ds × All Own rest
  own-details [] rest h = (tt, h)
  own-details (d ∷ ds) rest h = let (a, b) = own-details ds rest h.1 in ((h.0, a), b)

  -- details are inside and begin nothing
  details-are : (ds : List Bytes) → All (λ r. cls 𝕋 r ≡ detail) ds → All (λ r. is_detail 𝕋 r ≡ true) ds
  details-are [] h = tt
  details-are (d ∷ ds) h = (rw h.0, details-are ds h.1)

  details-inside : (ds : List Bytes) → All (λ r. cls 𝕋 r ≡ detail) ds → All (λ r. is_inside 𝕋 r ≡ true) ds
  details-inside [] h = tt
  details-inside (d ∷ ds) h = (rw h.0, details-inside ds h.1)

  no_header : (ds rs : List Bytes) → All (λ r. cls 𝕋 r ≡ detail) ds → transactions_in 𝕋 (ds ++ rs) ≡ transactions_in 𝕋 rs
  no_header [] rs h = refl
  no_header (d ∷ ds) rs h = rw (h.0, no_header ds rs h.1)

  -- a header begins no detail
  header-next : (ts : List Transaction) (rest : List Item) → All Own (items_t ts ++ rest) → Stops (is_detail 𝕋) (records_in_t ts)
  header-next [] rest h = tt
  header-next (x ∷ xs) rest h = rw h.0

  -- after a header: its details, then the next transactions
  after-header : (x : Transaction) (xs : List Transaction) (rest : List Item) → All Own (items_t (x ∷ xs) ++ rest)
      → All (λ r. cls 𝕋 r ≡ detail) x.details × All Own (items_t xs ++ rest)
  after-header x xs rest h =
      own-details x.details (items_t xs ++ rest) (subst (All Own) (append_assoc (map (item detail) x.details) (items_t xs) rest) h.1)

  own-inside : (ts : List Transaction) (rest : List Item) → All Own (items_t ts ++ rest)
      → All (λ r. is_inside 𝕋 r ≡ true) (records_in_t ts) × All Own rest
  own-inside [] rest h = (tt, h)
  own-inside (x ∷ xs) rest h =
      let (d, k) = after-header x xs rest h in
      let (i, e) = own-inside xs rest k in
      ((rw h.0, All-append (λ r. is_inside 𝕋 r ≡ true) x.details (records_in_t xs) (details-inside x.details d) i), e)

  transactions-found : (ts : List Transaction) (rest : List Item) → All Own (items_t ts ++ rest) → transactions_in 𝕋 (records_in_t ts) ≡ ts
  transactions-found [] rest h = refl
  transactions-found (x ∷ xs) rest h =
      let (d, k) = after-header x xs rest h in
      rw (
        h.0,
        span-all (is_detail 𝕋) x.details (records_in_t xs) (details-are x.details d) (header-next xs rest k),
        no_header x.details (records_in_t xs) d,
        transactions-found xs rest k,
      )

  no-group : (ts : List Transaction) (rest : List Item) (rs : List Bytes) → All Own (items_t ts ++ rest)
      → groups_in 𝕋 (records_in_t ts ++ rs) ≡ groups_in 𝕋 rs
  no-group [] rest rs h = refl
  no-group (x ∷ xs) rest rs h =
      let (d, k) = after-header x xs rest h in
      rw (h.0, append_assoc x.details (records_in_t xs) rs) (no-detail x.details (records_in_t xs ++ rs) d ∙ no-group xs rest rs k)
    where
      no-detail : (ds qs : List Bytes) → All (λ r. cls 𝕋 r ≡ detail) ds → groups_in 𝕋 (ds ++ qs) ≡ groups_in 𝕋 qs
      no-detail [] qs h = refl
      no-detail (d ∷ ds) qs h = rw (h.0, no-detail ds qs h.1)

  groups-found : (gs : List Group) (z : Bytes) → All Own (items_g gs ++ item trl z ∷ []) → groups_in 𝕋 (records_in_g gs ++ z ∷ []) ≡ gs
  groups-found [] z h = rw h.0
  groups-found (g ∷ gs) z h =
      let rest = item grt g.closing ∷ items_g gs ++ item trl z ∷ [] in
      let k : All Own (items_t g.transactions ++ rest) =
      subst (All Own) (append_assoc (items_t g.transactions) (item grt g.closing ∷ items_g gs) (item trl z ∷ [])) h.1 in
      let (i, e) = own-inside g.transactions rest k in
      let rs = g.closing ∷ records_in_g gs ++ z ∷ [] in
      let stop : is_inside 𝕋 g.closing ≡ false = rw e.0 in
      let skip : groups_in 𝕋 rs ≡ groups_in 𝕋 (records_in_g gs ++ z ∷ []) = rw e.0 in
      let own = records_in_t g.transactions in
      rw (
        h.0,
        append_assoc own (g.closing ∷ records_in_g gs) (z ∷ []),
        span-all (is_inside 𝕋) own rs i stop,
        after_all (is_inside 𝕋) own rs i stop,
        transactions-found g.transactions rest k,
        no-group g.transactions rest rs k,
        skip,
        groups-found gs z e.1,
      )

  tree-found : (d : Doc) → All Own (items d) → tree 𝕋 (leaves d) ≡ d
  unfolding items leaves tree
  tree-found d h = rw (h.0, last_end (d.header ∷ records_in_g d.groups) d.trailer, groups-found d.groups d.trailer h.1)

-- ---- leaves and items

abbrev bytes_of : Item → Bytes
bytes_of (item c s) = s

bytes-details : (ds : List Bytes) → map bytes_of (map (item detail) ds) ≡ ds
bytes-details [] = refl
bytes-details (d ∷ ds) = ap (λ l. d ∷ l) (bytes-details ds)

bytes-transactions : (ts : List Transaction) → map bytes_of (items_t ts) ≡ records_in_t ts
bytes-transactions [] = refl
bytes-transactions (x ∷ xs) = rw (map-append bytes_of (map (item detail) x.details) (items_t xs), bytes-details x.details, bytes-transactions xs)

bytes-groups : (gs : List Group) → map bytes_of (items_g gs) ≡ records_in_g gs
bytes-groups [] = refl
bytes-groups (g ∷ gs) =
    rw (map-append bytes_of (items_t g.transactions) (item grt g.closing ∷ items_g gs), bytes-transactions g.transactions, bytes-groups gs)

bytes-items : (d : Doc) → map bytes_of (items d) ≡ leaves d
unfolding items leaves
bytes-items d = rw (map-append bytes_of (items_g d.groups) (item trl d.trailer ∷ []), bytes-groups d.groups)

abbrev cut_item : Item → Item
cut_item (item c s) = item c (cut c s)

cut-details : (ds : List Bytes) → map cut_item (map (item detail) ds) ≡ map (item detail) (map (cut detail) ds)
cut-details [] = refl
cut-details (d ∷ ds) = ap (λ l. item detail (cut detail d) ∷ l) (cut-details ds)

cut-transactions : (ts : List Transaction) → map cut_item (items_t ts) ≡ items_t (map cut_t ts)
cut-transactions [] = refl
cut-transactions (x ∷ xs) = rw (map-append cut_item (map (item detail) x.details) (items_t xs), cut-details x.details, cut-transactions xs)

cut-groups : (gs : List Group) → map cut_item (items_g gs) ≡ items_g (map cut_g gs)
cut-groups [] = refl
cut-groups (g ∷ gs) =
    rw (map-append cut_item (items_t g.transactions) (item grt g.closing ∷ items_g gs), cut-transactions g.transactions, cut-groups gs)

cut-items : (d : Doc) → map cut_item (items d) ≡ items (numberless d)
unfolding items numberless
cut-items d = rw (map-append cut_item (items_g d.groups) (item trl d.trailer ∷ []), cut-groups d.groups)

-- ---- the tree of a file's records

module _ (𝕋 : Table) where
  abbrev whole : Bytes → Item
  whole r = item (cls 𝕋 r) r

  whole-own : (rs : List Bytes) → All (Own 𝕋) (map whole rs)
  whole-own [] = tt
  whole-own (r ∷ rs) = (refl, whole-own rs)

  whole-bytes : (rs : List Bytes) → map bytes_of (map whole rs) ≡ rs
  whole-bytes [] = refl
  whole-bytes (r ∷ rs) = ap (λ l. r ∷ l) (whole-bytes rs)

  whole-cut : (rs : List Bytes) → map cut_item (map whole rs) ≡ map (held 𝕋) rs
  whole-cut [] = refl
  whole-cut (r ∷ rs) = ap (λ l. held 𝕋 r ∷ l) (whole-cut rs)

  whole-places : (p : Class) (rs : List Bytes) → AlongFrom (check7 𝕋) p rs → Places p (map whole rs)
  whole-places p [] h = h
  whole-places p (r ∷ rs) h = (h.0, whole-places (cls 𝕋 r) rs h.1)

  module _ (rs : List Bytes) (placed : Along (check7 𝕋) rs) where
    built : Shaped (map whole rs) (build (map whole rs))
    built = places-tree (map whole rs) (whole-places unknown rs placed)

    built-leaves : leaves (build (map whole rs)) ≡ rs
    built-leaves = sym (bytes-items (build (map whole rs))) ∙ ap (map bytes_of) built.same ∙ whole-bytes rs

    tree-built : tree 𝕋 rs ≡ build (map whole rs)
    tree-built =
        ap (tree 𝕋) (sym built-leaves)
        ∙ tree-found 𝕋 (build (map whole rs)) (subst (All (Own 𝕋)) (sym built.same) (whole-own rs))

    -- its leaves are the records
    pub tree-leaves : leaves (tree 𝕋 rs) ≡ rs
    tree-leaves = ap leaves tree-built ∙ built-leaves

    -- without their numbers it is the content
    pub tree-content : numberless (tree 𝕋 rs) ≡ doc_of 𝕋 rs
    unfolding doc_of
    tree-content =
        sym (build-items (numberless (tree 𝕋 rs)))
        ∙ ap build (sym (cut-items (tree 𝕋 rs)) ∙ ap (map cut_item) (ap items tree-built ∙ built.same) ∙ whole-cut rs)

-- ---- and so of a file that passes

records-cut_t : (ts : List Transaction) → records_t (map cut_t ts) ≡ records_t ts
records-cut_t [] = refl
records-cut_t (x ∷ xs) = rw (length-map x.details (cut detail), records-cut_t xs)

transactions-cut_g : (gs : List Group) → transactions_of (map cut_g gs) ≡ transactions_of gs
transactions-cut_g [] = refl
transactions-cut_g (g ∷ gs) = rw (length-map g.transactions cut_t, transactions-cut_g gs)

records-cut_g : (gs : List Group) → records_of (map cut_g gs) ≡ records_of gs
records-cut_g [] = refl
records-cut_g (g ∷ gs) = rw (records-cut_t g.transactions, records-cut_g gs)

lengths-cut : (d : Doc) → lengths (numberless d) ≡ lengths d
unfolding numberless
lengths-cut d = rw (length-map d.groups cut_g, transactions-cut_g d.groups, records-cut_g d.groups)

module _ (𝕋 : Table) where
  pub grows : Grows 𝕋
  grows f rs g m n e p =
      let a = passes-accepted 𝕋 f rs e g m n p in
      let c = tree-content 𝕋 rs a.in_place.seven in
      let (w, b) = subst (λ (d : Doc). WellFormed 𝕋 d × (write d ≡ f)) (sym c) (accepted-content 𝕋 f rs e a) in
      record {
        same_leaves = tree-leaves 𝕋 rs a.in_place.seven;
        same_counts = sym (lengths-cut (tree 𝕋 rs)) ∙ sym (content-passes 𝕋 f (passes-limits 𝕋 f g m n p) (numberless (tree 𝕋 rs), w, b)) ∙ p;
        content = (w, b);
      }
